-- What fetch gives: the n-th shape of a file that the full check accepts; never 17 for a place that the search lists, in any file; and every shape as it was
-- handed to the writer. Nothing is assumed.
use Prim.Native.Nat.{ℕ, ◌≤◌, ◌<◌}
use mathlib.Core.Path.{◌≡◌, refl, sym, ap, ◌∙◌, subst}
use mathlib.Core.Bool.{Bool, true, false}
use mathlib.Core.List.{List, ◌∷◌}
use native.Mathlib.Omega.{arith}
use lib.Dec.{leb}
use lib.ListN.{length, drop}
use Rattle.answer.specs.Table as table
use Rattle.answer.specs.declared.Refusal.{Refusal}
use Rattle.answer.specs.Refusal.{because}
use Rattle.answer.specs.Outcome.{Out, refused, ok, need, on}
use Rattle.answer.proofs.Outcomes.{never, refused-inj, met, need-ok, on-ok}
use Rattle.answer.proofs.Both.{no_both}
use Rattle.query.specs.declared.ask.Ask.{Ask}
use Rattle.shape.specs.Outline.{Shape}
use Rattle.page.specs.Contents.{contents_of}
use Rattle.answer.proofs.Orders.{on_value}
use Rattle.page.proofs.Contained.{contents-long}
use Rattle.file.specs.File.{shapes_in}
use Rattle.search.specs.Search.{hits_of, search_of}
use Rattle.search.specs.Listed.{listed}
use Rattle.search.proofs.Listed.{rising-listed}
use Rattle.search.proofs.Ordered.{hits-met, hits-ascend}
use Rattle.place.specs.Seek.{Seat, seat_of}
use Rattle.fetch.specs.Fetch.{shape_of, shape_in, Rooms, roomy, in_rooms, fetch_of}
use Rattle.place.proofs.Nth.{nth-some, nth_drop}
use Rattle.fetch.proofs.Opens.{place-seat, seat-refused, seat-contents}
use Rattle.fetch.proofs.Fetching.{fetch-nth}
use Rattle.fetch.proofs.Accepted.{seat-within, seat-inside}
use Rattle.writer.specs.Run.{Call, HalfWritten, TypedCalls, file_in}
use Rattle.promises.specs.Numbers as numbers
use Rattle.promises.specs.Writing.{ended, taken, handed_shapes}
use Rattle.promises.proofs.Numbers.{by-listed, plain-gives, contents-give}
use Rattle.promises.proofs.Writings.{closed-shapes}

-- with room for it, fetch gives the shape at a place
with-room : (s : List ℕ) (n : ℕ) (r : Rooms) (x : Shape) → roomy r x.outline ≡ true → shape_in s n ≡ ok x → fetch_of s n r ≡ ok x
unfolding fetch_of in_rooms
with-room s n r x k e = on_value (shape_in s n) _ x e ∙ met (because table.room) (ok x) k

-- the n-th shape of a file
pub fetch-is : (s : List ℕ) (n : ℕ) (r : Rooms) (ss : List Shape) (x : Shape) (rest : List Shape) → shapes_in s ≡ ok ss → drop n ss ≡ x ∷ rest
    → roomy r x.outline ≡ true → fetch_of s n r ≡ ok x
fetch-is s n r ss x rest e d k = with-room s n r x k (fetch-nth s n ss e ∙ nth_drop n ss rest x d)

-- a place that is listed has a seat
pub listed-seat : (a : Ask) (s : List ℕ) (room : ℕ) (l : List ℕ) (p : ℕ) → search_of a s room ≡ ok l → listed p l ≡ true → (t : Seat) × (seat_of s p ≡ ok t)
unfolding search_of
listed-seat a s room l p e h =
    let x = on-ok (hits_of a s) _ l e in
    let y = need-ok (leb (length x.0) room) (because table.room) (ok x.0) l x.2 in
    let hits : hits_of a s ≡ ok l = x.1 ∙ y.1 in
    let m = hits-met a s l hits in
    seat-within s p m.0 m.1 (rising-listed 0 l p (hits-ascend a s l hits) h).1

-- so its shape is never refused by 17
listed-shape : (a : Ask) (s : List ℕ) (room : ℕ) (l : List ℕ) (p : ℕ) (w : Refusal) → search_of a s room ≡ ok l → listed p l ≡ true
    → shape_in s p ≡ refused w → w.number ≡ table.place → ⊥
unfolding listed
listed-shape a s room l p w e h r q =
    let k = listed-seat a s room l p e h in
    let t : Seat = k.0 in
    go t (seat-inside s p t k.1) (contents_of t.held.head t.held.body) refl (sym (place-seat s p t k.1) ∙ r)
  where
    go : (t : Seat) → t.index < t.held.head.g → (o : Out (List Shape)) → contents_of t.held.head t.held.body ≡ o → shape_of t ≡ refused w → ⊥
    go t i (refused v) c f =
        let n : v.number ≡ 17 = ap (λ (x : Refusal). x.number) (refused-inj (sym (seat-refused t v c) ∙ f)) ∙ q in
        no_both refl (subst (λ (x : ℕ). listed x numbers.contents ≡ true) n (by-listed numbers.contents v ((plain-gives numbers.contents _ (contents-give t.held.head t.held.body)).such v c)))
    go t i (ok here) c f =
        let x = nth-some t.index here (omega (arith, i, contents-long t.held.head t.held.body here c)) in
        never (sym f ∙ seat-contents t here c ∙ x.1)

-- and neither is a fetch of it, with any rooms
pub listed-never-17 : (a : Ask) (s : List ℕ) (room : ℕ) (l : List ℕ) (p : ℕ) (k : Rooms) (w : Refusal) → search_of a s room ≡ ok l → listed p l ≡ true
    → fetch_of s p k ≡ refused w → w.number ≡ table.place → ⊥
unfolding fetch_of in_rooms need on
listed-never-17 a s room l p k w e h r q = go (shape_in s p) refl r
  where
    tested : (b : Bool) (x : Shape) → need b (because table.room) (ok x) ≡ refused w → ⊥
    tested true x f = never (sym f)
    tested false x f = let z : 2 ≡ w.number = ap (λ (y : Refusal). y.number) (refused-inj f) in omega (arith, z, q)

    go : (o : Out Shape) → shape_in s p ≡ o → on o (in_rooms k) ≡ refused w → ⊥
    go (refused v) c f = listed-shape a s room l p w e h (c ∙ f) q
    go (ok x) c f = tested (roomy k x.outline) x f

-- every shape as it was handed in
pub written-fetched : (h : HalfWritten) (cs : List Call) (l : 8 ≤ length h.buffer) (t : TypedCalls cs) (n : ℕ) (r : Rooms) (x : Shape) (rest : List Shape)
    → (ended h cs).state.closed ≡ true → drop n (handed_shapes (taken h cs)) ≡ x ∷ rest
    → roomy r x.outline ≡ true → fetch_of (file_in (ended h cs)) n r ≡ ok x
written-fetched h cs l t n r x rest c d = fetch-is (file_in (ended h cs)) n r (handed_shapes (taken h cs)) x rest (closed-shapes h cs l t c) d
