-- Over a file 8, 9 and 10 name a column, x or y, and no other number does: so the programs' line tells column and value for these three and no others. And
-- each refusal's number, page, column and index fit the bits that a word of the C face has for them. Nothing is assumed.
use Prim.Native.Nat.{ℕ, zero, suc, ◌≤◌, ◌<◌}
use mathlib.Core.Path.{◌≡◌, refl, sym, ap, ◌∙◌, subst}
use mathlib.Core.Bool.{Bool, true, false, not, ◌&&◌, ◌||◌}
use mathlib.Core.List.{List, [], ◌∷◌}
use native.Mathlib.Omega.{arith}
use borrow.Author.Tests.{eq-eqb, eqb-true, ltb-true}
use lib.Dec.{eqb, ltb}
use lib.ListN.{length, drop}
use lib.Seq.{drop-nil}
use Rattle.answer.specs.Axis as Axis
use Rattle.answer.specs.declared.Refusal.{Refusal}
use Rattle.answer.specs.Refusal.{on_page}
use Rattle.answer.specs.All.{all_of}
use Rattle.answer.specs.Outcome.{Out, refused, ok}
use Rattle.answer.proofs.Both.{no_both, both, both_l, both_r}
use Rattle.le.specs.Number.{Bytes}
use Rattle.column.specs.Read.{decode_of}
use Rattle.query.specs.declared.ask.Ask.{Ask}
use Rattle.frame.specs.declared.head.Head.{Head}
use Rattle.frame.specs.Frame.{Page, Frame, frame_of}
use Rattle.frame.specs.Whole.{Says, AllSay, more}
use Rattle.frame.proofs.Heads.{head-is, head-limits}
use Rattle.frame.proofs.Wholes.{frame_is}
use Rattle.page.specs.Contents.{x_part, y_part}
use Rattle.file.specs.Check.{check_of}
use Rattle.search.specs.Search.{search_of, count_of}
use Rattle.search.specs.Listed.{listed}
use Rattle.fetch.specs.Fetch.{shape_in, Rooms, fetch_of}
use Rattle.place.specs.Rows.{rows_of}
use Rattle.viewer.proofs.Fitting.{Fits}
use Rattle.promises.specs.Refusing.{Refuses}
use Rattle.promises.specs.Numbers as numbers
use Rattle.promises.specs.Numbers.{tidy, IsBy}
use Rattle.promises.specs.Values.{InColumns, neither, in_x, in_y, named}
use Rattle.promises.specs.Pages.{IsPage, InFrame, first, behind, EveryPage, MetPages, PlacePage, NoPages, Paged, HasPage, frame_refusal, contents_refusal, other_refusal}
use Rattle.promises.proofs.Refusals.{so-gives}
use Rattle.promises.proofs.Numbers.{by-listed, by-tidy, plain-listed, decode-gives}
use Rattle.promises.proofs.PassedBlocks.{passed-within, passed-counts}
use Rattle.promises.proofs.InPages.{contents-columns, columns-most}
use Rattle.promises.proofs.Pages.{check-page, count-page, search-page, place-page, fetch-page, rows-page}

-- ---- what is so of each of a list of numbers

pub each-one : (test : ℕ → Bool) (ns : List ℕ) → all_of test ns ≡ true → (n : ℕ) → listed n ns ≡ true → test n ≡ true
unfolding listed all_of
each-one test [] h n e = absurd (no_both refl e)
each-one test (m ∷ ns) h n e = go (eqb n m) refl e (both_l (test m) (all_of test ns) h) (λ k. each-one test ns (both_r (test m) (all_of test ns) h) n k)
  where
    go : (t : Bool) → eqb n m ≡ t → (t || listed n ns) ≡ true → test m ≡ true → (listed n ns ≡ true → test n ≡ true) → test n ≡ true
    go true z k f g = subst (λ (x : ℕ). test x ≡ true) (sym (eqb-true n m z)) f
    go false z k f g = g k

-- none of 8, 9 and 10, and each below 2 ^ 8
abbrev pub other : ℕ → Bool
other n = not (listed n numbers.column_bits) && ltb n 256

abbrev pub others : List ℕ → Bool
others ns = all_of other ns

other-false : (n : ℕ) → other n ≡ true → listed n numbers.column_bits ≡ false
other-false n h = go (listed n numbers.column_bits) (both_l (not (listed n numbers.column_bits)) (ltb n 256) h)
  where
    go : (t : Bool) → not t ≡ true → t ≡ false
    go true e = absurd (no_both refl e)
    go false e = refl

other-small : (n : ℕ) → other n ≡ true → n < 256
other-small n h = ltb-true n 256 (both_r (not (listed n numbers.column_bits)) (ltb n 256) h)

bits_small : (n : ℕ) → listed n numbers.column_bits ≡ true → n < 256
unfolding listed all_of
bits_small n e = ltb-true n 256 (each-one (λ (m : ℕ). ltb m 256) numbers.column_bits refl n e)

-- ---- a refusal, by what it names

-- no column: by another number
no-column : (w : Refusal) → listed w.number numbers.column_bits ≡ false → (eqb w.column Axis.none && eqb w.index 0) ≡ true → named w ≡ true
no-column w l h = simp l h

tidy-none : (w : Refusal) → listed w.number numbers.column_bits ≡ false → tidy w ≡ true → (eqb w.column Axis.none && eqb w.index 0) ≡ true
tidy-none w l h = simp l at h

-- a column: by one of the three
one-column : (w : Refusal) → listed w.number numbers.column_bits ≡ true → (eqb w.column Axis.x || eqb w.column Axis.y) ≡ true → named w ≡ true
one-column w l h = simp l h

-- what is told of a refusal: it is named, and its parts but the page fit their bits
pub record Told (w : Refusal) : Type 0 where
  pub names : named w ≡ true
  pub number : w.number < 256
  pub column : w.column < 4
  pub index : w.index ≤ 2048

told_none : (w : Refusal) → other w.number ≡ true → (eqb w.column Axis.none && eqb w.index 0) ≡ true → Told w
told_none w o h =
    let c : w.column ≡ 0 = eqb-true w.column 0 (both_l (eqb w.column 0) (eqb w.index 0) h) in
    let i : w.index ≡ 0 = eqb-true w.index 0 (both_r (eqb w.column 0) (eqb w.index 0) h) in
    record { names = no-column w (other-false w.number o) h; number = other-small w.number o; column = omega (arith, c); index = omega (arith, i) }

-- by one of such numbers
pub told-by : (ns : List ℕ) → others ns ≡ true → (w : Refusal) → IsBy ns w → Told w
told-by ns h w k =
    let o = each-one other ns h w.number (by-listed ns w k) in
    told_none w o (tidy-none w (other-false w.number o) (by-tidy ns w k))

-- in a page of at most 2,048 vertices
module _ (h : Head) (b : List ℕ) (few : h.v ≤ 2048) where
  told-column : (w : Refusal) (c : ℕ) → w.column ≡ c → c < 4 → (eqb c Axis.x || eqb c Axis.y) ≡ true → listed w.number numbers.column_bits ≡ true → w.index ≤ h.v → Told w
  told-column w c e l t n i =
      record {
        names = one-column w n (subst (λ (k : ℕ). (eqb k Axis.x || eqb k Axis.y) ≡ true) (sym e) t);
        number = bits_small w.number n;
        column = omega (arith, e, l);
        index = omega (arith, few, i);
      }

  by_bits : (s : List ℕ) (w : Refusal) → decode_of 64 s h.v ≡ refused w → listed w.number numbers.column_bits ≡ true
  by_bits s w e = plain-listed numbers.column_bits w ((decode-gives 64 s h.v).such w e)

  pub told-contents : (w : Refusal) → InColumns h b w → Told w
  unfolding listed all_of
  told-contents w (neither e c i) =
      told_none w (each-one other (11 ∷ 12 ∷ 13 ∷ 14 ∷ 15 ∷ 16 ∷ []) refl w.number e) (both (eq-eqb w.column 0 c) (eq-eqb w.index 0 i))
  told-contents w (in_x c q e) = told-column w Axis.x c (omega arith) refl (by_bits (x_part h b) _ e) (columns-most h b w (in_x c q e))
  told-contents w (in_y xs c q x e) = told-column w Axis.y c (omega arith) refl (by_bits (y_part h b) _ e) (columns-most h b w (in_y xs c q x e))

-- ---- the pages of a file

said_at : {edition : ℕ} (ps : List Page) → AllSay edition ps → (k : ℕ) (p : Page) (rest : List Page) → drop k ps ≡ p ∷ rest → Says edition p × (k < length ps)
said_at [] a k p rest d = absurd (let z : ◌≡◌ {A = ℕ} 0 (suc (length rest)) = ap length (sym (drop-nil k) ∙ d) in omega arith)
said_at {edition} (q ∷ ps) (more s a) zero p rest d = let e : q ≡ p = cc in (subst (Says edition) e s, omega arith)
said_at (q ∷ ps) (more s a) (suc k) p rest d = let r = said_at ps a k p rest d in (r.0, omega (arith, r.1))

module _ (s : List ℕ) (y : Bytes s) (f : Frame) (e : frame_of s ≡ ok f) (k : ℕ) (p : Page) (i : IsPage f.pages k p) where
  page-few : (p.head.v ≤ 2048) × (k < 1024)
  page-few =
      let file = frame_is s f y e in
      let r = said_at f.pages file.heads k p i.rest i.there in
      ((head-limits 1 p.body p.head (head-is 1 p.body p.head r.0.headed)).vertices, omega (arith, r.1, file.few))

-- ---- over a file

module _ (s : List ℕ) (y : Bytes s) (Opens : List Page → ℕ → Page → Type 0) (ns : List ℕ) (apart : others ns ≡ true) where
  told : (w : Refusal) → Paged s Opens ns w → Told w
  unfolding listed all_of
  told w (frame_refusal k i) = told-by numbers.frame refl w k
  told w (contents_refusal f k e i) =
      let p = i.page in
      let t = told-contents p.head p.body (page-few s y f e w.page p i.numbered).0 (on_page 0 w) ((contents-columns p.head p.body).such (on_page 0 w) i.refusal) in
      record { names = t.names; number = t.number; column = t.column; index = t.index }
  told w (other_refusal k z) = told-by ns apart w k

  in_frame : (w : Refusal) → InFrame s w → w.page ≤ 1024
  in_frame w (first e z) = omega (arith, z)
  in_frame w (behind c q e) = omega (arith, passed-counts s q, (passed-within s q).pages)

  paged : (w : Refusal) → Paged s Opens ns w → w.page ≤ 1024
  paged w (frame_refusal k i) = in_frame w i
  paged w (contents_refusal f k e i) = omega (arith, (page-few s y f e w.page i.page i.numbered).1)
  paged w (other_refusal k z) = omega (arith, z)

  fits : (w : Refusal) → Paged s Opens ns w → Fits w
  fits w h =
      let t = told w h in
      record { page = omega (arith, paged w h); number = omega (arith, t.number); column = omega (arith, t.column); index = omega (arith, t.index) }

  pub named-all : {A : Type 0} (o : Out A) → HasPage s Opens ns o → Refuses (λ w. (named w ≡ true) × Fits w) o
  named-all o g = so-gives _ _ o (λ w e h. ((told w h).names, fits w h)) g

-- the services
module _ (s : List ℕ) (y : Bytes s) where
  pub check-named : Refuses (λ w. (named w ≡ true) × Fits w) (check_of s)
  unfolding listed all_of
  check-named = named-all s y EveryPage [] refl (check_of s) (check-page s)

  pub count-named : (a : Ask) → Refuses (λ w. (named w ≡ true) × Fits w) (count_of a s)
  unfolding listed all_of
  count-named a = named-all s y (MetPages a) (1 ∷ []) refl (count_of a s) (count-page a s)

  pub search-named : (a : Ask) (room : ℕ) → Refuses (λ w. (named w ≡ true) × Fits w) (search_of a s room)
  unfolding listed all_of
  search-named a room = named-all s y (MetPages a) (1 ∷ 2 ∷ []) refl (search_of a s room) (search-page a s room)

  pub shape-named : (n : ℕ) → Refuses (λ w. (named w ≡ true) × Fits w) (shape_in s n)
  unfolding listed all_of
  shape-named n = named-all s y (PlacePage n) (17 ∷ 2 ∷ []) refl (shape_in s n) (place-page s n)

  pub fetch-named : (n : ℕ) (r : Rooms) → Refuses (λ w. (named w ≡ true) × Fits w) (fetch_of s n r)
  unfolding listed all_of
  fetch-named n r = named-all s y (PlacePage n) (17 ∷ 2 ∷ []) refl (fetch_of s n r) (fetch-page s n r)

  pub rows_named : (places : List ℕ) (registers types : ℕ) → Refuses (λ w. (named w ≡ true) × Fits w) (rows_of s places registers types)
  unfolding listed all_of
  rows_named places registers types = named-all s y NoPages (17 ∷ 2 ∷ []) refl (rows_of s places registers types) (rows-page s places registers types)
