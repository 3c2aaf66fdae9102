-- The walk over a file's pages: what was found with what is still to come is the whole. Assumes nothing.
use mathlib.Core.Path.{◌≡◌, refl, sym, ap, ◌∙◌}
use mathlib.Core.List.{List, [], ◌∷◌, ◌++◌}
use Prim.Native.Nat.{ℕ, suc, ◌+◌, ◌*◌, ◌-◌, ◌^◌, ◌≤◌, ◌<◌}
use native.Mathlib.Numerals.{add-one}
use native.Mathlib.Omega.{arith}
use lib.ListN.{length, length-append}
use lib.Pow.{pow_mono}
use Rattle.answer.specs.declared.Refusal.{Refusal}
use Rattle.answer.specs.Outcome.{Out, ok, on, refused}
use Rattle.le.specs.Number.{number}
use Rattle.query.specs.declared.ask.Ask.{Ask}
use Rattle.frame.specs.declared.cursor.Cursor.{Cursor}
use Rattle.frame.specs.declared.cursor.PageAt.{PageAt}
use Rattle.frame.specs.Next.{page, end, next_of}
use Rattle.frame.specs.Frame.{Page, page_of, frame_of}
use Rattle.frame.proofs.Found.{Paged, page-is}
use Rattle.frame.proofs.Walks.{pages-on, shapes-on, within_on}
use Rattle.frame.specs.Ahead.{Ahead, Begun}
use Rattle.frame.proofs.Ahead.{ahead-one, ahead-end, ahead-page, ahead-fewer}
use Rattle.search.specs.Ascending.{Ascending}
use Rattle.search.specs.Search.{page_hits, met_of, met_in}
use Rattle.search.specs.Flags.{bits_of}
use Rattle.search.specs.Met.{Meets}
use Rattle.search.specs.Skipped.{Skipping}
use Rattle.answer.proofs.Orders.{on_value}
use Rattle.search.proofs.Sequence.{met-none, met-order, met-refused, met-page, met-joined, met-alone, met-last, met-stopped}
use Rattle.search.proofs.Rising.{rising-few, rising-under}
use Rattle.search.proofs.Opened.{meets-refused, meets-ok, meets-refusal, meets-hits, page-ascends}

-- ---- bits of two runs of places

pub bits-append : (l m : List ℕ) → bits_of (l ++ m) ≡ bits_of l + bits_of m
unfolding bits_of
bits-append [] m = omega arith
bits-append (p ∷ l) m = let r = bits-append l m in omega (arith, r)

-- ---- the walk

-- at cursor c so many were found, and the flags d₀ have become d
pub record Meeting (a : Ask) (s d₀ : List ℕ) (c : Cursor) (found : ℕ) (d : List ℕ) : Type 0 where
  pub pages : List Page
  pub done : List ℕ
  pub ahead : Ahead s c pages
  pub same : met_in a s ≡ on (met_of a c.pages c.shapes pages) (λ l. ok (done ++ l))
  pub count : found ≡ length done
  pub few : found ≤ c.shapes
  pub long : length d ≡ length d₀
  pub low : 262144 ≤ 8 * length d₀ → number d₀ < 2 ^ 0 → number d < 2 ^ c.shapes
  pub bits : 262144 ≤ 8 * length d₀ → number d₀ < 2 ^ 0 → number d ≡ number d₀ + bits_of done

-- nothing yet
pub meeting-start : (a : Ask) (s d : List ℕ) (c : Cursor) → Begun s c → Meeting a s d c 0 d
unfolding bits_of
meeting-start a s d c b = record {
  pages = b.frame.pages;
  done = [];
  ahead = b.ahead;
  same = met-order a s ∙ on_value (frame_of s) _ b.frame b.framed ∙ rw (b.no_page, b.no_shape) (met-alone (met_of a 0 0 b.frame.pages));
  count = refl;
  few = omega arith;
  long = refl;
  low = λ _ l. rw b.no_shape l;
  bits = λ _ _. omega arith;
}

module _ (a : Ask) (s d₀ : List ℕ) (c : Cursor) (found : ℕ) (d : List ℕ) (w : Meeting a s d₀ c found d) where
  -- at the end all is done
  pub meeting-end : next_of s c ≡ ok end → Meets (met_in a s) 0 262144 (ok found) d₀ d
  meeting-end e = meets-ok found w.done all w.count (record { added = w.bits })
    where
      all : met_in a s ≡ ok w.done
      all =
          let z : w.pages ≡ [] = ahead-end s c w.pages w.ahead e in
          w.same ∙ met-last (met_of a c.pages c.shapes w.pages) w.done (ap (met_of a c.pages c.shapes) z ∙ met-none a c.pages c.shapes)

  module _ (p : PageAt) (here : next_of s c ≡ ok (page p)) where
    -- the page is found
    pub meeting-paged : Paged s c p
    meeting-paged = page-is s c p here

    pub meeting-room : c.shapes + p.head.g ≤ 262144
    meeting-room =
        let k = within_on s c w.ahead.within p meeting-paged in
        omega (arith, k.shapes, k.pages, shapes-on s c w.ahead.within p meeting-paged)

    pub meeting-fewer : 1025 - p.next.pages < 1025 - c.pages
    meeting-fewer = ahead-fewer s c w.pages w.ahead p here

    module _ (h : Out ℕ) (e' : List ℕ) (m : Meets (page_hits a c.pages c.shapes (page_of s p)) c.shapes (c.shapes + p.head.g) h d e') where
      rest : (qs : List Page) × (w.pages ≡ page_of s p ∷ qs) × Ahead s p.next qs
      rest = ahead-page s c w.pages w.ahead p here

      -- its contents are refused
      pub meeting-refused : (x : Refusal) → h ≡ refused x → Meets (met_in a s) 0 262144 (refused x) d₀ e'
      meeting-refused x q =
          meets-refused x
          (w.same
          ∙ met-stopped (met_of a c.pages c.shapes w.pages) w.done x
          (ap (met_of a c.pages c.shapes) rest.1 ∙ met-refused a c.pages c.shapes (page_of s p) rest.0 x (meets-refusal h m x q)))

      module _ (j : ℕ) (q : h ≡ ok j) where
        own : (l : List ℕ) × (page_hits a c.pages c.shapes (page_of s p) ≡ ok l) × (j ≡ length l)
        own = meets-hits h m j q

        rise : Ascending (c.shapes + p.head.g) c.shapes own.0
        rise = page-ascends a c.pages c.shapes (page_of s p) own.0 own.1

        shapes : p.next.shapes ≡ c.shapes + p.head.g
        shapes = shapes-on s c w.ahead.within p meeting-paged

        pub meeting-few : found + j ≤ p.next.shapes
        meeting-few =
            let o = own.2 in
            let b = rising-few {to = c.shapes + p.head.g} c.shapes own.0 (omega arith) rise in
            omega (arith, o, b, w.few, shapes)

        pub meeting-fits : found + j ≤ 262144
        meeting-fits = omega (arith, meeting-few, shapes, meeting-room)

        same : met_in a s ≡ on (met_of a p.next.pages p.next.shapes rest.0) (λ l. ok ((w.done ++ own.0) ++ l))
        same =
            let o = met_of a (suc c.pages) (c.shapes + p.head.g) rest.0 in
            let up : suc c.pages ≡ p.next.pages = sym (pages-on s c w.ahead.within p meeting-paged ∙ add-one c.pages) in
            w.same
            ∙ ap (λ (ps : List Page). on (met_of a c.pages c.shapes ps) (λ l. ok (w.done ++ l))) rest.1
            ∙ ap (λ (x : Out (List ℕ)). on x (λ l. ok (w.done ++ l))) (met-page a c.pages c.shapes (page_of s p) rest.0 own.0 own.1)
            ∙ met-joined o w.done own.0
            ∙ (λ i. on (met_of a (up i) (sym shapes i) rest.0) (λ l. ok ((w.done ++ own.0) ++ l)))

        grown : 262144 ≤ 8 * length d₀ → number d₀ < 2 ^ 0 → number e' ≡ number d + bits_of own.0
        grown t l = (m.flags own.0 own.1).added (omega (arith, t, w.long, meeting-room)) (w.low t l)

        -- its contents are read
        pub meeting-more : length e' ≡ length d → Meeting a s d₀ p.next (found + j) e'
        meeting-more t = record {
          pages = rest.0;
          done = w.done ++ own.0;
          ahead = rest.2;
          same = same;
          count = (let o = own.2 in omega (arith, o, w.count, length-append w.done own.0));
          few = meeting-few;
          long = t ∙ w.long;
          low = λ x y. lower x y;
          bits = λ x y. (let g = grown x y in let b = w.bits x y in omega (arith, g, b, bits-append w.done own.0));
        }
          where
            lower : 262144 ≤ 8 * length d₀ → number d₀ < 2 ^ 0 → number e' < 2 ^ p.next.shapes
            lower x y = rw (shapes, grown x y) (rising-under {to = c.shapes + p.head.g} c.shapes own.0 (number d) (omega arith) rise (w.low x y))

-- it goes on behind pages that are passed by
pub meeting-skip : (a : Ask) (s d₀ : List ℕ) (c : Cursor) (found : ℕ) (d : List ℕ) (e : Cursor) → Meeting a s d₀ c found d → Skipping a s c e → Meeting a s d₀ e found d
meeting-skip a s d₀ c found d e w k = record {
  pages = k.left;
  done = w.done;
  ahead = k.from_d;
  same = w.same
      ∙ ap (λ (ps : List Page). on (met_of a c.pages c.shapes ps) (λ l. ok (w.done ++ l))) (ahead-one s c w.pages k.coming w.ahead k.from_c)
      ∙ ap (λ (x : Out (List ℕ)). on x (λ l. ok (w.done ++ l))) k.same;
  count = w.count;
  few = omega (arith, w.few, k.further);
  long = w.long;
  low = λ x y. (let m : 2 ^ c.shapes ≤ 2 ^ e.shapes = pow_mono {i = c.shapes} {j = e.shapes} k.further in let l = w.low x y in omega (arith, m, l));
  bits = w.bits;
}
