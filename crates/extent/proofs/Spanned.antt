-- The box of vertices by their two spans: it is their box in value, all are finite exactly where it is, and with the first met of two zeros it is the box that
-- is stored. Assumes nothing.
use Rattle.std.proofs.Common.{◌≡◌, ℕ, suc, ◌^◌, ◌<◌, ◌≤◌, Bool, true, false, ◌&&◌, List, [], ◌∷◌, length, get_or, drop, sym, refl, ap, ◌∙◌, subst, suc-le-suc, zero-le, arith}
use Rattle.answer.specs.All.{all_of}
use Rattle.answer.proofs.Both.{both, both_l, both_r, not-true, no_both}
use Rattle.le.specs.Number.{Fits}
use Rattle.extent.specs.Rank.{finite, all_finite, key}
use Rattle.extent.specs.declared.bounds.Bounds.{Bounds}
use Rattle.extent.specs.Boxes.{FiniteBox, four_finite, patterns, same_box, box_of, spot_of}
use Rattle.extent.specs.Span.{lower, higher, higher_flipped, carried, span_from, span_of, least_in, greatest_in, Spans, first_as}
use Rattle.extent.specs.Forms.{bounds_from, ValueBox}
use Rattle.extent.specs.FirstMet.{AtMost, Under, AtLeast, Above, Met}
use Rattle.extent.specs.declared.boxes.Box.{Box}
use Rattle.extent.specs.declared.span.Span.{Span}
use Rattle.extent.proofs.Keys.{at-most-le, same-eq}
use Rattle.extent.proofs.Axes.{finite-between, same-finite}
use Rattle.extent.proofs.Finite.{four-finite, zeros-finite}
use Rattle.extent.proofs.Firsts.{least-met, greatest-met}
use Rattle.extent.proofs.Boxed.{met-finite}
use Rattle.extent.proofs.Sames.{four_same, same-box-refl}
use Rattle.extent.proofs.Spanning.{span-spans}
use Rattle.extent.proofs.Zeros.{least_zero, greatest-zero, first-as}

-- ---- the span, as the walk makes it

pub span-made : (l : List ℕ) (s : Span) → 0 < length l → Fits 64 l
    → s ≡ span_from (carried lower (get_or l 0 0) (drop 1 l)) (carried higher (get_or l 0 0) (drop 1 l)) (carried higher_flipped (get_or l 0 0) (drop 1 l))
    → (s ≡ span_of l) × Spans l s
unfolding span_of
span-made [] s h w e = absurd (omega arith)
span-made (v ∷ vs) s h w e = (e, subst (Spans (v ∷ vs)) (sym e) (span-spans v vs (λ i j. w i)))

-- ---- the least and the greatest of a list with a value

pub least-in : (l : List ℕ) → 0 < length l → Met AtMost Under l (least_in l)
unfolding least_in
least-in [] h = absurd (omega arith)
least-in (v ∷ vs) h = least-met v vs

pub greatest-in : (l : List ℕ) → 0 < length l → Met AtLeast Above l (greatest_in l)
unfolding greatest_in
greatest-in [] h = absurd (omega arith)
greatest-in (v ∷ vs) h = greatest-met v vs

-- each passes
all-each : (f : ℕ → Bool) (l : List ℕ) → ((i : ℕ) → i < length l → f (get_or l i 0) ≡ true) → all_of f l ≡ true
unfolding all_of
all-each f [] p = refl
all-each f (v ∷ vs) p = both (p 0 (suc-le-suc zero-le)) (all-each f vs (λ i h. p (suc i) (suc-le-suc h)))

module _ (l : List ℕ) (s : Span) (h : 0 < length l) (k : Spans l s) where
  -- all are finite: so are both
  pub least-finite : all_finite l ≡ true → finite s.least ≡ true
  least-finite f = same-finite s.least (least_in l) k.least (met-finite AtMost Under l (least_in l) f (least-in l h))

  pub greatest-finite : all_finite l ≡ true → finite s.greatest ≡ true
  greatest-finite f = same-finite s.greatest (greatest_in l) k.greatest (met-finite AtLeast Above l (greatest_in l) f (greatest-in l h))

  -- both are finite: so are all, which lie between
  pub ends-finite : finite s.least ≡ true → finite s.greatest ≡ true → all_finite l ≡ true
  ends-finite f g = all-each finite l (λ i j. finite-between s.least (get_or l i 0) s.greatest f g (under i j) (over i j))
    where
      under : (i : ℕ) → i < length l → key s.least ≤ key (get_or l i 0)
      under i j =
          let e = same-eq s.least (least_in l) k.least in
          let m = at-most-le (least_in l) (get_or l i 0) ((least-in l h).best i j) in
          omega (arith, e, m)

      over : (i : ℕ) → i < length l → key (get_or l i 0) ≤ key s.greatest
      over i j =
          let e = same-eq s.greatest (greatest_in l) k.greatest in
          let m = at-most-le (get_or l i 0) (greatest_in l) ((greatest-in l h).best i j) in
          omega (arith, e, m)

  -- the first met of two zeros
  module _ (w : Fits 64 l) where
    least-word : least_in l < 2 ^ 64
    least-word = let m = least-in l h in subst (λ (b : ℕ). b < 2 ^ 64) (sym m.found) (w m.place)

    greatest-word : greatest_in l < 2 ^ 64
    greatest-word = let m = greatest-in l h in subst (λ (b : ℕ). b < 2 ^ 64) (sym m.found) (w m.place)

    pub first-least : s.least < 2 ^ 64 → first_as l s.least ≡ least_in l
    first-least v = first-as l s.least (least_in l) v least-word k.least (λ z. least_zero l (least_in l) z (least-in l h))

    pub first-greatest : s.greatest < 2 ^ 64 → first_as l s.greatest ≡ greatest_in l
    first-greatest v = first-as l s.greatest (greatest_in l) v greatest-word k.greatest (λ z. greatest-zero l (greatest_in l) z (greatest-in l h))

-- ---- the box of two lists

pub box_in : (xs ys : List ℕ) → 0 < length xs → 0 < length ys
    → box_of xs ys ≡ record { least_x = least_in xs; least_y = least_in ys; greatest_x = greatest_in xs; greatest_y = greatest_in ys }
unfolding box_of least_in greatest_in
box_in [] ys h k = absurd (omega arith)
box_in (x ∷ xs) [] h k = absurd (omega arith)
box_in (x ∷ xs) (y ∷ ys) h k = refl

module _ (xs ys : List ℕ) (x y : Span) (h : 0 < length xs) (l : length ys ≡ length xs) (p : (x ≡ span_of xs) × Spans xs x) (q : (y ≡ span_of ys) × Spans ys y) where
  some-y : 0 < length ys
  some-y = omega arith

  in_value : same_box (bounds_from x y) (box_of xs ys) ≡ true
  in_value =
      ap (same_box (bounds_from x y)) (box_in xs ys h some-y)
      ∙ four_same (bounds_from x y) _ (record { least_x = p.1.least; least_y = q.1.least; greatest_x = p.1.greatest; greatest_y = q.1.greatest })

  -- its four patterns are finite where all are
  pub spans-finite : all_finite xs ≡ true → all_finite ys ≡ true → FiniteBox (bounds_from x y)
  spans-finite f g = record {
    least_x = least-finite xs x h p.1 f;
    least_y = least-finite ys y some-y q.1 g;
    greatest_x = greatest-finite xs x h p.1 f;
    greatest_y = greatest-finite ys y some-y q.1 g;
  }

  -- and only there
  pub finite-spans : FiniteBox (bounds_from x y) → (all_finite xs && all_finite ys) ≡ true
  finite-spans f = both (ends-finite xs x h p.1 f.least_x f.greatest_x) (ends-finite ys y some-y q.1 f.least_y f.greatest_y)

  pub not-finite-spans : four_finite (bounds_from x y) ≡ false → (all_finite xs && all_finite ys) ≡ false
  not-finite-spans e =
      not-true (all_finite xs && all_finite ys)
      (λ t. no_both e (four-finite (bounds_from x y) (spans-finite (both_l (all_finite xs) (all_finite ys) t) (both_r (all_finite xs) (all_finite ys) t))))

  -- the box that is made of them
  pub boxes-made : (b : Box) → FiniteBox (bounds_from x y) → patterns b ≡ bounds_from x y → ValueBox xs ys b
  boxes-made b f e = record {
    spanned = e ∙ (λ i. bounds_from (p.0 i) (q.0 i));
    good = subst FiniteBox (sym e) f;
    in_value = ap (λ (r : Bounds). same_box r (box_of xs ys)) e ∙ in_value;
  }

  -- the box that is stored
  pub first_made : Fits 64 xs → Fits 64 ys → (s t u v : ℕ) → x.least < 2 ^ 64 → y.least < 2 ^ 64 → x.greatest < 2 ^ 64 → y.greatest < 2 ^ 64
      → s ≡ first_as xs x.least → t ≡ first_as ys y.least → u ≡ first_as xs x.greatest → v ≡ first_as ys y.greatest
      → record { least_x = s; least_y = t; greatest_x = u; greatest_y = v } ≡ box_of xs ys
  first_made wx wy s t u v a b c d e f g k =
      (λ i. record {
        least_x = (e ∙ first-least xs x h p.1 wx a) i;
        least_y = (f ∙ first-least ys y some-y q.1 wy b) i;
        greatest_x = (g ∙ first-greatest xs x h p.1 wx c) i;
        greatest_y = (k ∙ first-greatest ys y some-y q.1 wy d) i;
      })
      ∙ sym (box_in xs ys h some-y)

-- of no vertex, all zero
pub no-bounds : (xs ys : List ℕ) → length xs ≡ 0 → spot_of 0 0 ≡ box_of xs ys
unfolding box_of
no-bounds [] ys e = refl
no-bounds (x ∷ xs) ys e = absurd (omega arith)

-- and so the box of nothing
pub boxes-none : (xs ys : List ℕ) (b : Box) → length xs ≡ 0 → length ys ≡ length xs → patterns b ≡ spot_of 0 0 → ((all_finite xs && all_finite ys) ≡ true) × ValueBox xs ys b
unfolding span_of box_of all_of
boxes-none [] [] b h l e = (
  refl,
  record {
    spanned = e;
    good = subst FiniteBox (sym e) zeros-finite;
    in_value = ap (λ (r : Bounds). same_box r (spot_of 0 0)) e ∙ same-box-refl (spot_of 0 0);
  },
)
boxes-none [] (y ∷ ys) b h l e = absurd (omega arith)
boxes-none (x ∷ xs) ys b h l e = absurd (omega arith)
