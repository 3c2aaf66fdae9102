-- The box of vertices: its four patterns are the first met of its least and greatest, it is of good form, it holds each of its vertices, and it
-- covers the box of each part of them. Assumes nothing.
use Rattle.std.proofs.Common.{◌≡◌, ℕ, ◌+◌, ◌<◌, ◌≤◌, true, List, [], ◌∷◌, length, get_or, take, drop, ap, ◌∙◌, arith, length-drop, length-take}
use Rattle.answer.proofs.Both.{both}
use Rattle.answer.proofs.Alls.{all-at}
use Rattle.extent.specs.Rank.{finite, all_finite, at_most}
use Rattle.extent.specs.declared.bounds.Bounds.{Bounds}
use Rattle.extent.specs.Boxes.{FiniteBox, in_order, good_form, HoldsPoint, box_of}
use Rattle.extent.specs.FirstMet.{AtMost, Under, AtLeast, Above, Met, Boxed}
use Rattle.extent.proofs.Ranks.{at-most-trans}
use Rattle.extent.proofs.Finite.{four-finite}
use Rattle.extent.proofs.Firsts.{least-met, greatest-met, least-unique, greatest-unique, met-part}
use Rattle.extent.proofs.Forms.{order-good}

pub box-met : (xs ys : List ℕ) → 0 < length xs → 0 < length ys → Boxed xs ys (box_of xs ys)
unfolding box_of
box-met [] ys h k = absurd (omega arith)
box-met (x ∷ xs) [] h k = absurd (omega arith)
box-met (x ∷ xs) (y ∷ ys) h k = record { least_x = least-met x xs; least_y = least-met y ys; greatest_x = greatest-met x xs; greatest_y = greatest-met y ys }

-- the rule fixes the four patterns: a box of which each is met so is the one that the definition gives
pub boxed-unique : (xs ys : List ℕ) (p q : Bounds) → Boxed xs ys p → Boxed xs ys q → p ≡ q
boxed-unique xs ys p q b c i = record {
  least_x = least-unique xs p.least_x q.least_x b.least_x c.least_x i;
  least_y = least-unique ys p.least_y q.least_y b.least_y c.least_y i;
  greatest_x = greatest-unique xs p.greatest_x q.greatest_x b.greatest_x c.greatest_x i;
  greatest_y = greatest-unique ys p.greatest_y q.greatest_y b.greatest_y c.greatest_y i;
}

pub first-met : (xs ys : List ℕ) (p : Bounds) → 0 < length xs → 0 < length ys → Boxed xs ys p → p ≡ box_of xs ys
first-met xs ys p h k b = boxed-unique xs ys p (box_of xs ys) b (box-met xs ys h k)

-- it holds each vertex
pub box-holds : (xs ys : List ℕ) (i : ℕ) → i < length xs → length ys ≡ length xs → HoldsPoint (box_of xs ys) (get_or xs i 0) (get_or ys i 0)
box-holds xs ys i h l =
    let k : i < length ys = omega arith in
    let b = box-met xs ys (omega arith) (omega arith) in
    record { from_x = b.least_x.best i h; to_x = b.greatest_x.best i h; from_y = b.least_y.best i k; to_y = b.greatest_y.best i k }

-- what was met in a list of finite patterns is finite
pub met-finite : (R S : ℕ → ℕ → Type 0) (l : List ℕ) (v : ℕ) → all_finite l ≡ true → Met R S l v → finite v ≡ true
met-finite R S l v f m = ap finite m.found ∙ all-at finite l m.place 0 f m.inside

pub box-finite : (xs ys : List ℕ) → 0 < length xs → 0 < length ys → all_finite xs ≡ true → all_finite ys ≡ true → FiniteBox (box_of xs ys)
box-finite xs ys h k f g =
    let b = box-met xs ys h k in
    record {
      least_x = met-finite AtMost Under xs _ f b.least_x;
      least_y = met-finite AtMost Under ys _ g b.least_y;
      greatest_x = met-finite AtLeast Above xs _ f b.greatest_x;
      greatest_y = met-finite AtLeast Above ys _ g b.greatest_y;
    }

-- least is at most greatest: the first vertex lies between
met-between : (l : List ℕ) (v w : ℕ) → 0 < length l → Met AtMost Under l v → Met AtLeast Above l w → at_most v w ≡ true
met-between l v w h m n = at-most-trans v (get_or l 0 0) w (m.best 0 h) (n.best 0 h)

pub box-good : (xs ys : List ℕ) → 0 < length xs → length ys ≡ length xs → all_finite xs ≡ true → all_finite ys ≡ true → good_form (box_of xs ys) ≡ true
box-good xs ys h l f g = order-good (box_of xs ys) (four-finite (box_of xs ys) (box-finite xs ys h k f g)) order
  where
    k : 0 < length ys
    k = omega arith

    order : in_order (box_of xs ys) ≡ true
    order =
        let b = box-met xs ys h k in
        unfold in_order in both (met-between xs _ _ h b.least_x b.greatest_x) (met-between ys _ _ k b.least_y b.greatest_y)

-- ---- a box that covers another

pub record Covers (p q : Bounds) : Type 0 where
  pub from_x : at_most p.least_x q.least_x ≡ true
  pub from_y : at_most p.least_y q.least_y ≡ true
  pub to_x : at_most q.greatest_x p.greatest_x ≡ true
  pub to_y : at_most q.greatest_y p.greatest_y ≡ true

-- the box of all vertices covers that of the k vertices from i on
pub covers-part : (xs ys : List ℕ) (i k : ℕ) → 0 < k → i + k ≤ length xs → length ys ≡ length xs
    → Covers (box_of xs ys) (box_of (take k (drop i xs)) (take k (drop i ys)))
covers-part xs ys i k h m l =
    let b = box-met xs ys (omega arith) (omega arith) in
    let c = box-met (take k (drop i xs)) (take k (drop i ys)) (simp (length-take, length-drop) (omega arith)) (simp (length-take, length-drop) (omega arith)) in
    record {
      from_x = met-part AtMost Under xs i k _ _ b.least_x c.least_x;
      from_y = met-part AtMost Under ys i k _ _ b.least_y c.least_y;
      to_x = met-part AtLeast Above xs i k _ _ b.greatest_x c.greatest_x;
      to_y = met-part AtLeast Above ys i k _ _ b.greatest_y c.greatest_y;
    }
