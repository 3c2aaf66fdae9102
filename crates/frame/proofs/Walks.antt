-- Laws of the walk: one for each way through a turn of it, and what the code keeps from turn to turn. Assumes nothing.
use Prim.Native.Nat.{ℕ, zero, suc, ◌+◌, ◌-◌, ◌≤◌, ◌<◌}
use mathlib.Core.Path.{◌≡◌, refl, sym, ap, ◌∙◌}
use mathlib.Core.List.{List, [], ◌∷◌}
use native.Mathlib.Omega.{arith}
use lib.ListN.{length}
use Rattle.answer.specs.declared.Refusal.{Refusal}
use Rattle.answer.specs.Outcome.{Out, refused, ok, on}
use Rattle.answer.proofs.Determined.{answer-one}
use Rattle.answer.proofs.Outcomes.{ok-inj, on-ok}
use Rattle.answer.proofs.Orders.{on-stopped}
use Rattle.frame.specs.declared.cursor.Cursor.{Cursor}
use Rattle.frame.specs.declared.cursor.PageAt.{PageAt}
use Rattle.frame.specs.declared.walk.Totals.{Totals}
use Rattle.frame.specs.Next.{part, NextBlock, page, end, first_cursor, first_of, next_of}
use Rattle.frame.specs.Frame.{Page, Frame, page_of, walk, frame_of, shapes_of, page_totals, totals_of}
use Rattle.frame.specs.Ahead.{Within}
use Rattle.frame.proofs.Heads.{head-is, head-limits}
use Rattle.frame.proofs.Ways.{first_said, first-refusal-said}
use Rattle.frame.proofs.Found.{first-is, Paged, page-is}

-- ---- one turn of the walk

module _ (s : List ℕ) (c : Cursor) (n : ℕ) where
  pub walk_refused : (w : Refusal) → next_of s c ≡ refused w → walk (suc n) s c ≡ refused w
  unfolding walk on
  walk_refused w e = rw e

  pub walk_end : next_of s c ≡ ok end → walk (suc n) s c ≡ ok []
  unfolding walk on
  walk_end e = rw e

  pub walk-page : (p : PageAt) → next_of s c ≡ ok (page p) → walk (suc n) s c ≡ on (walk n s p.next) (λ ps. ok (page_of s p ∷ ps))
  unfolding walk on
  walk-page p e = rw e

-- ---- what a page that was found does to a cursor's counts

module _ (s : List ℕ) (c : Cursor) (w : Within c) (p : PageAt) (k : Paged s c p) where
  pub pages-on : p.next.pages ≡ c.pages + 1
  pages-on = ap (λ (x : Cursor). x.pages) k.next

  pub shapes-on : p.next.shapes ≡ c.shapes + p.head.g
  shapes-on = ap (λ (x : Cursor). x.shapes) k.next

  pub within_on : Within p.next
  within_on = record {
    pages = omega (arith, pages-on, k.few);
    shapes = omega (arith, pages-on, shapes-on, w.shapes, (head-limits _ _ _ (head-is c.edition (part s p.body p.len) p.head k.headed)).few);
  }

  -- the blocks that may follow are fewer
  pub fewer-on : 1025 - p.next.pages < 1025 - c.pages
  fewer-on = omega (arith, pages-on, k.few)

  pub fuel_on : 1025 - p.next.pages ≡ 1024 - c.pages
  fuel_on = omega (arith, pages-on, k.few)

-- there is a block more
pub fuel : (c : Cursor) → Within c → 1025 - c.pages ≡ suc (1024 - c.pages)
fuel c w = omega (arith, w.pages)

-- two walks that agree after a page agree before it
same_turn : (k m : ℕ) (s : List ℕ) (c : Cursor) → ((p : PageAt) → next_of s c ≡ ok (page p) → walk k s p.next ≡ walk m s p.next)
    → walk (suc k) s c ≡ walk (suc m) s c
same_turn k m s c r = go (next_of s c) refl
  where
    go : (t : Out NextBlock) → next_of s c ≡ t → walk (suc k) s c ≡ walk (suc m) s c
    go (refused v) e = walk_refused s c k v e ∙ sym (walk_refused s c m v e)
    go (ok end) e = walk_end s c k e ∙ sym (walk_end s c m e)
    go (ok (page p)) e = walk-page s c k p e ∙ ap (λ (x : Out (List Page)). on x (λ ps. ok (page_of s p ∷ ps))) (r p e) ∙ sym (walk-page s c m p e)

-- 1,025 blocks are always enough: with more the walk comes to the same
pub walk-enough : (k n : ℕ) (s : List ℕ) (c : Cursor) → Within c → 1024 - c.pages ≤ k → walk (suc k) s c ≡ walk (suc (k + n)) s c
walk-enough zero n s c w h = same_turn 0 (0 + n) s c (λ p e. absurd (omega (arith, h, (page-is s c p e).few)))
walk-enough (suc k) n s c w h =
    same_turn (suc k) (suc k + n) s c (λ p e.
    let q = page-is s c p e in
    let m : suc (k + n) ≡ suc k + n = omega arith in
    walk-enough k n s p.next (within_on s c w p q) (omega (arith, h, q.few, pages-on s c w p q)) ∙ ap (λ (i : ℕ). walk i s p.next) m)

-- ---- the totals, as they are counted

-- with what lies before the cursor
abbrev pub count_from : Cursor → Cursor → List Page → Totals
count_from from c ps = record { pages = c.pages + length ps; shapes = c.shapes + shapes_of ps; first = from }

pub record Walking (s : List ℕ) (from c : Cursor) : Type 0 where
  pub within : Within c
  pub same : on (walk 1025 s from) (λ ps. ok (page_totals from ps)) ≡ on (walk (1025 - c.pages) s c) (λ ps. ok (count_from from c ps))

-- nothing yet
count_none : (c : Cursor) (x : Out (List Page)) → c.pages ≡ 0 → c.shapes ≡ 0 → on x (λ ps. ok (page_totals c ps)) ≡ on x (λ ps. ok (count_from c c ps))
unfolding on
count_none c (refused w) a b = refl
count_none c (ok ps) a b =
    let m : length ps ≡ c.pages + length ps = omega (arith, a) in
    let n : shapes_of ps ≡ c.shapes + shapes_of ps = omega (arith, b) in
    λ i. ok (record { pages = m i; shapes = n i; first = c })

pub walking_start : (s : List ℕ) (c : Cursor) → c.pages ≡ 0 → c.shapes ≡ 0 → Walking s c c
walking_start s c a b =
    let all : 1025 ≡ 1025 - c.pages = omega (arith, a) in
    record {
      within = record { pages = omega arith; shapes = omega arith };
      same = count_none c (walk 1025 s c) a b ∙ ap (λ (n : ℕ). on (walk n s c) (λ ps. ok (count_from c c ps))) all;
    }

-- a page more
count-more : (s : List ℕ) (from c : Cursor) (p : PageAt) (x : Out (List Page)) → p.next.pages ≡ c.pages + 1 → p.next.shapes ≡ c.shapes + p.head.g
    → on (on x (λ ps. ok (page_of s p ∷ ps))) (λ ps. ok (count_from from c ps)) ≡ on x (λ ps. ok (count_from from p.next ps))
unfolding on shapes_of
count-more s from c p (refused w) a b = refl
count-more s from c p (ok ps) a b =
    let m : c.pages + suc (length ps) ≡ p.next.pages + length ps = omega (arith, a) in
    let n : c.shapes + (p.head.g + shapes_of ps) ≡ p.next.shapes + shapes_of ps = omega (arith, b) in
    λ i. ok (record { pages = m i; shapes = n i; first = from })

module _ (s : List ℕ) (from c : Cursor) (w : Walking s from c) where
  pub walking-refused : (x : Refusal) → next_of s c ≡ refused x → refused x ≡ on (walk 1025 s from) (λ ps. ok (page_totals from ps))
  unfolding on
  walking-refused x e = sym (w.same ∙ rw (fuel c w.within, walk_refused s c (1024 - c.pages) x e))

  pub walking-end : next_of s c ≡ ok end
      → ok (record { pages = c.pages; shapes = c.shapes; first = from }) ≡ on (walk 1025 s from) (λ ps. ok (page_totals from ps))
  unfolding on shapes_of
  walking-end e =
      let m : c.pages + 0 ≡ c.pages = omega arith in
      let n : c.shapes + 0 ≡ c.shapes = omega arith in
      sym (w.same ∙ rw (fuel c w.within, walk_end s c (1024 - c.pages) e) (λ i. ok (record { pages = m i; shapes = n i; first = from })))

  module _ (p : PageAt) (e : next_of s c ≡ ok (page p)) where
    pub walking-fewer : 1025 - p.next.pages < 1025 - c.pages
    walking-fewer = fewer-on s c w.within p (page-is s c p e)

    pub walking-page : Walking s from p.next
    walking-page =
        let k = page-is s c p e in
        record {
          within = within_on s c w.within p k;
          same = w.same
              ∙ rw (fuel c w.within, fuel_on s c w.within p k, walk-page s c (1024 - c.pages) p e)
              (count-more s from c p (walk (1024 - c.pages) s p.next) (pages-on s c w.within p k) (shapes-on s c w.within p k));
        }

-- ---- the whole frame

-- the cursor after the first block, by the edition
pub first-cursor : (s : List ℕ) (c : Cursor) → first_of s ≡ ok c → c ≡ first_cursor c.edition
first-cursor s c e =
    let k = (first-is s c e).after in
    k ∙ ap first_cursor (sym (ap (λ (x : Cursor). x.edition) k))

module _ (s : List ℕ) (r : Out Cursor) (f : r ≡ first_of s) where
  pub frame_refused : (w : Refusal) → r ≡ refused w → refused w ≡ on (frame_of s) (λ f. ok (totals_of f))
  unfolding frame_of on
  frame_refused w e = rw (first-refusal-said s r f w e)

  -- the walk starts with no page and no shape
  pub frame-starts : (c : Cursor) → r ≡ ok c → (c.pages ≡ 0) × (c.shapes ≡ 0)
  frame-starts c e =
      let k = first-is s c (first_said s r f c e) in
      (ap (λ (x : Cursor). x.pages) k.after, ap (λ (x : Cursor). x.shapes) k.after)

  pub frame-walk : (c : Cursor) → r ≡ ok c → (x : Out Totals) → x ≡ on (walk 1025 s c) (λ ps. ok (page_totals c ps))
      → x ≡ on (frame_of s) (λ f. ok (totals_of f))
  unfolding frame_of on
  frame-walk c e x q = q ∙ rw (first_said s r f c e) (joined (walk 1025 s c))
    where
      joined : (y : Out (List Page)) → on y (λ ps. ok (page_totals c ps)) ≡ on (on y (λ ps. ok (record { edition = c.edition; pages = ps }))) (λ f. ok (totals_of f))
      joined (refused w) = refl
      joined (ok ps) = ap (λ (a : Cursor). ok (page_totals a ps)) (first-cursor s c (first_said s r f c e))

-- what the code was told
module _ (s : List ℕ) (r : Out Totals) (q : r ≡ on (frame_of s) (λ f. ok (totals_of f))) where
  pub sound-said : (t : Totals) → r ≡ ok t → (f : Frame) × (frame_of s ≡ ok f) × (totals_of f ≡ t)
  sound-said t e =
      let a = on-ok (frame_of s) _ t (sym q ∙ rw e) in
      (a.0, a.1, ok-inj a.2)

  pub frame-refusal-said : (w : Refusal) → r ≡ refused w → frame_of s ≡ refused w
  frame-refusal-said w e = on-stopped (frame_of s) totals_of w (sym q ∙ rw e)

-- what a file comes to determines the answer
pub said-checked-one : {o x y : Out Totals} → x ≡ o → y ≡ o → x ≡ y
said-checked-one = answer-one
