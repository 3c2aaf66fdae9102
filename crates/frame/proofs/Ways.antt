-- Laws of a step and of the first block, one for each way through them, and what the code's answers say. Assumes nothing.
use Prim.Native.Nat.{ℕ, ◌+◌, ◌-◌, ◌≤◌, ◌<◌}
use mathlib.Core.Path.{◌≡◌, sym, ap, ◌∙◌}
use mathlib.Core.Bool.{false}
use mathlib.Core.List.{List}
use native.Mathlib.Nat.{add-sub_cancel_left}
use native.Mathlib.Omega.{arith}
use borrow.Author.Tests.{lt-ltb, le-ltb, eq-eqb, ne_eqb}
use lib.ListN.{length, take, drop}
use Rattle.answer.specs.declared.Refusal.{Refusal}
use Rattle.answer.specs.Table.{many, lengths, kind, counts}
use Rattle.answer.specs.Refusal.{because}
use Rattle.answer.specs.Outcome.{Out, refused, ok, on, in_page, marked}
use Rattle.answer.specs.Rule.{passed}
use Rattle.answer.proofs.Outcomes.{never, refused-inj, met, unmet}
use Rattle.answer.proofs.Rules.{passed_on}
use Rattle.block.specs.declared.Block.{Block}
use Rattle.le.specs.Number.{number_at}
use Rattle.block.specs.Block.{present_at, block_at}
use Rattle.block.proofs.Blocks.{block-absent}
use Rattle.frame.specs.declared.head.Head.{Head}
use Rattle.frame.specs.declared.cursor.Cursor.{Cursor}
use Rattle.frame.specs.declared.cursor.PageAt.{PageAt}
use Rattle.frame.specs.Head.{head_of}
use Rattle.frame.specs.Next.{part, NextBlock, page, end, past, as_first, first_of, as_page, as_end, by_kind, next_of}

-- ---- a page block

module _ (s : List ℕ) (c : Cursor) (b : Block) where
  pub page-many : 1024 ≤ c.pages → as_page s c b ≡ refused (because many)
  unfolding as_page
  page-many h = unmet (because many) _ (le-ltb c.pages 1024 h)

  module _ (h : c.pages < 1024) where
    pub page-refused : (w : Refusal) → head_of c.edition (part s b.body b.len) ≡ refused w → as_page s c b ≡ refused w
    unfolding as_page on
    page-refused w e = met (because many) _ (lt-ltb c.pages 1024 h) ∙ rw e

    pub page-good : (k : Head) → head_of c.edition (part s b.body b.len) ≡ ok k
        → as_page s c b ≡ ok (page (record { head = k; body = b.body; len = b.len; next = past c b k }))
    unfolding as_page on
    page-good k e = met (because many) _ (lt-ltb c.pages 1024 h) ∙ rw e

    -- it passes where its head does
    pub page-passed : passed (as_page s c b) ≡ passed (head_of c.edition (part s b.body b.len))
    unfolding as_page
    page-passed = ap passed (met (because many) _ (lt-ltb c.pages 1024 h)) ∙ passed_on _ _

-- the head of the part that the code takes is that of the body
pub part-head : (edition : ℕ) (s : List ℕ) (body len : ℕ) → head_of edition (take (body + len - body) (drop body s)) ≡ head_of edition (part s body len)
part-head edition s body len = ap (λ (n : ℕ). head_of edition (take n (drop body s))) (add-sub_cancel_left body len)

-- ---- the end block

module _ (s : List ℕ) (c : Cursor) (b : Block) where
  pub end-length : (b.len ≡ 8 → ⊥) → as_end s c b ≡ refused (because lengths)
  unfolding as_end
  end-length n = unmet (because lengths) _ (ne_eqb b.len 8 n)

  module _ (l : b.len ≡ 8) (x : ℕ) (ex : x ≡ number_at 4 s b.body) where
    pub end-pages : (x ≡ c.pages → ⊥) → as_end s c b ≡ refused (because counts)
    unfolding as_end
    end-pages n = met (because lengths) _ (eq-eqb b.len 8 l) ∙ unmet (because counts) _ (rw (← ex, ne_eqb x c.pages n))

    module _ (px : x ≡ c.pages) (y : ℕ) (ey : y ≡ number_at 4 s (b.body + 4)) where
      pub end-shapes : (y ≡ c.shapes → ⊥) → as_end s c b ≡ refused (because counts)
      unfolding as_end
      end-shapes n =
          met (because lengths) _ (eq-eqb b.len 8 l)
          ∙ unmet (because counts) _ (rw (← ex, ← ey, eq-eqb x c.pages px, ne_eqb y c.shapes n))

      module _ (py : y ≡ c.shapes) where
        pub end_after : (b.body + 8 ≡ length s → ⊥) → as_end s c b ≡ refused (because lengths)
        unfolding as_end
        end_after n =
            met (because lengths) _ (eq-eqb b.len 8 l)
            ∙ met (because counts) _ (rw (← ex, ← ey, eq-eqb x c.pages px, eq-eqb y c.shapes py))
            ∙ unmet (because lengths) _ (ne_eqb (b.body + 8) (length s) n)

        pub end-good : b.body + 8 ≡ length s → as_end s c b ≡ ok end
        unfolding as_end
        end-good n =
            met (because lengths) _ (eq-eqb b.len 8 l)
            ∙ met (because counts) _ (rw (← ex, ← ey, eq-eqb x c.pages px, eq-eqb y c.shapes py))
            ∙ met (because lengths) _ (eq-eqb (b.body + 8) (length s) n)

-- ---- by its kind

module _ (s : List ℕ) (c : Cursor) (b : Block) where
  pub kind-page : b.kind ≡ 2 → by_kind s c b ≡ as_page s c b
  unfolding by_kind
  kind-page h = rw (eq-eqb b.kind 2 h)

  module _ (n : b.kind ≡ 2 → ⊥) where
    pub kind-end : b.kind ≡ 3 → by_kind s c b ≡ as_end s c b
    unfolding by_kind
    kind-end h = rw (ne_eqb b.kind 2 n, eq-eqb b.kind 3 h)

    pub kind-other : (b.kind ≡ 3 → ⊥) → by_kind s c b ≡ refused (because kind)
    unfolding by_kind
    kind-other m = rw (ne_eqb b.kind 2 n, ne_eqb b.kind 3 m)

-- ---- the block that the code was given

module _ (s : List ℕ) (at : ℕ) (r : Out Block) where
  pub block-said : (b : Block) → r ≡ block_at s at → r ≡ ok b → block_at s at ≡ ok b
  block-said b f e = sym f ∙ rw e

  pub block_refused : (w : Refusal) → r ≡ block_at s at → r ≡ refused w → block_at s at ≡ refused w
  block_refused w f e = sym f ∙ rw e

-- ---- a step

module _ (s : List ℕ) (c : Cursor) where
  pub step-absent : present_at s c.at ≡ false → next_of s c ≡ in_page c.pages (refused (because lengths))
  unfolding next_of on
  step-absent e = rw (block-absent s c.at e)

  pub step-found : (b : Block) → block_at s c.at ≡ ok b → next_of s c ≡ in_page c.pages (by_kind s c b)
  unfolding next_of on
  step-found b e = rw e

  -- a refusal's page is the number of page blocks passed before it
  pub step-page : (w : Refusal) → next_of s c ≡ refused w → w.page ≡ c.pages
  unfolding next_of marked
  step-page w = go (on (block_at s c.at) (by_kind s c))
    where
      go : (x : Out NextBlock) → in_page c.pages x ≡ refused w → w.page ≡ c.pages
      go (refused v) e = ap (λ (y : Refusal). y.page) (sym (refused-inj e))
      go (ok t) e = absurd (never (sym e))

-- ---- the first block

module _ (s : List ℕ) (b : Block) where
  pub first_kind : (b.kind ≡ 1 → ⊥) → as_first s b ≡ refused (because kind)
  unfolding as_first
  first_kind n = unmet (because kind) _ (ne_eqb b.kind 1 n)

  module _ (k : b.kind ≡ 1) where
    pub first-length : (b.len ≡ 2 → ⊥) → as_first s b ≡ refused (because lengths)
    unfolding as_first
    first-length n = met (because kind) _ (eq-eqb b.kind 1 k) ∙ unmet (because lengths) _ (ne_eqb b.len 2 n)

    module _ (l : b.len ≡ 2) (x : ℕ) (ex : number_at 2 s b.body ≡ x) where
      pub first-edition : (x ≡ 1 → ⊥) → as_first s b ≡ refused (because kind)
      unfolding as_first
      first-edition n =
          rw ex (met (because kind) _ (eq-eqb b.kind 1 k) ∙ met (because lengths) _ (eq-eqb b.len 2 l) ∙ unmet (because kind) _ (ne_eqb x 1 n))

      pub first_good : x ≡ 1 → as_first s b ≡ ok (record { edition = x; at = b.body + 2; pages = 0; shapes = 0 })
      unfolding as_first
      first_good n =
          rw ex (met (because kind) _ (eq-eqb b.kind 1 k) ∙ met (because lengths) _ (eq-eqb b.len 2 l) ∙ met (because kind) _ (eq-eqb x 1 n))

module _ (s : List ℕ) where
  pub first-refused : (w : Refusal) → block_at s 0 ≡ refused w → first_of s ≡ refused w
  unfolding first_of on
  first-refused w e = rw e

  pub first_found : (b : Block) → block_at s 0 ≡ ok b → first_of s ≡ as_first s b
  unfolding first_of on
  first_found b e = rw e

-- ---- what the code was told

module _ (s : List ℕ) (r : Out Cursor) (f : r ≡ first_of s) where
  pub first_said : (c : Cursor) → r ≡ ok c → first_of s ≡ ok c
  first_said c e = sym f ∙ rw e

  pub first-refusal-said : (w : Refusal) → r ≡ refused w → first_of s ≡ refused w
  first-refusal-said w e = sym f ∙ rw e

-- a page is not the end
pub page-not-end : {p : PageAt} → page p ≡ end → ⊥
page-not-end e = let z : ◌≡◌ {A = ℕ} 0 1 = cc in omega arith

pub page-inj : {p q : PageAt} → page p ≡ page q → p ≡ q
page-inj e = cc
