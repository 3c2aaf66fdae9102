-- What was found at a place, told by the bytes there: a block, the first block, a page, the end; and that this is all. Assumes nothing.
use Prim.Native.Nat.{ℕ, ◌+◌, ◌≤◌, ◌<◌}
use mathlib.Core.Path.{◌≡◌, refl, sym, ap, subst, ◌∙◌}
use mathlib.Core.Bool.{Bool, true, false, cond}
use mathlib.Core.List.{List}
use mathlib.Core.Logic.{◌⊎◌, inl, inr, ⊎_elim}
use native.Mathlib.Omega.{arith}
use borrow.Author.Tests.{ltb-true, eqb-true, eq-eqb}
use lib.ListN.{length}
use lib.Dec.{eqb}
use Rattle.answer.specs.Table.{kind}
use Rattle.answer.specs.Refusal.{because, on_page}
use Rattle.answer.specs.Outcome.{refused, ok}
use Rattle.answer.proofs.Outcomes.{never, ok-inj, need-ok, on-ok, marked-value, marked-ok}
use Rattle.answer.proofs.Both.{both_l, both_r, no_both}
use Rattle.block.specs.declared.Block.{Block}
use Rattle.le.specs.Number.{number_at}
use Rattle.block.specs.Block.{block_at}
use Rattle.block.proofs.Blocks.{present-fits, block-found, block-says}
use Rattle.frame.specs.declared.cursor.Cursor.{Cursor}
use Rattle.frame.specs.declared.cursor.PageAt.{PageAt}
use Rattle.frame.specs.Head.{head_of}
use Rattle.frame.specs.Next.{part, NextBlock, page, end, past, as_first, first_of, as_page, as_end, by_kind, next_of, ends_at}
use Rattle.frame.proofs.Ways.{page-good, end-good, kind-page, kind-end, step-found, first_good, first_found, page-not-end, page-inj}

-- ---- a block

-- the block of this kind whose body is the len bytes from body on stands at a place
pub record Stands (s : List ℕ) (at kind body len : ℕ) : Type 0 where
  pub kind_at : number_at 2 s (at + 4) ≡ kind
  pub len_at : number_at 4 s at ≡ len
  pub body_at : body ≡ at + 6
  pub fits : body + len ≤ length s

pub block-is : (s : List ℕ) (at : ℕ) (b : Block) → block_at s at ≡ ok b → Stands s at b.kind b.body b.len
block-is s at b e =
    let p = block-says s at b e in
    subst (λ (x : Block). Stands s at x.kind x.body x.len) p.1
    (record { kind_at = refl; len_at = refl; body_at = refl; fits = present-fits s at p.0 })

pub is_block : (s : List ℕ) (at kind body len : ℕ) → Stands s at kind body len → block_at s at ≡ ok (record { kind = kind; body = body; len = len })
is_block s at kind body len k =
    block-found s at kind len (sym k.kind_at) (sym k.len_at) (omega (arith, k.fits, k.body_at))
    ∙ ap (λ (x : ℕ). ok (record { kind = kind; body = x; len = len })) (sym k.body_at)

-- ---- the first block

pub record Begins (s : List ℕ) (c : Cursor) : Type 0 where
  pub stands : Stands s 0 1 6 2
  pub edition_at : number_at 2 s 6 ≡ 1
  pub after : c ≡ record { edition = 1; at = 8; pages = 0; shapes = 0 }

module _ (s : List ℕ) (c : Cursor) where
  pub first-is : first_of s ≡ ok c → Begins s c
  unfolding first_of as_first
  first-is e =
      let a = on-ok _ _ c e in
      let b : Block = a.0 in
      let t = block-is s 0 b a.1 in
      let k = need-ok _ _ _ c a.2 in
      let l = need-ok _ _ _ c k.1 in
      let x = need-ok _ _ _ c l.1 in
      let ek : b.kind ≡ 1 = eqb-true b.kind 1 k.0 in
      let el : b.len ≡ 2 = eqb-true b.len 2 l.0 in
      let eb : b.body ≡ 6 = t.body_at in
      let ed : number_at 2 s b.body ≡ 1 = eqb-true (number_at 2 s b.body) 1 x.0 in
      record {
        stands = rw (← ek, ← eb, ← el) t;
        edition_at = rw (← eb) ed;
        after = sym (ok-inj x.1) ∙ rw (ed, eb);
      }

  pub is-first : Begins s c → first_of s ≡ ok c
  is-first k =
      first_found s (record { kind = 1; body = 6; len = 2 }) (is_block s 0 1 6 2 k.stands)
      ∙ first_good s (record { kind = 1; body = 6; len = 2 }) refl refl 1 k.edition_at refl
      ∙ ap ok (sym k.after)

-- ---- a page

-- the cursor after a page
abbrev pub after : Cursor → PageAt → Cursor
after c p = record { edition = c.edition; at = p.body + p.len; pages = c.pages + 1; shapes = c.shapes + p.head.g }

pub record Paged (s : List ℕ) (c : Cursor) (p : PageAt) : Type 0 where
  pub stands : Stands s c.at 2 p.body p.len
  pub few : c.pages < 1024
  pub headed : head_of c.edition (part s p.body p.len) ≡ ok p.head
  pub next : p.next ≡ after c p

pub record Ended (s : List ℕ) (c : Cursor) : Type 0 where
  pub stands : Stands s c.at 3 (c.at + 6) 8
  pub pages_at : number_at 4 s (c.at + 6) ≡ c.pages
  pub shapes_at : number_at 4 s (c.at + 10) ≡ c.shapes
  pub last : c.at + 14 ≡ length s

module _ (s : List ℕ) (c : Cursor) where
  -- what a page block and an end block come to
  page-step-is : (b : Block) (t : NextBlock) → b.kind ≡ 2 → Stands s c.at b.kind b.body b.len → as_page s c b ≡ ok t → (p : PageAt) × (t ≡ page p) × Paged s c p
  unfolding as_page
  page-step-is b t k st e =
      let f = need-ok _ _ _ t e in
      let h = on-ok _ _ t f.1 in (
        record { head = h.0; body = b.body; len = b.len; next = past c b h.0 },
        sym (ok-inj h.2),
        record {
          stands = rw (← k) st;
          few = ltb-true c.pages 1024 f.0;
          headed = h.1;
          next = refl;
        },
      )

  end-step-is : (b : Block) (t : NextBlock) → b.kind ≡ 3 → Stands s c.at b.kind b.body b.len → as_end s c b ≡ ok t → (t ≡ end) × Ended s c
  unfolding as_end
  end-step-is b t k st e =
      let l = need-ok _ _ _ t e in
      let n = need-ok _ _ _ t l.1 in
      let a = need-ok _ _ _ t n.1 in
      let el : b.len ≡ 8 = eqb-true b.len 8 l.0 in
      let eb : b.body ≡ c.at + 6 = st.body_at in
      let ten : b.body + 4 ≡ c.at + 10 = omega arith in
      let u : Bool = eqb (number_at 4 s b.body) c.pages in
      let v : Bool = eqb (number_at 4 s (b.body + 4)) c.shapes in
      let x : number_at 4 s b.body ≡ c.pages = eqb-true (number_at 4 s b.body) c.pages (both_l u v n.0) in
      let y : number_at 4 s (b.body + 4) ≡ c.shapes = eqb-true (number_at 4 s (b.body + 4)) c.shapes (both_r u v n.0) in
      let z : b.body + 8 ≡ length s = eqb-true (b.body + 8) (length s) a.0 in (
        sym (ok-inj a.1),
        record {
          stands = rw (← k, ← eb, ← el) st;
          pages_at = rw (← eb) x;
          shapes_at = rw (← ten) y;
          last = omega arith;
        },
      )

  -- what a block that was found comes to, by its kind
  kind-step-is : (b : Block) (t : NextBlock) → Stands s c.at b.kind b.body b.len → by_kind s c b ≡ ok t
      → ((p : PageAt) × (t ≡ page p) × Paged s c p) ⊎ ((t ≡ end) × Ended s c)
  unfolding by_kind
  kind-step-is b t st = go (eqb b.kind 2) (eqb b.kind 3) refl refl
    where
      go : (x y : Bool) → eqb b.kind 2 ≡ x → eqb b.kind 3 ≡ y
          → cond x (as_page s c b) (cond y (as_end s c b) (refused (because kind))) ≡ ok t
          → ((p : PageAt) × (t ≡ page p) × Paged s c p) ⊎ ((t ≡ end) × Ended s c)
      go true y ex ey e = inl (page-step-is b t (eqb-true b.kind 2 ex) st e)
      go false true ex ey e = inr (end-step-is b t (eqb-true b.kind 3 ey) st e)
      go false false ex ey e = absurd (never e)

  -- what a step comes to, where it is not refused
  pub step_is : (t : NextBlock) → next_of s c ≡ ok t → ((p : PageAt) × (t ≡ page p) × Paged s c p) ⊎ ((t ≡ end) × Ended s c)
  unfolding next_of
  step_is t e =
      let a = on-ok _ _ t (marked-ok (on_page c.pages) _ t e) in
      kind-step-is a.0 t (block-is s c.at a.0 a.1) a.2

  pub page-is : (p : PageAt) → next_of s c ≡ ok (page p) → Paged s c p
  page-is p e =
      ⊎_elim
      (λ (k : (q : PageAt) × (page p ≡ page q) × Paged s c q). subst (Paged s c) (sym (page-inj k.1)) k.2)
      (λ (k : (page p ≡ end) × Ended s c). absurd (page-not-end k.0))
      (step_is (page p) e)

  pub end_is : next_of s c ≡ ok end → Ended s c
  end_is e =
      ⊎_elim
      (λ (k : (q : PageAt) × (end ≡ page q) × Paged s c q). absurd (page-not-end (sym k.1)))
      (λ (k : (end ≡ end) × Ended s c). k.1)
      (step_is end e)

  -- and back
  pub is-page : (p : PageAt) → Paged s c p → next_of s c ≡ ok (page p)
  is-page p k =
      let b : Block = record { kind = 2; body = p.body; len = p.len } in
      step-found s c b (is_block s c.at 2 p.body p.len k.stands)
      ∙ marked-value (on_page c.pages) (page p)
      (kind-page s c b refl
      ∙ page-good s c b k.few p.head k.headed
      ∙ ap (λ (n : Cursor). ok (page (record { head = p.head; body = p.body; len = p.len; next = n }))) (sym k.next))

  pub is-end : Ended s c → next_of s c ≡ ok end
  is-end k =
      let b : Block = record { kind = 3; body = c.at + 6; len = 8 } in
      let ten : c.at + 6 + 4 ≡ c.at + 10 = omega arith in
      let not-two : (◌≡◌ {A = ℕ} 3 2 → ⊥) = λ q. omega arith in
      step-found s c b (is_block s c.at 3 (c.at + 6) 8 k.stands)
      ∙ marked-value (on_page c.pages) end
      (kind-end s c b not-two refl
      ∙ end-good s c b refl c.pages (sym k.pages_at) refl c.shapes (sym (ap (number_at 4 s) ten ∙ k.shapes_at)) refl (omega (arith, k.last)))

  -- ---- what a walk asks of a block that has passed

  -- its head is there
  pub step-there : (t : NextBlock) → next_of s c ≡ ok t → c.at + 6 ≤ length s
  step-there t e =
      ⊎_elim
      (λ (k : (p : PageAt) × (t ≡ page p) × Paged s c p). let f = k.2.stands in omega (arith, f.fits, f.body_at))
      (λ (k : (t ≡ end) × Ended s c). omega (arith, k.1.stands.fits))
      (step_is t e)

  -- the end block stands there, or a page does
  pub ends-end : (t : NextBlock) → next_of s c ≡ ok t → ends_at s c ≡ true → next_of s c ≡ ok end
  unfolding ends_at
  ends-end t e h =
      ⊎_elim
      (λ (k : (p : PageAt) × (t ≡ page p) × Paged s c p).
      let three : number_at 2 s (c.at + 4) ≡ 3 = eqb-true (number_at 2 s (c.at + 4)) 3 h in
      absurd (omega (arith, three, k.2.stands.kind_at)))
      (λ (k : (t ≡ end) × Ended s c). e ∙ ap ok k.0)
      (step_is t e)

  pub ends-page : (t : NextBlock) → next_of s c ≡ ok t → ends_at s c ≡ false → (p : PageAt) × (next_of s c ≡ ok (page p))
  unfolding ends_at
  ends-page t e h =
      ⊎_elim
      (λ (k : (p : PageAt) × (t ≡ page p) × Paged s c p). (k.0, e ∙ ap ok k.1))
      (λ (k : (t ≡ end) × Ended s c). absurd (no_both h (eq-eqb (number_at 2 s (c.at + 4)) 3 k.1.stands.kind_at)))
      (step_is t e)
