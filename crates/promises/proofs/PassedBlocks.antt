-- "The page number is, for a frame refusal, the number of page blocks passed before it": a refused frame was refused at its first block, or behind exactly so
-- many page blocks; and a block refused there refuses the frame. Nothing is assumed.
use Prim.Native.Nat.{ℕ, zero, suc, ◌+◌, ◌-◌, ◌<◌}
use mathlib.Core.Path.{◌≡◌, refl, sym, ap, ap₂, ◌∙◌, subst}
use mathlib.Core.List.{List, [], ◌∷◌, ◌++◌, append_assoc}
use native.Mathlib.Omega.{arith}
use lib.ListN.{length, drop}
use Rattle.answer.specs.declared.Refusal.{Refusal}
use Rattle.answer.specs.Outcome.{refused, ok, on}
use Rattle.le.specs.Number.{bytes_of, Bytes}
use Rattle.frame.specs.declared.cursor.Cursor.{Cursor}
use Rattle.frame.specs.declared.cursor.PageAt.{PageAt}
use Rattle.frame.specs.Next.{NextBlock, page, end, part, first_of, next_of}
use Rattle.frame.specs.Frame.{Page, page_or_end, page_of, walk, frame_of}
use Rattle.frame.specs.Whole.{block_of, page_blocks}
use Rattle.frame.proofs.Ways.{step-page}
use Rattle.frame.proofs.Found.{first-is, page-is}
use Rattle.frame.specs.Ahead.{Within}
use Rattle.frame.proofs.Walks.{pages-on, within_on, fuel, fuel_on, walk_refused, walk-page}
use Rattle.frame.proofs.Parts.{bytes-at, stands-block}
use Rattle.answer.proofs.Orders.{on-refused, on_value}
use Rattle.promises.specs.Refusing.{Refuses}
use Rattle.promises.specs.Numbers as numbers
use Rattle.promises.specs.Pages.{Passed, none, more, BlocksBefore, InFrame, first, behind, HasPage, frame_refusal}
use Rattle.promises.proofs.Refusals.{ok-gives, after-gives, on-gives, so-gives}
use Rattle.promises.proofs.Numbers.{plain-no-page, first_gives, frame-gives}

-- the cursor's own count is the number of page blocks passed, and it is a cursor of the walk
module _ (s : List ℕ) where
  pub passed-within : {k : ℕ} {c : Cursor} → Passed s k c → Within c
  passed-within (none {c = c} e) =
      let z = (first-is s c e).after in
      let n : c.pages ≡ 0 = ap (λ (x : Cursor). x.pages) z in
      let m : c.shapes ≡ 0 = ap (λ (x : Cursor). x.shapes) z in
      record { pages = omega arith; shapes = omega arith }
  passed-within (more {c = c} {p = p} q e) = within_on s c (passed-within q) p (page-is s c p e)

  pub passed-counts : {k : ℕ} {c : Cursor} → Passed s k c → c.pages ≡ k
  passed-counts (none {c = c} e) = ap (λ (x : Cursor). x.pages) (first-is s c e).after
  passed-counts (more {c = c} {p = p} q e) = omega (arith, pages-on s c (passed-within q) p (page-is s c p e), passed-counts q)

-- ---- from a refused frame to the block

module _ (s : List ℕ) where
  -- what is refused at a cursor is refused behind as many page blocks as its page number says
  step-behind : {k : ℕ} {c : Cursor} → Passed s k c → Refuses (InFrame s) (next_of s c)
  step-behind {c = c} q = record { such = λ w e. behind c (subst (λ (n : ℕ). Passed s n c) (sym (step-page s c w e ∙ passed-counts s q)) q) e }

  -- and so is whatever the walk from there refuses; it never runs out of blocks
  walk-behind : (n k : ℕ) (c : Cursor) → Passed s k c → 1024 < n + k → Refuses (InFrame s) (walk n s c)
  unfolding walk
  walk-behind zero k c q h = absurd (omega (arith, h, passed-counts s q, (passed-within s q).pages))
  walk-behind (suc n) k c q h =
      after-gives _ _ _ (step-behind q) (λ t e. go (λ p f. walk-behind n (suc k) p.next (more q f) (omega (arith, h))) t e)
    where
      go : ((p : PageAt) → next_of s c ≡ ok (page p) → Refuses (InFrame s) (walk n s p.next)) → (t : NextBlock) → next_of s c ≡ ok t
          → Refuses (InFrame s) (page_or_end t (λ p. on (walk n s p.next) (λ ps. ok (page_of s p ∷ ps))) (ok []))
      go g (page p) e = on-gives _ _ _ (g p e) (λ ps. ok-gives _ _)
      go g end e = ok-gives _ _

  at_first : Refuses (InFrame s) (first_of s)
  at_first = so-gives _ (InFrame s) (first_of s) (λ w e z. first e z) (plain-no-page numbers.frame (first_of s) (first_gives s))

  pub frame-behind : Refuses (InFrame s) (frame_of s)
  unfolding frame_of
  frame-behind = after-gives _ _ _ at_first (λ c e. on-gives _ _ _ (walk-behind 1025 0 c (none e) (omega arith)) (λ ps. ok-gives _ _))

  -- for any service over the file
  pub frame-paged : (Opens : List Page → ℕ → Page → Type 0) (others : List ℕ) → HasPage s Opens others (frame_of s)
  frame-paged Opens others = so-gives _ _ (frame_of s) (λ w e k. frame_refusal k (frame-behind.such w e)) (frame-gives s)

-- ---- and back

module _ (s : List ℕ) (w : Refusal) where
  walk-refuses : {k : ℕ} {c : Cursor} → Passed s k c → walk (1025 - c.pages) s c ≡ refused w → frame_of s ≡ refused w
  unfolding frame_of
  walk-refuses (none {c = c} e) h =
      let z : 1025 ≡ 1025 - c.pages = omega (arith, passed-counts s (none e)) in
      on_value (first_of s) _ c e ∙ on-refused (walk 1025 s c) _ w (ap (λ (n : ℕ). walk n s c) z ∙ h)
  walk-refuses (more {c = c} {p = p} q e) h =
      let i = passed-within s q in
      let f = fuel_on s c i p (page-is s c p e) in
      walk-refuses q
      (rw (fuel c i)
      (walk-page s c (1024 - c.pages) p e
      ∙ on-refused (walk (1024 - c.pages) s p.next) _ w (ap (λ (n : ℕ). walk n s p.next) (sym f) ∙ h)))

  -- a block that is refused behind k page blocks refuses the frame, with page number k
  pub behind-frame : {k : ℕ} {c : Cursor} → Passed s k c → next_of s c ≡ refused w → (frame_of s ≡ refused w) × (w.page ≡ k)
  behind-frame {c = c} q e =
      (walk-refuses q (rw (fuel c (passed-within s q)) (walk_refused s c (1024 - c.pages) w e)), step-page s c w e ∙ passed-counts s q)

-- ---- in bytes

module _ (s : List ℕ) (y : Bytes s) where
  -- the first block, as it stands
  first-bytes : (c : Cursor) → first_of s ≡ ok c → s ≡ block_of 1 (bytes_of 2 1) ++ drop c.at s
  first-bytes c e =
      let k = first-is s c e in
      let b : part s 6 2 ≡ bytes_of 2 1 = sym (bytes-at 2 s 6 y (omega (arith, k.stands.fits))) ∙ ap (bytes_of 2) k.edition_at in
      stands-block s 0 1 6 2 y k.stands
      ∙ ap₂ (λ (x : List ℕ) (i : ℕ). block_of 1 x ++ drop i s) b (sym (ap (λ (x : Cursor). x.at) k.after))

  -- a page block, as it stands
  page-bytes : (c : Cursor) (p : PageAt) → next_of s c ≡ ok (page p) → drop c.at s ≡ block_of 2 (page_of s p).body ++ drop p.next.at s
  page-bytes c p e =
      let k = page-is s c p e in
      stands-block s c.at 2 p.body p.len y k.stands
      ∙ ap (λ (i : ℕ). block_of 2 (part s p.body p.len) ++ drop i s) (sym (ap (λ (x : Cursor). x.at) k.next))

  -- k page blocks were passed, and then come these
  blocks-then : {k : ℕ} {c : Cursor} → Passed s k c → (qs : List Page) (rest : List ℕ) → drop c.at s ≡ page_blocks qs ++ rest
      → (ps : List Page) × (length ps ≡ k + length qs) × (s ≡ block_of 1 (bytes_of 2 1) ++ (page_blocks ps ++ rest))
  unfolding page_blocks
  blocks-then (none {c = c} e) qs rest d = (qs, omega arith, first-bytes c e ∙ ap (λ (l : List ℕ). block_of 1 (bytes_of 2 1) ++ l) d)
  blocks-then (more {c = c} {p = p} q e) qs rest d =
      let b : List ℕ = block_of 2 (page_of s p).body in
      let r = blocks-then q (page_of s p ∷ qs) rest (page-bytes c p e ∙ ap (λ (l : List ℕ). b ++ l) d ∙ sym (append_assoc b (page_blocks qs) rest)) in
      (r.0, omega (arith, r.1), r.2)

  -- before the cursor stand the first block and exactly k page blocks
  pub passed-bytes : {k : ℕ} {c : Cursor} → Passed s k c → BlocksBefore s k c.at
  unfolding page_blocks
  passed-bytes {c = c} q =
      let r = blocks-then q [] (drop c.at s) refl in
      record { pages = r.0; many = omega (arith, r.1); whole = r.2 }
