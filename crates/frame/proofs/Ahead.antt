-- Laws of a second walk over a file whose frame is sound, block by block: what is still to come from a cursor on. Assumes nothing.
use Prim.Native.Nat.{ℕ, suc, ◌-◌, ◌<◌}
use mathlib.Core.Path.{◌≡◌, refl, sym, ap, subst, ◌∙◌}
use mathlib.Core.Bool.{true, false}
use mathlib.Core.List.{List, [], ◌∷◌}
use native.Mathlib.Omega.{arith}
use lib.ListN.{length}
use Rattle.answer.specs.declared.Refusal.{Refusal}
use Rattle.answer.specs.Outcome.{Out, refused, ok, on}
use Rattle.answer.proofs.Outcomes.{never, ok-inj, on-ok}
use Rattle.frame.specs.declared.cursor.Cursor.{Cursor}
use Rattle.frame.specs.declared.cursor.PageAt.{PageAt}
use Rattle.frame.specs.declared.walk.Totals.{Totals}
use Rattle.frame.specs.Next.{NextBlock, page, end, first_cursor, first_of, next_of, ends_at}
use Rattle.frame.specs.Frame.{Page, Frame, page_of, walk, frame_of, totals_of}
use Rattle.frame.specs.Ahead.{Ahead, Begun}
use Rattle.frame.proofs.Found.{page-is, first-is, ends-end, ends-page}
use Rattle.frame.proofs.Walks.{within_on, fewer-on, fuel, fuel_on, walk_refused, walk_end, walk-page, first-cursor, sound-said}

-- at the start all pages of the frame
pub ahead-start : (s : List ℕ) (f : Frame) → frame_of s ≡ ok f → (c : Cursor) × (first_of s ≡ ok c) × (c.edition ≡ f.edition) × Ahead s c f.pages
unfolding frame_of
ahead-start s f e =
    let a = on-ok _ _ f e in
    let c : Cursor = a.0 in
    let b = on-ok _ _ f a.2 in
    let k = first-is s c a.1 in
    let n : c.pages ≡ 0 = ap (λ (x : Cursor). x.pages) k.after in
    let m : c.shapes ≡ 0 = ap (λ (x : Cursor). x.shapes) k.after in
    let g : record { edition = c.edition; pages = b.0 } ≡ f = ok-inj b.2 in (
      c,
      a.1,
      ap (λ (x : Frame). x.edition) g,
      record {
        within = record { pages = omega arith; shapes = omega arith };
        walked = rw n (b.1 ∙ ap (λ (x : Frame). ok x.pages) g);
      },
    )

-- what the code was told of a sound frame: its pages are to come from the cursor that it hands back
pub begun-said : (s : List ℕ) (r : Out Totals) → r ≡ on (frame_of s) (λ f. ok (totals_of f)) → (t : Totals) → r ≡ ok t → Begun s t.first
begun-said s r q t e =
    let f = sound-said s r q t e in
    let a = ahead-start s f.0 f.1 in
    let k : first_cursor f.0.edition ≡ t.first = ap (λ (x : Totals). x.first) f.2 in
    record {
      frame = f.0;
      framed = f.1;
      no_page = ap (λ (x : Cursor). x.pages) (sym k);
      no_shape = ap (λ (x : Cursor). x.shapes) (sym k);
      ahead = subst (λ (x : Cursor). Ahead s x f.0.pages) (first-cursor s a.0 a.1 ∙ ap first_cursor a.2 ∙ k) a.3;
    }

-- what is to come is determined
pub ahead-one : (s : List ℕ) (c : Cursor) (ps qs : List Page) → Ahead s c ps → Ahead s c qs → ps ≡ qs
ahead-one s c ps qs a b = ok-inj (sym a.walked ∙ b.walked)

module _ (s : List ℕ) (c : Cursor) (ps : List Page) (a : Ahead s c ps) where
  now-walked : walk (suc (1024 - c.pages)) s c ≡ ok ps
  now-walked = rw (← fuel c a.within) a.walked

  -- a step is never refused
  pub ahead-never : (w : Refusal) → next_of s c ≡ refused w → ⊥
  ahead-never w e = never (sym (walk_refused s c (1024 - c.pages) w e) ∙ now-walked)

  -- so the block at the cursor has passed: it is the end, or a page
  pub ahead-next : (t : NextBlock) × (next_of s c ≡ ok t)
  ahead-next = go (next_of s c) refl
    where
      go : (x : Out NextBlock) → next_of s c ≡ x → (t : NextBlock) × (next_of s c ≡ ok t)
      go (refused w) e = absurd (ahead-never w e)
      go (ok t) e = (t, e)

  pub ahead-stop : ends_at s c ≡ true → next_of s c ≡ ok end
  ahead-stop h = let t = ahead-next in ends-end s c t.0 t.1 h

  pub ahead-go : ends_at s c ≡ false → (p : PageAt) × (next_of s c ≡ ok (page p))
  ahead-go h = let t = ahead-next in ends-page s c t.0 t.1 h

  -- at the end nothing is to come
  pub ahead-end : next_of s c ≡ ok end → ps ≡ []
  ahead-end e = ok-inj (sym now-walked ∙ walk_end s c (1024 - c.pages) e)

  -- a page that is found is the first of those to come, and from the cursor after it the others are to come
  pub ahead-page : (p : PageAt) → next_of s c ≡ ok (page p) → (qs : List Page) × (ps ≡ page_of s p ∷ qs) × Ahead s p.next qs
  ahead-page p e =
      let k = page-is s c p e in
      let b = on-ok _ _ ps (sym (walk-page s c (1024 - c.pages) p e) ∙ now-walked) in (
        b.0,
        sym (ok-inj b.2),
        record { within = within_on s c a.within p k; walked = rw (fuel_on s c a.within p k) b.1 },
      )

  -- and the pages that may follow get fewer
  pub ahead-fewer : (p : PageAt) → next_of s c ≡ ok (page p) → 1025 - p.next.pages < 1025 - c.pages
  ahead-fewer p e = fewer-on s c a.within p (page-is s c p e)

-- so, where pages are to come, a step finds the first of them; where none are, the end
pub ahead-some : (s : List ℕ) (c : Cursor) (q : Page) (qs : List Page) → Ahead s c (q ∷ qs)
    → (p : PageAt) × (next_of s c ≡ ok (page p)) × (page_of s p ≡ q) × Ahead s p.next qs
ahead-some s c q qs a = go (next_of s c) refl
  where
    go : (x : Out NextBlock) → next_of s c ≡ x → (p : PageAt) × (next_of s c ≡ ok (page p)) × (page_of s p ≡ q) × Ahead s p.next qs
    go (refused w) e = absurd (ahead-never s c (q ∷ qs) a w e)
    go (ok end) e = let n : ◌≡◌ {A = ℕ} (suc (length qs)) 0 = ap length (ahead-end s c (q ∷ qs) a e) in absurd (omega arith)
    go (ok (page p)) e =
        let k = ahead-page s c (q ∷ qs) a p e in
        let h : q ∷ qs ≡ page_of s p ∷ k.0 = k.1 in
        let hq : page_of s p ≡ q = cc in
        let hs : k.0 ≡ qs = cc in
        (p, e, hq, subst (Ahead s p.next) hs k.2)

pub ahead_none : (s : List ℕ) (c : Cursor) → Ahead s c [] → next_of s c ≡ ok end
ahead_none s c a = go (next_of s c) refl
  where
    go : (x : Out NextBlock) → next_of s c ≡ x → next_of s c ≡ ok end
    go (refused w) e = absurd (ahead-never s c [] a w e)
    go (ok end) e = e
    go (ok (page p)) e =
        let k = ahead-page s c [] a p e in
        let n : ◌≡◌ {A = ℕ} 0 (suc (length k.0)) = ap length k.1 in
        absurd (omega arith)
