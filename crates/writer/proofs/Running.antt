-- The file that calls make, whichever of them are taken: what stands before the position is the first block and the pages that were taken, and
-- once closed it is the file of them. Assumes nothing.
use Prim.Native.Nat.{ℕ, ◌+◌, ◌≤◌}
use mathlib.Core.Path.{◌≡◌, refl, sym, ap, ap₂, subst, ◌∙◌}
use mathlib.Core.Bool.{Bool, true}
use mathlib.Core.List.{List, [], ◌∷◌, ◌++◌, append_assoc, append-nil}
use native.Mathlib.Omega.{arith}
use lib.ListN.{length, take, drop, length-append}
use lib.Seq.{sets, sets-eq, length-sets, length-take-le, take_at}
use Rattle.answer.specs.Outcome.{Out, refused, ok}
use Rattle.block.specs.Kinds as kinds
use Rattle.frame.specs.Layout.{the_edition}
use Rattle.frame.specs.Frame.{shapes_of, frame_of}
use Rattle.frame.specs.Whole.{block_of, page_blocks, end_block, file_of, AllSay, none, more, IsFile}
use Rattle.frame.proofs.Wholes.{is-frame}
use Rattle.pageblock.specs.Body.{Handed, body_of, page_bytes}
use Rattle.pageblock.specs.Typed.{Typed}
use Rattle.pageblock.specs.Page.{page_rules}
use Rattle.pageblock.specs.Written.{head_for, page_for}
use Rattle.pageblock.proofs.Passing.{rules-passed}
use Rattle.pageblock.proofs.ReadBack.{page-says}
use Rattle.writer.specs.State.{Added, first_block, page_step_of, close_of, state_after, buffer_after}
use Rattle.writer.specs.Run as run
use Rattle.writer.specs.Run.{Call, a_page, the_end, HalfWritten, call_of, left_by, after_open, after_calls, page_of_call, taken_of, TypedCall, TypedCalls, file_in, pages_for, frame_for, file_so_far}
use Rattle.writer.specs.Written.{Sounds, sounds_none, sounds_more, Written}
use Rattle.writer.proofs.Ends.{length-first}
use Rattle.writer.proofs.Ways.{open-ok}
use Rattle.writer.proofs.Taken.{page-was, close-was}

-- ---- lists of pages, one more at the end

-- what stands before the next place, after bytes were put at the last one
take-sets : (d vs : List ℕ) (at : ℕ) → at + length vs ≤ length d → take (at + length vs) (sets d at vs) ≡ take at d ++ vs
take-sets d vs at h =
    let l : length (take at d) ≡ at = length-take-le at d (omega arith) in
    let k : length (take at d ++ vs) ≡ at + length vs = length-append (take at d) vs ∙ ap (λ (n : ℕ). n + length vs) l in
    ap (take (at + length vs)) (sets-eq vs d at h) ∙ take_at (take at d ++ vs) (drop (at + length vs) d) (at + length vs) k

blocks_more : (is : List Handed) (i : Handed) → page_blocks (pages_for (is ++ i ∷ [])) ≡ page_blocks (pages_for is) ++ page_bytes the_edition i
unfolding page_blocks pages_for page_bytes page_for
blocks_more [] i = append-nil (block_of kinds.page (body_of the_edition i))
blocks_more (j ∷ is) i =
    ap (λ (l : List ℕ). block_of kinds.page (body_of the_edition j) ++ l) (blocks_more is i) ∙ sym (append_assoc (block_of kinds.page (body_of the_edition j)) (page_blocks (pages_for is)) (block_of kinds.page (body_of the_edition i)))

shapes-more : (is : List Handed) (i : Handed) → shapes_of (pages_for (is ++ i ∷ [])) ≡ shapes_of (pages_for is) + length i.registers
unfolding shapes_of pages_for page_for head_for
shapes-more [] i = omega arith
shapes-more (j ∷ is) i = omega (arith, shapes-more is i)

length-pages : (is : List Handed) → length (pages_for is) ≡ length is
unfolding pages_for
length-pages [] = refl
length-pages (i ∷ is) = omega (arith, length-pages is)

-- ---- pages that passed

sounds-last : {is : List Handed} {i : Handed} → Sounds is → Typed i → page_rules i ≡ ok tt → Sounds (is ++ i ∷ [])
sounds-last sounds_none t p = sounds_more t p sounds_none
sounds-last (sounds_more u q s) t p = sounds_more u q (sounds-last s t p)

-- each is a page of a file
pub pages-say : {is : List Handed} → Sounds is → AllSay 1 (pages_for is)
unfolding pages_for
pages-say sounds_none = none
pages-say (sounds_more {i = i} t p s) = more (page-says the_edition i t (rules-passed i tt p)) (pages-say s)

-- ---- what stands in the buffer

-- after open: no pages
pub written-open : (h : HalfWritten) → 8 ≤ length h.buffer → Written (after_open h) []
unfolding left_by state_after buffer_after file_so_far page_blocks pages_for shapes_of
written-open h l =
    let d = h.buffer in
    let b : 0 + length first_block ≤ length d = omega (arith, length-first) in
    rw (open-ok (length d) l)
    (record {
      inside = omega (arith, length-sets d 0 first_block);
      bytes = ap (λ (n : ℕ). take n (sets d 0 first_block)) (let z : 8 ≡ 0 + length first_block = omega (arith, length-first) in z) ∙ take-sets d first_block 0 b ∙ sym (append-nil first_block);
      pages = refl;
      shapes = refl;
      few = omega arith;
      sound = sounds_none;
    })

-- a page that is taken is one more
module _ (h : HalfWritten) (is : List Handed) (w : Written h is) where
  written-page : (i : Handed) (a : Added) → Typed i → page_step_of h.state (length h.buffer) i ≡ ok a → Written (left_by (ok a) h) (is ++ i ∷ [])
  unfolding left_by state_after buffer_after file_so_far
  written-page i a t e =
      let p = page-was h.state (length h.buffer) i a e in
      let d = h.buffer in
      let st = h.state in
      let so_far : take st.position d ≡ first_block ++ page_blocks (pages_for is) = w.bytes ∙ ap (λ (c : Bool). file_so_far c is) p.opened in
      subst (λ (x : Added). Written (record { state = x.next; buffer = sets d x.from x.bytes }) (is ++ i ∷ [])) p.adds
      (record {
        inside = omega (arith, p.fits, length-sets d st.position (page_bytes the_edition i));
        bytes =
            take-sets d (page_bytes the_edition i) st.position p.fits
            ∙ ap (λ (l : List ℕ). l ++ page_bytes the_edition i) so_far
            ∙ append_assoc first_block (page_blocks (pages_for is)) (page_bytes the_edition i)
            ∙ ap (λ (l : List ℕ). first_block ++ l) (sym (blocks_more is i));
        pages = omega (arith, w.pages, length-append is (i ∷ []));
        shapes = omega (arith, w.shapes, shapes-more is i);
        few = omega (arith, w.pages, p.below, length-append is (i ∷ []));
        sound = sounds-last w.sound t p.passed;
      })

  -- the end makes it a file
  written-close : (a : Added) → close_of h.state (length h.buffer) ≡ ok a → Written (left_by (ok a) h) is
  unfolding left_by state_after buffer_after file_so_far file_of frame_for first_block
  written-close a e =
      let p = close-was h.state (length h.buffer) a e in
      let d = h.buffer in
      let st = h.state in
      let last = end_block st.pages st.shapes in
      let so_far : take st.position d ≡ first_block ++ page_blocks (pages_for is) = w.bytes ∙ ap (λ (c : Bool). file_so_far c is) p.opened in
      let ends : last ≡ end_block (length (pages_for is)) (shapes_of (pages_for is)) = ap₂ end_block (w.pages ∙ sym (length-pages is)) w.shapes in
      subst (λ (x : Added). Written (record { state = x.next; buffer = sets d x.from x.bytes }) is) p.adds
      (record {
        inside = omega (arith, p.fits, length-sets d st.position last);
        bytes =
            take-sets d last st.position p.fits
            ∙ ap₂ (λ (l m : List ℕ). l ++ m) so_far ends
            ∙ append_assoc first_block (page_blocks (pages_for is)) (end_block (length (pages_for is)) (shapes_of (pages_for is)));
        pages = w.pages;
        shapes = w.shapes;
        few = w.few;
        sound = w.sound;
      })

  -- one call, taken or refused
  written-call : (c : Call) (o : Out Added) → call_of h c ≡ o → TypedCall c → Written (left_by o h) (is ++ page_of_call o c)
  unfolding left_by state_after buffer_after call_of page_of_call TypedCall
  written-call c (refused x) e t = subst (Written h) (sym (append-nil is)) w
  written-call (a_page i) (ok a) e t = written-page i a t e
  written-call the_end (ok a) e t = subst (Written (left_by (ok a) h)) (sym (append-nil is)) (written-close a e)

-- all of them
pub written-calls : (h : HalfWritten) (is : List Handed) (cs : List Call) → Written h is → TypedCalls cs → Written (after_calls h cs) (is ++ taken_of h cs)
unfolding after_calls taken_of
written-calls h is [] w t = subst (Written h) (sym (append-nil is)) w
written-calls h is (c ∷ cs) w (run.more t ts) =
    let o = call_of h c in
    subst (Written (after_calls (left_by o h) cs)) (append_assoc is (page_of_call o c) (taken_of (left_by o h) cs))
    (written-calls (left_by o h) (is ++ page_of_call o c) cs (written-call h is w c o refl t) ts)

-- two writers that took the same pages have written the same bytes
pub written_same : (h k : HalfWritten) (is : List Handed) → Written h is → Written k is → h.state.closed ≡ k.state.closed
    → file_in h ≡ file_in k
written_same h k is v w e = v.bytes ∙ ap (λ (c : Bool). file_so_far c is) e ∙ sym w.bytes

-- ---- the file

-- once closed, what stands before the position is the file of the pages that were taken
pub written-file : (h : HalfWritten) (is : List Handed) → Written h is → h.state.closed ≡ true → IsFile (file_in h) (frame_for is)
unfolding file_so_far frame_for
written-file h is w e = record {
  edition = refl;
  few = omega (arith, w.few, length-pages is);
  heads = pages-say w.sound;
  same = w.bytes ∙ ap (λ (c : Bool). file_so_far c is) e;
}

-- from open on, with the buffer lent back as it was left: a closed writer's file has the frame of the pages that were taken, each of which passed
pub run-frame : (h : HalfWritten) (cs : List Call) → 8 ≤ length h.buffer → TypedCalls cs → (after_calls (after_open h) cs).state.closed ≡ true
    → (frame_of (file_in (after_calls (after_open h) cs)) ≡ ok (frame_for (taken_of (after_open h) cs))) × Sounds (taken_of (after_open h) cs)
run-frame h cs l t c =
    let w = written-calls (after_open h) [] cs (written-open h l) t in
    (is-frame _ _ (written-file (after_calls (after_open h) cs) (taken_of (after_open h) cs) w c), w.sound)
