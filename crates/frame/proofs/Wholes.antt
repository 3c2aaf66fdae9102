-- A file is accepted exactly when it is the file of a frame: the walk reads what `file_of` puts, and what it has read is such a file. Assumes
-- nothing.
use Prim.Native.Nat.{ℕ, zero, suc, ◌+◌, ◌*◌, ◌^◌, ◌≤◌, ◌<◌}
use mathlib.Core.Path.{◌≡◌, refl, sym, ap, ap₂, subst, ◌∙◌}
use mathlib.Core.List.{List, [], ◌∷◌, ◌++◌, append_assoc, append-nil}
use native.Mathlib.Nat.{mod-eq_of_lt}
use native.Mathlib.Omega.{arith}
use lib.ListN.{length, take, drop, length-append, drop_of_length-le}
use lib.Seq.{take-add, drop-drop}
use Rattle.answer.specs.Outcome.{Out, ok, on}
use Rattle.le.specs.Number.{number_at, bytes_of, Bytes}
use Rattle.le.proofs.Numbers.{number-at-lt}
use Rattle.le.proofs.Bytes.{length-bytes_of, number-at-append, number-at-bytes_of, number-at-part}
use Rattle.frame.specs.declared.cursor.Cursor.{Cursor}
use Rattle.frame.specs.declared.cursor.PageAt.{PageAt}
use Rattle.frame.specs.Head.{head_of}
use Rattle.frame.specs.Next.{part}
use Rattle.frame.specs.Frame.{Page, Frame, page_of, walk, frame_of, shapes_of}
use Rattle.frame.specs.Whole.{block_of, page_blocks, end_block, file_of, Says, AllSay, none, more, IsFile}
use Rattle.frame.proofs.Heads.{head-is, head-limits}
use Rattle.frame.proofs.Found.{Stands, Begins, first-is, is-first, Paged, page-is, is-page, Ended, end_is, is-end}
use Rattle.frame.proofs.Walks.{walk_end, walk-page}
use Rattle.frame.specs.Ahead.{Ahead}
use Rattle.frame.proofs.Ahead.{ahead-start, ahead-some, ahead_none}
use Rattle.frame.proofs.Parts.{bytes-at, length_part, length-block, put-body, put-stands, stands-block}

-- ---- the file of a frame is read

-- at most 256 shapes a page
pub shapes-le : (edition : ℕ) (ps : List Page) → AllSay edition ps → shapes_of ps ≤ 256 * length ps
unfolding shapes_of
shapes-le edition [] none = omega arith
shapes-le edition (p ∷ ps) (more k ks) =
    omega (arith, shapes-le edition ps ks, (head-limits _ _ _ (head-is edition p.body p.head k.headed)).few)

-- the two counts, as a body
abbrev both : ℕ → ℕ → List ℕ
both pages shapes = bytes_of 4 pages ++ bytes_of 4 shapes

length_both : (pages shapes : ℕ) → length (both pages shapes) ≡ 8
length_both pages shapes = length-append (bytes_of 4 pages) (bytes_of 4 shapes) ∙ ap₂ ◌+◌ (length-bytes_of 4 pages) (length-bytes_of 4 shapes)

both-pages : (pages shapes : ℕ) → pages < 2 ^ 32 → number_at 4 (both pages shapes) 0 ≡ pages
both-pages pages shapes h = number-at-bytes_of 4 pages (bytes_of 4 shapes) ∙ mod-eq_of_lt h

both-shapes : (pages shapes : ℕ) → shapes < 2 ^ 32 → number_at 4 (both pages shapes) 4 ≡ shapes
both-shapes pages shapes h =
    let n : 4 ≡ length (bytes_of 4 pages) + 0 = omega (arith, length-bytes_of 4 pages) in
    ap (number_at 4 (both pages shapes)) n
    ∙ number-at-append 4 (bytes_of 4 pages) (bytes_of 4 shapes) 0
    ∙ ap (λ (l : List ℕ). number_at 4 l 0) (sym (append-nil (bytes_of 4 shapes)))
    ∙ number-at-bytes_of 4 shapes []
    ∙ mod-eq_of_lt h

-- the end block, where it stands with the cursor's counts
end-put : (s pre : List ℕ) (c : Cursor) → s ≡ pre ++ end_block c.pages c.shapes → length pre ≡ c.at
    → c.pages < 2 ^ 32 → c.shapes < 2 ^ 32 → Ended s c
unfolding end_block
end-put s pre c e l hp hs =
    let body : List ℕ = both c.pages c.shapes in
    let n : length body ≡ 8 = length_both c.pages c.shapes in
    let e' : s ≡ pre ++ (block_of 3 body ++ []) = e ∙ ap (λ (x : List ℕ). pre ++ x) (sym (append-nil (block_of 3 body))) in
    let st : Stands s c.at 3 (c.at + 6) (length body) = put-stands 3 body s pre [] c.at e' l (omega arith) (omega (arith, n)) in
    let b : part s (c.at + 6) (length body) ≡ body = put-body 3 body s pre [] c.at e' l in
    let zero-on : c.at + 6 + 0 ≡ c.at + 6 = omega arith in
    let four-on : c.at + 6 + 4 ≡ c.at + 10 = omega arith in
    let t : length s ≡ length pre + length (block_of 3 body) = ap length e ∙ length-append pre (block_of 3 body) in
    record {
      stands = subst (λ (k : ℕ). Stands s c.at 3 (c.at + 6) k) n st;
      pages_at =
          ap (number_at 4 s) (sym zero-on)
          ∙ sym (number-at-part 4 (length body) (c.at + 6) 0 s (omega (arith, n)))
          ∙ ap (λ (x : List ℕ). number_at 4 x 0) b
          ∙ both-pages c.pages c.shapes hp;
      shapes_at =
          ap (number_at 4 s) (sym four-on)
          ∙ sym (number-at-part 4 (length body) (c.at + 6) 4 s (omega (arith, n)))
          ∙ ap (λ (x : List ℕ). number_at 4 x 4) b
          ∙ both-shapes c.pages c.shapes hs;
      last = omega (arith, t, l, n, length-block 3 body);
    }

-- a page block, as it is found
abbrev put_page : Cursor → Page → PageAt
put_page c p = record {
  head = p.head;
  body = c.at + 6;
  len = length p.body;
  next = record { edition = c.edition; at = c.at + 6 + length p.body; pages = c.pages + 1; shapes = c.shapes + p.head.g };
}

page-put : (s pre rest : List ℕ) (c : Cursor) (p : Page) → s ≡ pre ++ (block_of 2 p.body ++ rest) → length pre ≡ c.at
    → c.pages < 1024 → Says c.edition p → Paged s c (put_page c p) × (page_of s (put_page c p) ≡ p)
page-put s pre rest c p e l h k =
    let b : part s (c.at + 6) (length p.body) ≡ p.body = put-body 2 p.body s pre rest c.at e l in (
      record {
        stands = put-stands 2 p.body s pre rest c.at e l (omega arith) k.long;
        few = h;
        headed = ap (head_of c.edition) b ∙ k.headed;
        next = refl;
      },
      λ i. record { head = p.head; body = b i },
    )

-- the walk over what is left
walk_put : (ps : List Page) (n : ℕ) (s pre : List ℕ) (c : Cursor) → AllSay c.edition ps
    → s ≡ pre ++ (page_blocks ps ++ end_block (c.pages + length ps) (c.shapes + shapes_of ps)) → length pre ≡ c.at
    → c.pages + length ps ≤ 1024 → c.shapes + shapes_of ps < 2 ^ 32 → length ps < n → walk n s c ≡ ok ps
unfolding page_blocks shapes_of on
walk_put ps zero s pre c ks e l a b h = absurd (omega arith)
walk_put [] (suc n) s pre c none e l a b h =
    let x : c.pages + 0 ≡ c.pages = omega arith in
    let y : c.shapes + 0 ≡ c.shapes = omega arith in
    walk_end s c n (is-end s c (end-put s pre c (e ∙ ap₂ (λ (i j : ℕ). pre ++ end_block i j) x y) l (omega arith) (omega arith)))
walk_put (p ∷ ps) (suc n) s pre c (more k ks) e l a b h =
    let q : PageAt = put_page c p in
    let x : c.pages + suc (length ps) ≡ c.pages + 1 + length ps = omega arith in
    let y : c.shapes + (p.head.g + shapes_of ps) ≡ c.shapes + p.head.g + shapes_of ps = omega arith in
    let rest : List ℕ = page_blocks ps ++ end_block (c.pages + 1 + length ps) (c.shapes + p.head.g + shapes_of ps) in
    let e' : s ≡ pre ++ (block_of 2 p.body ++ rest) =
    e
    ∙ ap₂ (λ (i j : ℕ). pre ++ (block_of 2 p.body ++ page_blocks ps ++ end_block i j)) x y
    ∙ ap (λ (z : List ℕ). pre ++ z) (append_assoc (block_of 2 p.body) (page_blocks ps) (end_block (c.pages + 1 + length ps) (c.shapes + p.head.g + shapes_of ps))) in
    let f = page-put s pre rest c p e' l (omega arith) k in
    let b' : c.shapes + p.head.g + shapes_of ps < 2 ^ 32 = subst (λ (i : ℕ). i < 2 ^ 32) y b in
    let l' : length (pre ++ block_of 2 p.body) ≡ c.at + 6 + length p.body =
    length-append pre (block_of 2 p.body) ∙ omega (arith, l, length-block 2 p.body) in
    let r : walk n s q.next ≡ ok ps =
    walk_put ps n s (pre ++ block_of 2 p.body) q.next ks (e' ∙ sym (append_assoc pre (block_of 2 p.body) rest)) l' (omega arith) b' (omega arith) in
    walk-page s c n q (is-page s c q f.0)
    ∙ ap (λ (z : Out (List Page)). on z (λ qs. ok (page_of s q ∷ qs))) r
    ∙ ap (λ (z : Page). ok (z ∷ ps)) f.1

-- the first block, as it is put
first-put : (s rest : List ℕ) → s ≡ block_of 1 (bytes_of 2 1) ++ rest → Begins s (record { edition = 1; at = 8; pages = 0; shapes = 0 })
first-put s rest e =
    let b : List ℕ = bytes_of 2 1 in
    let n : length b ≡ 2 = length-bytes_of 2 1 in
    let small : 1 < 2 ^ 16 = omega arith in
    let t : part s 6 (length b) ≡ b = put-body 1 b s [] rest 0 e refl in
    record {
      stands = subst (λ (k : ℕ). Stands s 0 1 6 k) n (put-stands 1 b s [] rest 0 e refl (omega arith) (omega (arith, n)));
      edition_at =
          sym (number-at-part 2 (length b) 6 0 s (omega (arith, n)))
          ∙ ap (λ (x : List ℕ). number_at 2 x 0) (t ∙ sym (append-nil b))
          ∙ number-at-bytes_of 2 1 []
          ∙ mod-eq_of_lt small;
      after = refl;
    }

pub is-frame : (s : List ℕ) (f : Frame) → IsFile s f → frame_of s ≡ ok f
unfolding file_of frame_of on
is-frame s f k =
    let ps : List Page = f.pages in
    let c : Cursor = record { edition = 1; at = 8; pages = 0; shapes = 0 } in
    let first : List ℕ = block_of 1 (bytes_of 2 1) in
    let rest : List ℕ = page_blocks ps ++ end_block (length ps) (shapes_of ps) in
    let e : s ≡ first ++ rest = k.same ∙ ap (λ (n : ℕ). block_of 1 (bytes_of 2 n) ++ rest) k.edition in
    let x : length ps ≡ 0 + length ps = omega arith in
    let y : shapes_of ps ≡ 0 + shapes_of ps = omega arith in
    let e' : s ≡ first ++ (page_blocks ps ++ end_block (0 + length ps) (0 + shapes_of ps)) =
    e ∙ ap₂ (λ (i j : ℕ). first ++ (page_blocks ps ++ end_block i j)) x y in
    let l : length first ≡ 8 = length-block 1 (bytes_of 2 1) ∙ ap (λ (i : ℕ). 6 + i) (length-bytes_of 2 1) in
    let few : length ps ≤ 1024 = k.few in
    let w : walk 1025 s c ≡ ok ps =
    walk_put ps 1025 s first c k.heads e' l (omega arith) (omega (arith, shapes-le 1 ps k.heads)) (omega arith) in
    rw (is-first s c (first-put s rest e), w) (ap (λ (n : ℕ). ok (record { edition = n; pages = ps })) (sym k.edition))

-- ---- what was read is the file of its frame

-- what is left from a cursor on
record Rest (s : List ℕ) (c : Cursor) (ps : List Page) : Type 0 where
  same : drop c.at s ≡ page_blocks ps ++ end_block (c.pages + length ps) (c.shapes + shapes_of ps)
  heads : AllSay c.edition ps
  few : c.pages + length ps ≤ 1024

rest-none : (s : List ℕ) (c : Cursor) → Bytes s → c.pages ≤ 1024 → Ended s c → Rest s c []
unfolding page_blocks end_block shapes_of
rest-none s c y h k =
    let l = k.last in
    let m : c.pages ≡ c.pages + 0 = omega arith in
    let n : c.shapes ≡ c.shapes + 0 = omega arith in
    let ten : c.at + 6 + 4 ≡ c.at + 10 = omega arith in
    let over : length s ≤ c.at + 6 + 8 = omega arith in
    let a : part s (c.at + 6) 4 ≡ bytes_of 4 c.pages = sym (bytes-at 4 s (c.at + 6) y (omega arith)) ∙ ap (bytes_of 4) k.pages_at in
    let b : part s (c.at + 10) 4 ≡ bytes_of 4 c.shapes = sym (bytes-at 4 s (c.at + 10) y (omega arith)) ∙ ap (bytes_of 4) k.shapes_at in
    let d : part s (c.at + 6) 8 ≡ both c.pages c.shapes =
    take-add 4 4 (drop (c.at + 6) s)
    ∙ ap₂ (λ (x z : List ℕ). x ++ z) a (ap (take 4) (drop-drop 4 (c.at + 6) s ∙ ap (λ (i : ℕ). drop i s) ten) ∙ b) in
    record {
      same =
          stands-block s c.at 3 (c.at + 6) 8 y k.stands
          ∙ ap₂ (λ (x z : List ℕ). block_of 3 x ++ z) d (drop_of_length-le s over)
          ∙ append-nil (block_of 3 (both c.pages c.shapes))
          ∙ ap₂ (λ (i j : ℕ). block_of 3 (both i j)) m n;
      heads = none;
      few = omega arith;
    }

rest_more : (s : List ℕ) (c : Cursor) (p : PageAt) (ps : List Page) → Bytes s → Paged s c p → Rest s p.next ps → Rest s c (page_of s p ∷ ps)
unfolding page_blocks shapes_of
rest_more s c p ps y k r =
    let st = k.stands in
    let ea : p.next.at ≡ p.body + p.len = ap (λ (x : Cursor). x.at) k.next in
    let ep : p.next.pages ≡ c.pages + 1 = ap (λ (x : Cursor). x.pages) k.next in
    let es : p.next.shapes ≡ c.shapes + p.head.g = ap (λ (x : Cursor). x.shapes) k.next in
    let ed : p.next.edition ≡ c.edition = ap (λ (x : Cursor). x.edition) k.next in
    let m : p.next.pages + length ps ≡ c.pages + suc (length ps) = omega arith in
    let n : p.next.shapes + shapes_of ps ≡ c.shapes + (p.head.g + shapes_of ps) = omega arith in
    let b : List ℕ = part s p.body p.len in
    record {
      same =
          stands-block s c.at 2 p.body p.len y st
          ∙ ap (λ (x : List ℕ). block_of 2 b ++ x)
          (ap (λ (i : ℕ). drop i s) (sym ea) ∙ r.same ∙ ap₂ (λ (i j : ℕ). page_blocks ps ++ end_block i j) m n)
          ∙ sym (append_assoc (block_of 2 b) (page_blocks ps) (end_block (c.pages + suc (length ps)) (c.shapes + (p.head.g + shapes_of ps))));
      heads = more
          (record {
            headed = k.headed;
            long = omega (arith, length_part s p.body p.len st.fits, st.len_at, number-at-lt 4 s c.at y);
          })
          (subst (λ (i : ℕ). AllSay i ps) ed r.heads);
      few = omega (arith, r.few, m);
    }

rest_of : (ps : List Page) (s : List ℕ) (c : Cursor) → Bytes s → Ahead s c ps → Rest s c ps
rest_of [] s c y a = rest-none s c y a.within.pages (end_is s c (ahead_none s c a))
rest_of (q ∷ qs) s c y a =
    let k = ahead-some s c q qs a in
    subst (λ (x : Page). Rest s c (x ∷ qs)) k.2
    (rest_more s c k.0 qs y (page-is s c k.0 k.1) (rest_of qs s k.0.next y k.3))

pub frame_is : (s : List ℕ) (f : Frame) → Bytes s → frame_of s ≡ ok f → IsFile s f
unfolding file_of
frame_is s f y e =
    let a = ahead-start s f e in
    let c : Cursor = a.0 in
    let k = first-is s c a.1 in
    let ec : c.edition ≡ 1 = ap (λ (x : Cursor). x.edition) k.after in
    let ea : c.at ≡ 8 = ap (λ (x : Cursor). x.at) k.after in
    let ep : c.pages ≡ 0 = ap (λ (x : Cursor). x.pages) k.after in
    let es : c.shapes ≡ 0 = ap (λ (x : Cursor). x.shapes) k.after in
    let ps : List Page = f.pages in
    let r = rest_of ps s c y a.3 in
    let one : f.edition ≡ 1 = sym a.2 ∙ ec in
    let m : c.pages + length ps ≡ length ps = omega (arith, ep) in
    let n : c.shapes + shapes_of ps ≡ shapes_of ps = omega (arith, es) in
    let b : part s 6 2 ≡ bytes_of 2 f.edition =
    sym (bytes-at 2 s 6 y (omega (arith, k.stands.fits))) ∙ ap (bytes_of 2) (k.edition_at ∙ sym one) in
    record {
      edition = one;
      few = omega (arith, r.few, m);
      heads = subst (λ (i : ℕ). AllSay i ps) ec r.heads;
      same =
          stands-block s 0 1 6 2 y k.stands
          ∙ ap₂ (λ (x z : List ℕ). block_of 1 x ++ z) b
          (ap (λ (i : ℕ). drop i s) (sym ea) ∙ r.same ∙ ap₂ (λ (i j : ℕ). page_blocks ps ++ end_block i j) m n);
    }
