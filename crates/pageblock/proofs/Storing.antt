-- Stores one after the other are one store of all their bytes: the parts of a page's body, and the block. Assumes nothing.
use Prim.Native.Nat.{ℕ, ◌+◌, ◌-◌, ◌*◌, ◌≤◌}
use mathlib.Core.Path.{◌≡◌, sym, ap, ap₂, ◌∙◌}
use mathlib.Core.List.{List, ◌++◌, append_assoc}
use native.Mathlib.Nat.{add-zero}
use native.Mathlib.Omega.{arith}
use lib.ListN.{length, take, drop}
use lib.Seq.{sets, sets-eq}
use borrow.Rule.Slice.PartMut.{put_mid, Post-is, mid_len}
use Rattle.le.specs.Number.{bytes_of, run_of}
use Rattle.le.proofs.Bytes.{length-bytes_of}
use Rattle.le.proofs.Runs.{length_run}
use Rattle.le.proofs.Stores.{sets-append}
use Rattle.block.specs.Block.{head_bytes, block_head}
use Rattle.block.proofs.Blocks.{length-head}
use Rattle.width.specs.Width.{width_of}
use Rattle.column.specs.Column.{encode_at, encode}
use Rattle.column.proofs.Writing.{encode-is}
use Rattle.extent.specs.declared.bounds.Bounds.{Bounds}
use Rattle.extent.specs.Boxes.{box_of}
use Rattle.block.specs.Kinds as kinds
use Rattle.frame.specs.Layout.{shapes_place, vertices_place, parts_place, bounds_place, first_bytes, each}
use Rattle.frame.specs.Whole.{block_of}
use Rattle.pageblock.specs.Body.{Handed, count_bytes, box_bytes, table_bytes, column_bytes, body_of, page_bytes}
use Rattle.pageblock.proofs.Sizes.{length-counts, length-box}

-- bytes put behind other bytes
pub store : (a b d e out : List ℕ) (at next : ℕ) → e ≡ sets d at a → next ≡ at + length a → out ≡ sets e next b → out ≡ sets d at (a ++ b)
store a b d e out at next p n q = q ∙ ap₂ (λ (l : List ℕ) (k : ℕ). sets l k b) p n ∙ sym (sets-append a b d at)

-- a number of k bytes put in front of what comes
number-store : (k x : ℕ) (b d e out : List ℕ) (at next : ℕ) → e ≡ sets d at (bytes_of k x) → next ≡ at + k → out ≡ sets e next b → out ≡ sets d at (bytes_of k x ++ b)
number-store k x b d e out at next p n q = store (bytes_of k x) b d e out at next p (n ∙ ap (λ (j : ℕ). at + j) (sym (length-bytes_of k x))) q

-- a run put in front of what comes
run_store : (k : ℕ) (xs b d e out : List ℕ) (at next : ℕ) → e ≡ sets d at (run_of k xs) → next ≡ at + k * length xs → out ≡ sets e next b → out ≡ sets d at (run_of k xs ++ b)
run_store k xs b d e out at next p n q = store (run_of k xs) b d e out at next p (n ∙ ap (λ (j : ℕ). at + j) (sym (length_run k xs))) q

-- the three counts
pub counts-put : (g v p : ℕ) (d d₁ d₂ d₃ : List ℕ) (at : ℕ) → d₁ ≡ sets d (at + shapes_place) (bytes_of 2 g)
    → d₂ ≡ sets d₁ (at + vertices_place) (bytes_of 2 v) → d₃ ≡ sets d₂ (at + parts_place) (bytes_of 2 p)
    → d₃ ≡ sets d at (count_bytes g v p)
unfolding count_bytes
counts-put g v p d d₁ d₂ d₃ at e₁ e₂ e₃ =
    number-store 2 g (bytes_of 2 v ++ bytes_of 2 p) d d₁ d₃ at (at + 2) (e₁ ∙ ap (λ (k : ℕ). sets d k (bytes_of 2 g)) (add-zero at)) (omega arith)
    (number-store 2 v (bytes_of 2 p) d₁ d₂ d₃ (at + 2) (at + 4) e₂ (omega arith) e₃)

-- the four patterns
pub box-put : (b : Bounds) (d d₁ d₂ d₃ d₄ : List ℕ) (at : ℕ) → d₁ ≡ sets d at (bytes_of 8 b.least_x) → d₂ ≡ sets d₁ (at + 8) (bytes_of 8 b.least_y)
    → d₃ ≡ sets d₂ (at + 16) (bytes_of 8 b.greatest_x) → d₄ ≡ sets d₃ (at + 24) (bytes_of 8 b.greatest_y) → d₄ ≡ sets d at (box_bytes b)
unfolding box_bytes
box-put b d d₁ d₂ d₃ d₄ at e₁ e₂ e₃ e₄ =
    number-store 8 b.least_x _ d d₁ d₄ at (at + 8) e₁ (omega arith)
    (number-store 8 b.least_y _ d₁ d₂ d₄ (at + 8) (at + 16) e₂ (omega arith)
    (number-store 8 b.greatest_x (bytes_of 8 b.greatest_y) d₂ d₃ d₄ (at + 16) (at + 24) e₃ (omega arith) e₄))

-- the four tables
pub tables-put : (k : ℕ) (i : Handed) (d d₁ d₂ d₃ d₄ : List ℕ) (at t c l : ℕ) → t ≡ at + k * length i.registers → c ≡ t + length i.types → l ≡ c + 2 * length i.counts
    → d₁ ≡ sets d at (run_of k i.registers) → d₂ ≡ sets d₁ t i.types → d₃ ≡ sets d₂ c (run_of 2 i.counts) → d₄ ≡ sets d₃ l (run_of 2 i.lens)
    → d₄ ≡ sets d at (table_bytes k i)
unfolding table_bytes
tables-put k i d d₁ d₂ d₃ d₄ at t c l et ec el e₁ e₂ e₃ e₄ =
    run_store k i.registers _ d d₁ d₄ at t e₁ et
    (store i.types _ d₁ d₂ d₄ t c e₂ ec
    (run_store 2 i.counts (run_of 2 i.lens) d₂ d₃ d₄ c l e₃ el e₄))

-- a part that is put is a store
pub part-put : (d e bytes : List ℕ) (at end : ℕ) → end ≡ at + length bytes → end ≤ length d → e ≡ bytes → put_mid at (end - at) d e ≡ sets d at bytes
part-put d e bytes at end n h p =
    let l : at ≤ end = omega arith in
    let m : at + length bytes ≤ length d = omega arith in
    ap₂ (λ (x y : List ℕ). take at d ++ (x ++ y)) p (Post-is at end d l ∙ ap (λ (k : ℕ). drop k d) n)
    ∙ sym (append_assoc (take at d) bytes (drop (at + length bytes) d)) ∙ sym (sets-eq bytes d at m)

-- the two byte lengths and the two columns
pub columns-put : (xs ys d d₁ d₂ d₃ d₄ : List ℕ) (at cx cy : ℕ) → cx ≡ length (encode 64 xs) → cy ≡ length (encode 64 ys)
    → d₁ ≡ sets d at (bytes_of 4 cx) → d₂ ≡ sets d₁ (at + 4) (bytes_of 4 cy) → d₃ ≡ sets d₂ (at + 8) (encode 64 xs) → d₄ ≡ sets d₃ (at + 8 + cx) (encode 64 ys)
    → d₄ ≡ sets d at (column_bytes xs ys)
unfolding column_bytes
columns-put xs ys d d₁ d₂ d₃ d₄ at cx cy ex ey e₁ e₂ e₃ e₄ =
    number-store 4 (length (encode 64 xs)) _ d d₁ d₄ at (at + 4) (e₁ ∙ ap (λ (n : ℕ). sets d at (bytes_of 4 n)) ex) (omega arith)
    (number-store 4 (length (encode 64 ys)) (encode 64 xs ++ encode 64 ys) d₁ d₂ d₄ (at + 4) (at + 8) (e₂ ∙ ap (λ (n : ℕ). sets d₁ (at + 4) (bytes_of 4 n)) ey) (omega arith)
    (store (encode 64 xs) (encode 64 ys) d₂ d₃ d₄ (at + 8) (at + 8 + cx) e₃ (ap (λ (n : ℕ). at + 8 + n) ex) e₄))

-- the part that is to hold a column is as long as the column
pub column-part : (d vs : List ℕ) (at n w : ℕ) → at + n ≤ length d → n ≡ length (encode 64 vs) → w ≡ width_of 64 vs
    → length (take (at + n - at) (drop at d)) ≡ length (encode_at 64 w vs)
column-part d vs at n w h e f =
    let z : at + n - at ≡ n = omega arith in
    mid_len at (at + n) d h ∙ z ∙ e ∙ sym (ap length (encode-is 64 w vs f))

-- the head of the block, the counts, the box, the tables and the columns; the tables stand at t, and the columns' byte lengths at k
pub page-put : (ed : ℕ) (i : Handed) (d d₁ d₂ d₃ d₄ d₅ : List ℕ) (len each' t k : ℕ) (b : Bounds) → len ≡ length (body_of ed i) → each' ≡ each ed → t ≡ head_bytes + first_bytes
    → k ≡ t + length (table_bytes (each ed) i) → d₁ ≡ sets d 0 (block_head len kinds.page)
    → d₂ ≡ sets d₁ head_bytes (count_bytes (length i.registers) (length i.xs) (length i.lens))
    → b ≡ box_of i.xs i.ys → d₃ ≡ sets d₂ (head_bytes + bounds_place) (box_bytes b)
    → d₄ ≡ sets d₃ t (table_bytes each' i) → d₅ ≡ sets d₄ k (column_bytes i.xs i.ys) → d₅ ≡ sets d 0 (page_bytes ed i)
unfolding page_bytes block_of body_of
page-put ed i d d₁ d₂ d₃ d₄ d₅ len each' t k b el ee et ek e₁ e₂ eb e₃ e₄ e₅ =
    let c = count_bytes (length i.registers) (length i.xs) (length i.lens) in
    let x = box_bytes (box_of i.xs i.ys) in
    let s = table_bytes (each ed) i in
    let z = column_bytes i.xs i.ys in
    let n = length (body_of ed i) in
    store (block_head n kinds.page) (body_of ed i) d d₁ d₅ 0 6 (e₁ ∙ ap (λ (m : ℕ). sets d 0 (block_head m kinds.page)) el) (omega (arith, length-head n kinds.page))
    (store c (x ++ (s ++ z)) d₁ d₂ d₅ 6 12 e₂ (omega (arith, length-counts (length i.registers) (length i.xs) (length i.lens)))
    (store x (s ++ z) d₂ d₃ d₅ 12 t (e₃ ∙ ap (λ (q : Bounds). sets d₂ 12 (box_bytes q)) eb) (omega (arith, et, length-box (box_of i.xs i.ys)))
    (store s z d₃ d₄ d₅ t k (e₄ ∙ ap (λ (m : ℕ). sets d₃ t (table_bytes m i)) ee) ek e₅)))
