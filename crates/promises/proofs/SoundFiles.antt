-- What acceptance means: the full check accepts exactly the sound files, and their shapes are the file's. Assumes nothing.
use Prim.Native.Nat.{ℕ, zero, suc, ◌+◌, ◌≤◌}
use mathlib.Core.Path.{◌≡◌, refl, sym, ap, ◌∙◌, subst}
use mathlib.Core.List.{List, [], ◌∷◌, ◌++◌}
use native.Mathlib.Nat.{le_refl}
use native.Mathlib.Omega.{arith}
use lib.ListN.{length}
use Rattle.answer.specs.Table as table
use Rattle.answer.specs.Axis as Axis
use Rattle.answer.specs.Refusal.{on_column, on_page}
use Rattle.answer.specs.Outcome.{ok, in_page, marked}
use Rattle.answer.proofs.Outcomes.{ok-inj, on-ok, marked-value, marked-ok}
use Rattle.answer.proofs.Rules.{rule-holds, rule-ok}
use Rattle.answer.proofs.Both.{both}
use Rattle.le.specs.Number.{bytes_of, Bytes}
use Rattle.block.specs.Block as block
use Rattle.le.proofs.Numbers.{bytes-part}
use Rattle.column.specs.Read.{decode_of}
use Rattle.column.proofs.Decoding.{read-decode}
use Rattle.extent.specs.Boxes.{patterns}
use Rattle.types.specs.Parts.{parts_rule}
use Rattle.types.proofs.Passed.{parts-passed}
use Rattle.shape.specs.Outline.{Shape}
use Rattle.shape.specs.Rules.{finite_rule, ring_rule, grid_rule, turn_rule, box_holds, box_rule, outline_rules}
use Rattle.shape.proofs.Passing.{finite-passed, ring-passed, grid-passed, turn-passed}
use Rattle.frame.specs.declared.head.Head.{Head}
use Rattle.frame.specs.declared.walk.Totals.{Totals}
use Rattle.frame.specs.Head.{head_of}
use Rattle.frame.specs.Frame.{Page, Frame, totals_of}
use Rattle.frame.specs.Frame as frame
use Rattle.frame.specs.Whole.{AllSay, none, more, block_of, page_blocks, end_block, file_of}
use Rattle.frame.proofs.Heads.{head-is, head-limits}
use Rattle.frame.proofs.Wholes.{frame_is, is-frame}
use Rattle.page.specs.Contents.{types_of, counts_of, lens_of, x_part, y_part, Vertices, column_of, vertices_of, contents_of}
use Rattle.answer.proofs.Orders.{on_value}
use Rattle.file.specs.File.{pages_of, shapes_in}
use Rattle.file.specs.Check.{check_of}
use Rattle.file.proofs.Rests.{pages-first}
use Rattle.file.proofs.Checks.{shapes_are, check-accepts, accepts-check}
use Rattle.promises.specs.Holding.{ColumnHolds}
use Rattle.promises.specs.SoundFile.{outlines_in, SoundPage, SoundPages, SoundFile}
use Rattle.promises.specs.SoundFile as sound
use Rattle.promises.proofs.Accepted as accepted

-- ---- a column of a page

pub column-read : (s : List ℕ) (n : ℕ) (vs : List ℕ) → n ≤ 2048 → ColumnHolds 64 s n n vs → decode_of 64 s n ≡ ok vs
column-read s n vs l h = sym (read-decode 64 s n n l (le_refl n)) ∙ accepted.held-read 64 s n n vs (omega arith) h

pub column-held : (s : List ℕ) (n : ℕ) (vs : List ℕ) → n ≤ 2048 → Bytes s → decode_of 64 s n ≡ ok vs → ColumnHolds 64 s n n vs
column-held s n vs l y e = accepted.read_held 64 s n n vs (omega arith) y (read-decode 64 s n n l (le_refl n) ∙ e)

-- ---- a page

module _ (h : Head) (b : List ℕ) (shapes : List Shape) (few : h.v ≤ 2048) where
  -- sound contents are read, rule by rule
  pub sound-page : SoundPage h b shapes → contents_of h b ≡ ok shapes
  unfolding contents_of vertices_of outline_rules parts_rule finite_rule ring_rule grid_rule turn_rule box_rule
  sound-page p =
      let os = outlines_in h b p.xs p.ys in
      let x = column-read (x_part h b) h.v p.xs few (record { column = p.x_column; patterns = p.x_patterns; count = p.x_count; few = few; enough = le_refl h.v }) in
      let y = column-read (y_part h b) h.v p.ys few (record { column = p.y_column; patterns = p.y_patterns; count = p.y_count; few = few; enough = le_refl h.v }) in
      let v : vertices_of h b ≡ ok (record { xs = p.xs; ys = p.ys }) = on_value (column_of Axis.x (x_part h b) h.v) _ p.xs (marked-value (on_column Axis.x) p.xs x) ∙ on_value (column_of Axis.y (y_part h b) h.v) _ p.ys (marked-value (on_column Axis.y) p.ys y) in
      let r : outline_rules os p.xs p.ys ≡ ok tt =
      on_value (finite_rule p.xs p.ys) _ tt (rule-holds _ table.finite (both p.x_finite p.y_finite))
      ∙ on_value (ring_rule os) _ tt (rule-holds _ table.ring p.closed)
      ∙ on_value (grid_rule os) _ tt (rule-holds _ table.grid p.on_grid)
      ∙ rule-holds _ table.turn p.turned in
      on_value (parts_rule (types_of h b) (counts_of h b) (lens_of h b) h.v) _ tt (rule-holds _ table.parts p.parts)
      ∙ on_value (vertices_of h b) _ (record { xs = p.xs; ys = p.ys }) v
      ∙ on_value (outline_rules os p.xs p.ys) _ tt r
      ∙ on_value (box_rule (patterns h.stored) p.xs p.ys) _ tt (rule-holds _ table.box p.boxed)
      ∙ ap ok (sym p.shapes_are)

  -- and what is read is sound
  pub page-sound : Bytes (x_part h b) → Bytes (y_part h b) → contents_of h b ≡ ok shapes → SoundPage h b shapes
  unfolding contents_of vertices_of outline_rules box_rule
  page-sound yx yy e =
      let parts = on-ok (parts_rule (types_of h b) (counts_of h b) (lens_of h b) h.v) _ shapes e in
      let vertices = on-ok (vertices_of h b) _ shapes parts.2 in
      let x = on-ok (column_of Axis.x (x_part h b) h.v) _ vertices.0 vertices.1 in
      let y = on-ok (column_of Axis.y (y_part h b) h.v) _ vertices.0 x.2 in
      let xs = vertices.0.xs in
      let ys = vertices.0.ys in
      let xs-are : x.0 ≡ xs = ap (λ (t : Vertices). t.xs) (ok-inj y.2) in
      let ys-are : y.0 ≡ ys = ap (λ (t : Vertices). t.ys) (ok-inj y.2) in
      let xh = column-held (x_part h b) h.v xs few yx (rw (← xs-are) (marked-ok (on_column Axis.x) _ x.0 x.1)) in
      let yh = column-held (y_part h b) h.v ys few yy (rw (← ys-are) (marked-ok (on_column Axis.y) _ y.0 y.1)) in
      let os = outlines_in h b xs ys in
      let rules = on-ok (outline_rules os xs ys) _ shapes vertices.2 in
      let finite = on-ok (finite_rule xs ys) _ rules.0 rules.1 in
      let ring = on-ok (ring_rule os) _ rules.0 finite.2 in
      let grid = on-ok (grid_rule os) _ rules.0 ring.2 in
      let box = on-ok (box_rule (patterns h.stored) xs ys) _ shapes rules.2 in
      let f = finite-passed xs ys finite.0 finite.1 in
      record {
        xs = xs;
        ys = ys;
        parts = parts-passed (types_of h b) (counts_of h b) (lens_of h b) h.v parts.0 parts.1;
        x_column = xh.column;
        x_patterns = xh.patterns;
        x_count = xh.count;
        y_column = yh.column;
        y_patterns = yh.patterns;
        y_count = yh.count;
        x_finite = f.0;
        y_finite = f.1;
        closed = ring-passed os ring.0 ring.1;
        on_grid = grid-passed os grid.0 grid.1;
        turned = turn-passed os rules.0 grid.2;
        boxed = rule-ok (box_holds (patterns h.stored) xs ys) table.box box.0 box.1;
        shapes_are = sym (ok-inj box.2);
      }

-- ---- bytes of which others are made

bytes_left : (a b : List ℕ) → Bytes (a ++ b) → Bytes a
bytes_left [] b h i = omega arith
bytes_left (x ∷ a) b h zero = h 0
bytes_left (x ∷ a) b h (suc i) = bytes_left a b (λ j. h (suc j)) i

bytes-right : (a b : List ℕ) → Bytes (a ++ b) → Bytes b
bytes-right [] b h = h
bytes-right (x ∷ a) b h = bytes-right a b (λ j. h (suc j))

module _ (h : Head) (b : List ℕ) (y : Bytes b) where
  x-bytes : Bytes (x_part h b)
  unfolding x_part
  x-bytes = bytes-part b h.layout.columns h.cx y

  y-bytes : Bytes (y_part h b)
  unfolding y_part
  y-bytes = bytes-part b (h.layout.columns + h.cx) h.cy y

-- ---- the pages

few-in : (p : Page) → head_of 1 p.body ≡ ok p.head → p.head.v ≤ 2048
few-in p e = (head-limits 1 p.body p.head (head-is 1 p.body p.head e)).vertices

pub sound-pages : (k : ℕ) {ps : List Page} {shapes : List Shape} → AllSay 1 ps → SoundPages ps shapes → pages_of k ps ≡ ok shapes
unfolding pages_of
sound-pages k none sound.none = refl
sound-pages k (more {p = p} {ps = ps} says rest) (sound.more {here = here} {rest = others} page pages) =
    pages-first k p ps here (sound-page p.head p.body here (few-in p says.headed) page)
    ∙ on_value (pages_of (suc k) ps) _ others (sound-pages (suc k) rest pages)

pub pages-sound : (k : ℕ) {ps : List Page} (shapes : List Shape) → AllSay 1 ps → Bytes (page_blocks ps) → pages_of k ps ≡ ok shapes → SoundPages ps shapes
unfolding pages_of page_blocks block_of marked
pages-sound k shapes none y e = subst (SoundPages []) (ok-inj e) sound.none
pages-sound k shapes (more {p = p} {ps = ps} says rest) y e =
    let own : Bytes p.body = bytes-right (block.block_head (length p.body) 2) p.body (bytes_left (block_of 2 p.body) (page_blocks ps) y) in
    let here = on-ok (in_page k (contents_of p.head p.body)) _ shapes e in
    let others = on-ok (pages_of (suc k) ps) _ shapes here.2 in
    let contents : contents_of p.head p.body ≡ ok here.0 = marked-ok (on_page k) (contents_of p.head p.body) here.0 here.1 in
    subst (SoundPages (p ∷ ps)) (ok-inj others.2)
    (sound.more
    (page-sound p.head p.body here.0 (few-in p says.headed) (x-bytes p.head p.body own) (y-bytes p.head p.body own) contents)
    (pages-sound (suc k) others.0 rest (bytes-right (block_of 2 p.body) (page_blocks ps) y) others.1))

-- ---- the file

-- a sound file is accepted
pub sound-accepted : (s : List ℕ) (f : Frame) (shapes : List Shape) → SoundFile s f shapes → (check_of s ≡ ok (totals_of f)) × (shapes_in s ≡ ok shapes)
sound-accepted s f shapes k =
    let framed = is-frame s f k.file in
    let pages = sound-pages 0 k.file.heads k.pages in
    (accepts-check s f shapes framed pages, shapes_are s f framed ∙ pages)

-- what is accepted is a sound file, and its shapes are the file's
pub accepted-sound : (s : List ℕ) (t : Totals) → Bytes s → check_of s ≡ ok t
    → (f : Frame) × (shapes : List Shape) × SoundFile s f shapes × (shapes_in s ≡ ok shapes) × (totals_of f ≡ t)
unfolding file_of
accepted-sound s t y e =
    let a = check-accepts s t e in
    let k = frame_is s a.0 y a.2 in
    let z : Bytes (file_of a.0) = subst Bytes k.same y in
    let q = page_blocks a.0.pages in
    let last = end_block (length a.0.pages) (frame.shapes_of a.0.pages) in
    let w = bytes_left q last (bytes-right (block_of 1 (bytes_of 2 a.0.edition)) (q ++ last) z) in
    (a.0, a.1, record { file = k; pages = pages-sound 0 a.1 k.heads w a.3 }, shapes_are s a.0 a.2 ∙ a.3, a.4)
