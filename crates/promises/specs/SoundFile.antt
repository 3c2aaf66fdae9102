-- What a sound file is, with no walk over it and no order of refusals: the first block, pages each with sound contents, the end block with the
-- right counts, and nothing else. Assumes nothing.
use Rattle.std.specs.Prelude.{ℕ, ◌≡◌, true, List, [], ◌∷◌, ◌++◌, length}
use Rattle.le.specs.Number.{Fits}
use Rattle.column.specs.Column.{IsColumn}
use Rattle.extent.specs.Rank.{all_finite}
use Rattle.extent.specs.Boxes.{patterns}
use Rattle.answer.specs.All.{all_of}
use Rattle.types.specs.Parts.{parts_hold}
use Rattle.shape.specs.Outline.{Outline, Shape, outlines_of, registered}
use Rattle.shape.specs.Rules.{rings_closed, on_grid_shape, turns_hold, box_holds}
use Rattle.frame.specs.declared.head.Head.{Head}
use Rattle.frame.specs.Frame.{Page, Frame}
use Rattle.frame.specs.Whole.{IsFile}
use Rattle.page.specs.Contents.{registers_of, types_of, counts_of, lens_of, x_part, y_part}

-- the outlines of a page with the vertices xs, ys
abbrev pub outlines_in : Head → List ℕ → List ℕ → List ℕ → List Outline
outlines_in h b xs ys = outlines_of (types_of h b) (counts_of h b) (lens_of h b) xs ys

-- a page's contents are sound, and are these shapes: its columns are columns of as many patterns as it has vertices, and every rule holds
pub record SoundPage (h : Head) (b : List ℕ) (shapes : List Shape) : Type 0 where
  pub xs : List ℕ
  pub ys : List ℕ
  pub parts : parts_hold (types_of h b) (counts_of h b) (lens_of h b) h.v ≡ true
  pub x_column : IsColumn 64 (x_part h b) xs
  pub x_patterns : Fits 64 xs
  pub x_count : length xs ≡ h.v
  pub y_column : IsColumn 64 (y_part h b) ys
  pub y_patterns : Fits 64 ys
  pub y_count : length ys ≡ h.v
  pub x_finite : all_finite xs ≡ true
  pub y_finite : all_finite ys ≡ true
  pub closed : all_of rings_closed (outlines_in h b xs ys) ≡ true
  pub on_grid : all_of on_grid_shape (outlines_in h b xs ys) ≡ true
  pub turned : all_of turns_hold (outlines_in h b xs ys) ≡ true
  pub boxed : box_holds (patterns h.stored) xs ys ≡ true
  pub shapes_are : shapes ≡ registered (registers_of h b) (outlines_in h b xs ys)

-- each page's contents are sound, and the shapes are those of all pages, in order
pub data SoundPages : List Page → List Shape → Type 0 where
  none : SoundPages [] []
  more : {p : Page} {ps : List Page} {here rest : List Shape} → SoundPage p.head p.body here → SoundPages ps rest → SoundPages (p ∷ ps) (here ++ rest)

-- the bytes s are a sound file with these shapes
pub record SoundFile (s : List ℕ) (f : Frame) (shapes : List Shape) : Type 0 where
  pub file : IsFile s f
  pub pages : SoundPages f.pages shapes
