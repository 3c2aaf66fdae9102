-- The fetching of one shape through words: "frame, 17, contents of its page, 2", and register, type, number of parts and number of vertices are four
-- words. Assumes nothing.
use Rattle.std.specs.Prelude.{ℕ, ◌≡◌, Bool, ◌&&◌, List, [], ◌∷◌, leb, length}
use Rattle.answer.specs.Table as table
use Rattle.answer.specs.Refusal.{because}
use Rattle.answer.specs.Outcome.{Out, ok, need, on, filled}
use Rattle.shape.specs.Outline.{Shape}
use Rattle.fetch.specs.Fetch.{shape_in, Rooms, roomy, list_of}
use Rattle.answer.specs.Lent.{LentMut, came_mut, left}
use Rattle.viewer.specs.Word.{Told}

-- room for four words about the shape, and for its lists
unfoldable pub room_for_shape : ℕ → Rooms → Shape → Bool
room_for_shape about r sh = leb 4 about && roomy r sh.outline

-- the shape at a place of a file, with so much room: 2 comes last
unfoldable pub fetch_call : List ℕ → ℕ → ℕ → Rooms → Out Shape
fetch_call file place about r = on (shape_in file place) (λ sh. need (room_for_shape about r sh) (because table.room) (ok sh))

-- it says how many vertices the shape has
unfoldable pub vertices : Shape → ℕ
vertices sh = length sh.outline.xs

-- the words about a shape: register, type, number of parts, number of vertices
unfoldable pub about_words : Shape → List ℕ
about_words sh = sh.register ∷ sh.outline.kind ∷ length sh.outline.lens ∷ vertices sh ∷ []

-- the contract: the word and the four rooms as the call leaves them are those of the outcome o
pub record Shown (o : Out Shape) (about lens xs ys : List ℕ) (says : ℕ) (about-left lens-left xs-left ys-left : List ℕ) : Type 0 where
  pub told : Told o vertices about_words about says about-left
  pub lens_room : lens-left ≡ filled (list_of (λ x. x.lens) o) lens
  pub xs_room : xs-left ≡ filled (list_of (λ x. x.xs) o) xs
  pub ys_room : ys-left ≡ filled (list_of (λ x. x.ys) o) ys

-- the same, of rooms that are lent
abbrev pub ShownIn : Out Shape → LentMut → LentMut → LentMut → LentMut → ℕ → Type 0
ShownIn o about lens xs ys says = Shown o (came_mut about) (came_mut lens) (came_mut xs) (came_mut ys) says (left about) (left lens) (left xs) (left ys)
