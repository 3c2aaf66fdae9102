-- What is determined: of two runs of a call on the same input, each of which meets its contract, words and lent memory are the same. The contracts
-- have four shapes, an equation for the word (check, count), with one for a room (`Told`), with one for a buffer (`Kept`), and with one for each of four
-- rooms (`Shown`). Assumes nothing.
use Prim.Native.Nat.{ℕ}
use mathlib.Core.Path.{◌≡◌, sym, ◌∙◌}
use mathlib.Core.List.{List}
use Rattle.answer.specs.Outcome.{Out}
use Rattle.writer.specs.State.{Added}
use Rattle.shape.specs.Outline.{Shape}
use Rattle.viewer.specs.Word.{word_of, Told}
use Rattle.viewer.specs.Calls.{Kept}
use Rattle.viewer.specs.Fetch.{Shown}

-- the full check, the count-only search
pub word-determined : (o : Out ℕ) {x x' : ℕ} → x ≡ word_of o → x' ≡ word_of o → x ≡ x'
word-determined o p q = p ∙ sym q

-- the search, the column written, read, and read one value a call
pub told-determined : {A : Type 0} {o : Out A} {number : A → ℕ} {start : A → List ℕ} {d : List ℕ} {x x' : ℕ} {e e' : List ℕ}
    → Told o number start d x e → Told o number start d x' e' → (x ≡ x') × (e ≡ e')
told-determined p q = (p.word ∙ sym q.word, p.room ∙ sym q.room)

-- the writer's three calls
pub kept-determined : {o : Out Added} {ws d : List ℕ} {x x' : ℕ} {n n' e e' : List ℕ} → Kept o ws d x n e → Kept o ws d x' n' e' → (x ≡ x') × (n ≡ n') × (e ≡ e')
kept-determined p q = let t = told-determined p.told q.told in (t.0, t.1, p.buffer ∙ sym q.buffer)

-- the fetch
pub shown-determined : {o : Out Shape} {da dl dx dy : List ℕ} {x x' : ℕ} {ea el ex ey ea' el' ex' ey' : List ℕ}
    → Shown o da dl dx dy x ea el ex ey → Shown o da dl dx dy x' ea' el' ex' ey' → (x ≡ x') × (ea ≡ ea') × (el ≡ el') × (ex ≡ ex') × (ey ≡ ey')
shown-determined p q =
    let t = told-determined p.told q.told in
    (t.0, t.1, p.lens_room ∙ sym q.lens_room, p.xs_room ∙ sym q.xs_room, p.ys_room ∙ sym q.ys_room)
