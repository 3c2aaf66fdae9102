-- What reading says of the room that it was lent, and of the reader. Assumes nothing.
use Rattle.std.specs.Prelude.{ℕ, ◌<◌, List, length, take}
use Rattle.std.specs.declared.option.Option.{Option}
use Rattle.std.specs.Io.KnownBytes.{Consumes, IsAtEnd}
use Rattle.io.specs.Counts.{IsPrefixLen}
use Rattle.std.specs.declared.result.Result.{Result}
use Rattle.std.specs.declared.result.Result.TheVariants.{Ok, Err}
use Rattle.std.specs.declared.io.Error.{Error}

-- so many bytes lie within the room
unfoldable pub Within : Result ℕ Error → List ℕ → Type 0
Within (Ok n) room = IsPrefixLen n room
Within (Err e) room = Unit {0}

-- where the reader says which bytes it has: those that came stand at the start of the room, in their order; and where the room is not full, there are no more
unfoldable pub Came : Option (List ℕ) → Option (List ℕ) → Result ℕ Error → List ℕ → Type 0
Came before after (Ok n) room = Consumes before after (take n room) × (n < length room → IsAtEnd after)
Came before after (Err e) room = (n : ℕ) × Consumes before after (take n room)
