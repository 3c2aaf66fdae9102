-- A shape's row in the tables of its page: its register and its type, where the page's layout says. The page's contents are not judged. Assumes
-- nothing.
use Rattle.std.specs.Prelude.{ℕ, List, get_or}
use Rattle.frame.specs.declared.head.Head.{Head}
use Rattle.page.specs.Contents.{registers_of, types_of}
use Rattle.place.specs.declared.row.Row.{Row}

-- the row of the shape at index i of a page
unfoldable pub row_of : Head → List ℕ → ℕ → Row
row_of h b i = record { register = get_or (registers_of h b) i 0; kind = get_or (types_of h b) i 0 }
