-- What a writer makes of calls after an open call, and the shapes that it was handed. Assumes nothing.
use Rattle.std.specs.Prelude.{List, [], ◌∷◌, ◌++◌}
use Rattle.shape.specs.Outline.{Shape, registered}
use Rattle.pageblock.specs.Body.{Handed}
use Rattle.pageblock.specs.Page.{outlines}
use Rattle.writer.specs.Run.{Call, HalfWritten, after_open, after_calls, taken_of}

-- what an open call and then these calls leave, whatever was lent first
abbrev pub ended : HalfWritten → List Call → HalfWritten
ended h cs = after_calls (after_open h) cs

-- the pages that they took
abbrev pub taken : HalfWritten → List Call → List Handed
taken h cs = taken_of (after_open h) cs

-- register, type, part lengths and patterns of each shape, page by page, in order
unfoldable pub handed_shapes : List Handed → List Shape
handed_shapes [] = []
handed_shapes (i ∷ is) = registered i.registers (outlines i) ++ handed_shapes is
