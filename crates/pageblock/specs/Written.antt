-- What is read of a page that was written. Assumes nothing.
use Rattle.std.specs.Prelude.{ℕ, length}
use Rattle.extent.specs.Boxes.{box_of}
use Rattle.extent.specs.Forms.{floats_of}
use Rattle.column.specs.Column.{encode}
use Rattle.frame.specs.declared.head.Head.{Head}
use Rattle.frame.specs.Layout.{layout_of}
use Rattle.frame.specs.Frame.{Page}
use Rattle.pageblock.specs.Body.{Handed, body_of}

-- the head that its body says
unfoldable pub head_for : ℕ → Handed → Head
head_for edition i = record {
  g = length i.registers;
  v = length i.xs;
  p = length i.lens;
  stored = floats_of (box_of i.xs i.ys);
  cx = length (encode 64 i.xs);
  cy = length (encode 64 i.ys);
  layout = layout_of edition (length i.registers) (length i.lens);
}

-- the page of a file that it is
unfoldable pub page_for : ℕ → Handed → Page
page_for edition i = record { head = head_for edition i; body = body_of edition i }
