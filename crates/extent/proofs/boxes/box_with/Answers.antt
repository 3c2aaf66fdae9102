-- `extent::boxes::box_with` makes four floats of four finite patterns, which are their patterns. Assumes nothing.
use Rattle.extent.proofs.boxes.box_with.Goals as goal

pub returns : goal.returns
returns c =
    let x = c.float_of.ensures in
    let y = c.float_of-2.ensures in
    let x' = c.float_of-3.ensures in
    let y' = c.float_of-4.ensures in (
      λ i. record { least_x = x.0 i; least_y = y.0 i; greatest_x = x'.0 i; greatest_y = y'.0 i },
      λ i. record { least_x = x.1 i; least_y = y.1 i; greatest_x = x'.1 i; greatest_y = y'.1 i },
    )
