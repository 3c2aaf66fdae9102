-- `extent::boxes::good_form` tests that the floats are finite, and then that the box is not reversed. Assumes nothing.
use Rattle.std.proofs.Common.{sym, ◌∙◌}
use Rattle.extent.proofs.Finite.{finite-box}
use Rattle.extent.proofs.boxes.good_form.Goals as goal

pub in_order-requires : goal.in_order-requires
in_order-requires c = finite-box _ (sym c.floats_finite.ensures ∙ c.if-floats_finite.true)
