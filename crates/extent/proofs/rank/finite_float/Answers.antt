-- `extent::rank::finite_float` makes the two tests of a float that lies between the least and the greatest finite one. Assumes nothing.
use Rattle.std.proofs.Common.{sym, ap, ◌∙◌, rules}
use lib.Ieee.{Float, le}
use Rattle.extent.proofs.Within.{least-finite, greatest-finite, within-test, outside-test}
use Rattle.extent.proofs.rank.finite_float.Goals as goal

pub float_of-least-requires : goal.float_of-least-requires
float_of-least-requires c = least-finite

pub float_of-greatest-requires : goal.float_of-greatest-requires
float_of-greatest-requires c = greatest-finite

pub returns-then-least-x : goal.returns-then-least-x
returns-then-least-x c =
    let x = c.args.x in
    let least = c.float_of-least.ensures.0 in
    let greatest = c.float_of-greatest.ensures.0 in
    ap (le x) greatest ∙ within-test x (search rules) (ap (λ (l : Float). le l x) (sym least) ∙ c.if-least-x.true)

pub returns-else-least-x : goal.returns-else-least-x
returns-else-least-x c =
    let x = c.args.x in
    c.if-least-x.false ∙ outside-test x (search rules) (ap (λ (l : Float). le l x) (sym c.float_of-least.ensures.0) ∙ c.if-least-x.false)
