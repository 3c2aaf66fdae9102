-- `window` gives the 64 bits from a bit place on: one word, and the ninth byte where the place is inside a byte. Assumes nothing.
use mathlib.Core.Path.{◌≡◌, ap, ◌∙◌}
use Prim.Native.Nat.{ℕ, ◌*◌, ◌/◌, ◌%◌, ◌^◌}
use native.Mathlib.Omega.{arith}
use Rattle.le.proofs.Fields.{window-law}
use Rattle.le.specs.Number.{number}
use Rattle.le.proofs.bits.window.Goals as goal

pub returns-then-k-eq0 : goal.returns-then-k-eq0
returns-then-k-eq0 c =
    let e : 8 * (c.args.at / 8) ≡ c.args.at = omega arith in
    c.load-lo.ensures ∙ ap (λ (k : ℕ). number c.args.s.now / 2 ^ k % 2 ^ 64) e

pub returns : goal.returns
returns c = window-law (number c.args.s.now) c.args.at c.byte-hi.result c.load-lo.result c.byte-hi.ensures c.load-lo.ensures
