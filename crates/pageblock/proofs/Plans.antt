-- Laws of the plan of a page: it is that of what was handed in, and it is small. Assumes nothing.
use Prim.Native.Nat.{ℕ, ◌+◌, ◌≤◌}
use mathlib.Core.Path.{◌≡◌, ap, ◌∙◌}
use native.Mathlib.Omega.{arith}
use lib.ListN.{length}
use Rattle.frame.specs.Layout.{layout_of}
use Rattle.pageblock.specs.declared.plan.Plan.{Plan}
use Rattle.pageblock.specs.Body.{Handed, body_of, page_bytes}
use Rattle.pageblock.specs.Ready.{Sized, Planned}
use Rattle.pageblock.proofs.Passing.{Passed, passed-sound}
use Rattle.pageblock.proofs.Sizes.{length-page, body-size, columns-few, column-most}

-- a plan by its parts
pub planned : (i : Handed) (ed : ℕ) (plan : Plan) → Passed i → plan.edition ≡ ed → plan.layout ≡ layout_of ed (length i.registers) (length i.lens)
    → Sized i.xs plan.x → Sized i.ys plan.y → plan.len ≡ plan.layout.columns + plan.x.bytes + plan.y.bytes → Planned i plan
planned i ed plan q e l x y n =
    let k : plan.layout ≡ layout_of plan.edition (length i.registers) (length i.lens) = rw e l in
    record {
      even = q.even;
      vertices = passed-sound i q;
      layout = k;
      x = x;
      y = y;
      whole = n ∙ body-size plan.edition i plan.layout k q.even plan.x.bytes plan.y.bytes x.size y.size;
    }

-- its length is the body's, and so the block's is known
pub plan-size : (i : Handed) (ed : ℕ) (plan : Plan) → Planned i plan → plan.edition ≡ ed → 6 + plan.len ≡ length (page_bytes ed i)
plan-size i ed plan n e = omega (arith, length-page ed i, n.whole ∙ ap (λ (x : ℕ). length (body_of x i)) e)

-- and that is small
pub plan-few : (i : Handed) (plan : Plan) → Planned i plan → plan.len ≤ 39728
plan-few i plan n =
    let s = n.vertices in
    omega (
      arith,
      n.whole,
      body-size plan.edition i plan.layout n.layout n.even plan.x.bytes plan.y.bytes n.x.size n.y.size,
      columns-few plan.edition i plan.layout n.layout n.even,
      column-most i.xs s.few,
      column-most i.ys (omega (arith, s.same, s.few)),
      n.x.size,
      n.y.size,
    )
