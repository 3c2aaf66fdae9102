-- `extent::span::span_of` carries three choices through a list in one walk, and makes its least and its greatest of them. The invariant: what the three are
-- so far, and the values to come, make them. Assumes nothing.
use Rattle.std.proofs.Common.{◌+◌, refl, ap, ◌∙◌}
use Rattle.answer.proofs.Rests.{rest_at, rest_end}
use Rattle.extent.specs.Span.{lower, higher, higher_flipped, by_sign}
use Rattle.extent.proofs.Carrying.{carries-more, carries-done}
use Rattle.extent.proofs.Spanned.{span-made}
use Rattle.extent.proofs.span.span_of.Goals as goal

pub loop-v-init : goal.loop-v-init
loop-v-init c = (refl, refl, refl)

pub loop-v-preserved : goal.loop-v-preserved
loop-v-preserved c =
    let vs = c.args.vs.now in
    let l = c.loop-v in
    let i = l.v-index + 1 in
    let r = rest_at vs l.v-index c.loop-v-test.true in (
      carries-more lower vs i l.low _ r.0 (c.lower-low.ensures ∙ ap (lower l.low) r.1) l.invariant.0,
      carries-more higher vs i l.high _ r.0 (c.higher-high.ensures ∙ ap (higher l.high) r.1) l.invariant.1,
      carries-more higher_flipped vs i l.up _ r.0 (c.higher_flipped-up.ensures ∙ ap (higher_flipped l.up) r.1) l.invariant.2,
    )

pub returns : goal.returns
returns c =
    let vs = c.args.vs.now in
    let l = c.loop-v in
    let i = l.v-index + 1 in
    let h = rest_end vs l.v-index c.loop-v-test.false in
    let low = carries-done lower vs i l.low h l.invariant.0 in
    let high = carries-done higher vs i l.high h l.invariant.1 in
    let up = carries-done higher_flipped vs i l.up h l.invariant.2 in
    span-made vs _ c.requires (λ i. (c.type_inv.vs i).fits)
    (λ i. record {
      least = (c.by_sign.ensures ∙ (λ j. by_sign (high j) (low j) (high j))) i;
      greatest = (c.by_sign-2.ensures ∙ (λ j. by_sign (low j) (up j) (low j))) i;
    })
