-- `column::held::held` counts the values that the bytes hold in full. The invariant: so many are, and the others begin here. Assumes nothing.
use Prim.Native.Nat.{ℕ, ◌+◌}
use mathlib.Core.Path.{◌≡◌, sym, ap, ◌∙◌}
use native.Mathlib.Omega.{arith}
use Rattle.le.specs.Number.{number}
use Rattle.entry.specs.Entry.{size_at}
use Rattle.entry.proofs.Reading.{size-le}
use Rattle.column.proofs.Holding.{held_none, counted-one, counted-more, counted-stops, counted-all}
use Rattle.column.proofs.held.held.Goals as goal

pub returns-then-room-lt72 : goal.returns-then-room-lt72
returns-then-room-lt72 c =
    let a = c.args in
    (sym (held_none 64 a.s.now a.n c.if-room-lt72.true), omega arith)

pub loop-i-init : goal.loop-i-init
loop-i-init c = counted-one 64 c.args.s.now c.args.n c.requires.2 c.if-room-lt72.false

pub entry_at-next-requires : goal.entry_at-next-requires
entry_at-next-requires c =
    let l = c.loop-i in
    (c.requires.1, c.marker-m.ensures, omega (arith, l.invariant.within, c.requires.4, size-le 64 (number c.args.s.now) c.args.w l.at c.requires.1))

pub returns-then-room-next : goal.returns-then-room-next
returns-then-room-next c =
    let l = c.loop-i in
    let e = c.entry_at-next.ensures.1 ∙ ap (λ (w : ℕ). l.at + size_at 64 (number c.args.s.now) w l.at) c.requires.0 in
    (counted-stops 64 c.args.s.now c.args.n l.at l.i c.entry_at-next.result.next l.invariant c.loop-i-test.true e c.if-room-next.true, l.invariant.most)

pub loop-i-preserved : goal.loop-i-preserved
loop-i-preserved c =
    let l = c.loop-i in
    let e = c.entry_at-next.ensures.1 ∙ ap (λ (w : ℕ). l.at + size_at 64 (number c.args.s.now) w l.at) c.requires.0 in
    counted-more 64 c.args.s.now c.args.n l.at l.i c.entry_at-next.result.next l.invariant c.loop-i-test.true e c.if-room-next.false

pub returns : goal.returns
returns c =
    let e : c.args.n ≡ c.loop-i.i = omega (arith, c.loop-i.invariant.most) in
    (e ∙ counted-all _ _ _ _ _ c.loop-i.invariant c.loop-i-test.false, omega arith)
