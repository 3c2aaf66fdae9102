-- `column::held::misfit` gives the refusal of too few bytes, and of too many, each at its value. Assumes nothing.
use mathlib.Core.Path.{refl}
use native.Mathlib.Omega.{arith}
use Rattle.column.specs.Read.{end_of}
use Rattle.column.proofs.Decoding.{ended-few, ended-over}
use Rattle.column.proofs.held.misfit.Goals as goal

pub returns-then-took-s : goal.returns-then-took-s
returns-then-took-s c =
    let a = c.args in
    rw c.at_value.ensures
    (ended-over 64 a.s.now a.n (λ z. omega (arith, c.requires.w_value.2)) (λ z. omega (arith, c.requires.s_nonzero.0)) (omega (arith, c.requires.w_value.0, c.requires.w_value.1)) (end_of 64 a.s.now a.n) refl
    (omega (arith, c.requires.s_nonzero.1, c.if-took-s.true)))

pub returns : goal.returns
returns c =
    let a = c.args in
    rw (c.at_value-2.ensures, c.held.ensures.0)
    (ended-few 64 a.s.now a.n (λ z. omega (arith, c.requires.w_value.2)) (λ z. omega (arith, c.requires.s_nonzero.0)) (omega (arith, c.requires.w_value.0, c.requires.w_value.1)) (end_of 64 a.s.now a.n) refl
    (omega (arith, c.requires.s_nonzero.1, c.if-took-s.false, c.requires.s_nonzero.3)))
