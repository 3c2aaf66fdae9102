-- `viewer::column_step::boundary_column_step` tells each answer of the reader, and puts the position of a value. Assumes nothing.
use Rattle.viewer.proofs.Stepping.{step-short, step-refused, step_end, step_value}
use Rattle.viewer.proofs.column_step.boundary_column_step.Goals as goal

pub returns-then-position-lt4 : goal.returns-then-position-lt4
returns-then-position-lt4 c = step-short _ _ _ _ c.if-position-lt4.true c.number_word.ensures

pub returns-in-Refused : goal.returns-in-Refused
returns-in-Refused c =
    let if1 = c.if-position-lt4 in
    let position-of = c.position_of-p in
    let answer_at = c.answer_at in
    step-refused _ _ _ if1.false _ position-of.ensures _ answer_at.ensures _ _ _ c.in-Refused.is c.refusal_word.ensures

pub returns-in-End : goal.returns-in-End
returns-in-End c = step_end _ _ _ c.if-position-lt4.false _ c.position_of-p.ensures _ c.answer_at.ensures _ c.in-End.is

pub returns-in-Value : goal.returns-in-Value
returns-in-Value c =
    let if1 = c.if-position-lt4 in
    let position-of = c.position_of-p in
    let answer_at = c.answer_at in
    step_value _ _ _ if1.false _ position-of.ensures _ answer_at.ensures _ _ _ c.in-Value.is c.put_position.ensures
