-- `list::rows::put_rows` puts row after row, each where the one before it ends. Nothing is assumed.
use native.Mathlib.Omega.{arith}
use Rattle.text.proofs.Pieces.{keeps}
use Rattle.io.proofs.Counting.{prefix_len_of_le}
use Rattle.list.proofs.Rowing.{rowing-none, rowing_more, rowing-done}
use Rattle.list.proofs.rows.put_rows.Goals as goal

pub loop-i-init : goal.loop-i-init
loop-i-init c = let a = c.args in rowing-none a.out.now a.places.now a.registers.now a.types.now

pub put_row-at-requires : goal.put_row-at-requires
put_row-at-requires c = let l = c.loop-i in omega (arith, l.invariant.few, keeps l.invariant.puts, c.requires.places_in_bounds, c.loop-i-test.true)

pub loop-i-preserved : goal.loop-i-preserved
loop-i-preserved c =
    let a = c.args in
    let l = c.loop-i in
    let h = c.loop-i-test.true in
    let put = c.put_row-at.ensures in
    rowing_more a.out.now a.places.now a.registers.now a.types.now l.out l.at l.i l.invariant h (omega (arith, h, c.requires.registers_len)) (omega (arith, h, c.requires.types_len)) put.puts put.upper_bound

pub shape_of-out : goal.shape_of-out
shape_of-out c = keeps c.loop-i.invariant.puts

pub returns : goal.returns
returns c =
    let a = c.args in
    let l = c.loop-i in
    record {
      puts = rowing-done a.out.now a.places.now a.registers.now a.types.now l.out l.at l.i l.invariant c.loop-i-test.false;
      prefix_len = prefix_len_of_le l.at l.out (omega (arith, l.invariant.few, l.invariant.some, keeps l.invariant.puts, c.requires.places_in_bounds));
    }
