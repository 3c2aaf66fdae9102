-- `list::print::say_rows` hands on stretch after stretch of the rows and then the last line, each what comes next. Nothing is assumed.
use Prim.Native.Nat.{ℕ, ◌+◌, ◌*◌, ◌≤◌, min}
use mathlib.Core.Path.{◌≡◌, refl, sym, ◌∙◌, subst}
use mathlib.Core.List.{List}
use native.Mathlib.Omega.{arith}
use lib.ListN.{length}
use borrow.Rule.Slice.PartMut.{mid_len}
use Rattle.text.proofs.Stretches.{Written, written_last, written-whole, front}
use Rattle.list.specs.Printed.{printed_of}
use Rattle.list.proofs.Lines.{left_from, listed-none, listed_next, listed_more, listed-over}
use Rattle.list.proofs.print.say_rows.Goals as goal

-- what is left from row i on is what is left from row j on, where they are one
from : (input P R T : List ℕ) (shapes k i j : ℕ) → i ≡ j → Written (printed_of input) k (left_from P R T shapes i) → Written (printed_of input) k (left_from P R T shapes j)
from input P R T shapes k i j e w = subst (λ (m : ℕ). Written (printed_of input) k (left_from P R T shapes m)) e w

pub loop-stretch-init : goal.loop-stretch-init
loop-stretch-init g c =
    let a = c.args in
    let none : 0 ≡ min (0 * 512) (length a.places.now) = omega arith in
    (refl, from _ _ _ _ _ _ _ _ none (listed-none a.input.now a.places.now a.registers.now a.types.now a.shapes _ c.requires.k_value c.requires.input_value))

pub put_rows-n-requires : goal.put_rows-n-requires
put_rows-n-requires g c =
    let a = c.args in
    let i = c.loop-stretch.stretch * 512 in
    let e = c.min-e in
    let places = mid_len i e.result a.places.now (omega (arith, e.ensures)) in
    let registers = mid_len i e.result a.registers.now (omega (arith, e.ensures, c.requires.registers_len)) in
    let types = mid_len i e.result a.types.now (omega (arith, e.ensures, c.requires.types_len)) in
    record { registers_len = registers ∙ sym places; types_len = types ∙ sym places; places_in_bounds = omega (arith, places, e.ensures, c.loop-stretch.invariant.0) }

pub write-taken-requires : goal.write-taken-requires
write-taken-requires g c =
    let a = c.args in
    let l = c.loop-stretch in
    let e = c.min-e in
    let put = c.put_rows-n.ensures in
    let here : min (l.stretch * 512) (length a.places.now) ≡ l.stretch * 512 = omega (arith, l.auto.stretch-end, c.loop-stretch-test.true, c.div_ceil-stretch-end.ensures) in
    listed_next a.input.now a.places.now a.registers.now a.types.now a.shapes _ (l.stretch * 512) (from _ _ _ _ _ _ _ _ here l.invariant.1) e.result (omega (arith, here, e.ensures)) _ (front put.puts put.prefix_len.0)

pub loop-stretch-preserved : goal.loop-stretch-preserved
loop-stretch-preserved g c =
    let a = c.args in
    let l = c.loop-stretch in
    let e = c.min-e in
    let put = c.put_rows-n in
    let here : min (l.stretch * 512) (length a.places.now) ≡ l.stretch * 512 = omega (arith, l.auto.stretch-end, c.loop-stretch-test.true, c.div_ceil-stretch-end.ensures) in
    let more = listed_more a.input.now a.places.now a.registers.now a.types.now a.shapes _ (l.stretch * 512) (from _ _ _ _ _ _ _ _ here l.invariant.1) e.result (omega (arith, here, e.ensures)) _ (front put.ensures.puts put.ensures.prefix_len.0) in
    let rest = left_from a.places.now a.registers.now a.types.now a.shapes e.result in
    let next : e.result ≡ min ((l.stretch + 1) * 512) (length a.places.now) = omega (arith, e.ensures) in
    (put.auto.out ∙ l.invariant.0, from _ _ _ _ _ _ _ _ next (subst (λ (k : ℕ). Written (printed_of a.input.now) k rest) (sym c.write-taken.ensures.moved) more))

pub write-requires : goal.write-requires
write-requires g c =
    let a = c.args in
    let l = c.loop-stretch in
    let put = c.put_hits-n.ensures in
    let over : length a.places.now ≤ min (l.stretch * 512) (length a.places.now) = omega (arith, c.loop-stretch-test.false, c.div_ceil-stretch-end.ensures) in
    written_last _ _ _ (listed-over a.input.now a.places.now a.registers.now a.types.now a.shapes _ _ l.invariant.1 over) _ (front put.puts put.prefix_len.0)

pub returns : goal.returns
returns g c =
    let a = c.args in
    let l = c.loop-stretch in
    let put = c.put_hits-n.ensures in
    let over : length a.places.now ≤ min (l.stretch * 512) (length a.places.now) = omega (arith, c.loop-stretch-test.false, c.div_ceil-stretch-end.ensures) in
    written-whole _ _ _ (listed-over a.input.now a.places.now a.registers.now a.types.now a.shapes _ _ l.invariant.1 over) _ (front put.puts put.prefix_len.0) _ c.write.ensures.moved
