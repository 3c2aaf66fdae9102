-- `column::read::decode` gives the outcome of decoding, one law for each return. Assumes nothing.
use mathlib.Core.Path.{sym, ◌∙◌}
use native.Mathlib.Omega.{arith}
use Rattle.column.proofs.Decoding.{decodes-none, decodes-none-bits, decodes-empty, decodes-wide, decodes-refused, decodes-fill, decodes-good}
use Rattle.column.proofs.read.decode.Goals as goal

pub returns-then-len-eq0 : goal.returns-then-len-eq0
returns-then-len-eq0 c =
    let a = c.args in
    decodes-none 64 a.s.now a.n a.out.now c.if-n-eq0.true c.if-len-eq0.true (λ i. (c.shared_slice_known-1.given i).fits)

pub returns-then-n-eq0 : goal.returns-then-n-eq0
returns-then-n-eq0 c =
    let a = c.args in
    rw c.refused.ensures (decodes-none-bits 64 a.s.now a.n a.out.now c.if-n-eq0.true c.if-len-eq0.false)

pub returns-then-len-eq0-2 : goal.returns-then-len-eq0-2
returns-then-len-eq0-2 c =
    let a = c.args in
    rw c.refused-then-len-eq0-2.ensures (decodes-empty 64 a.s.now a.n a.out.now c.if-n-eq0.false c.if-len-eq0-2.true)

pub returns-then-w-gt64 : goal.returns-then-w-gt64
returns-then-w-gt64 c =
    let if1 = c.if-n-eq0 in
    let if3 = c.if-len-eq0-2 in
    let a = c.args in
    rw c.refused-then-w-gt64.ensures (decodes-wide 64 a.s.now a.n a.out.now if1.false if3.false (omega (arith, c.wide-w.ensures, c.if-w-gt64.true)))

pub returns-then-took-len : goal.returns-then-took-len
returns-then-took-len c =
    let if1 = c.if-n-eq0 in
    let if3 = c.if-len-eq0-2 in
    let wide = c.wide-w in
    let if4 = c.if-w-gt64 in
    let fill = c.fill-e in
    let a = c.args in
    decodes-refused 64 a.s.now a.n a.out.now if1.false if3.false (omega (arith, wide.ensures, if4.false)) fill.result fill.new.out fill.ensures.end fill.ensures.room c.misfit.result c.misfit.ensures

pub returns-then-window_in_last_byte-ne0 : goal.returns-then-window_in_last_byte-ne0
returns-then-window_in_last_byte-ne0 c =
    let shared-slice-known = c.shared_slice_known-1 in
    let if1 = c.if-n-eq0 in
    let if3 = c.if-len-eq0-2 in
    let wide = c.wide-w in
    let if4 = c.if-w-gt64 in
    let fill = c.fill-e in
    let a = c.args in
    rw c.refused_at.ensures (decodes-fill 64 a.s.now a.n a.out.now if1.false if3.false (omega (arith, wide.ensures, if4.false)) fill.result fill.new.out fill.ensures.end fill.ensures.room (λ i. (shared-slice-known.given i).fits) c.if-took-len.false (λ z. c.if-window_in_last_byte-ne0.true (c.window_in_last_byte.ensures ∙ z)))

pub returns : goal.returns
returns c =
    let shared-slice-known = c.shared_slice_known-1 in
    let if1 = c.if-n-eq0 in
    let if3 = c.if-len-eq0-2 in
    let wide = c.wide-w in
    let if4 = c.if-w-gt64 in
    let fill = c.fill-e in
    let a = c.args in
    decodes-good 64 a.s.now a.n a.out.now if1.false if3.false (omega (arith, wide.ensures, if4.false)) fill.result fill.new.out fill.ensures.end fill.ensures.room (λ i. (shared-slice-known.given i).fits) c.if-took-len.false (sym c.window_in_last_byte.ensures ∙ c.if-window_in_last_byte-ne0.false)
