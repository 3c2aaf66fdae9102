-- `column::read::read_pair` gives the outcome of decoding one or two values: each refusal before the room is touched. Assumes nothing.
use mathlib.Core.Path.{◌≡◌, sym, ap, ◌∙◌}
use mathlib.Core.List.{List, ◌++◌}
use Prim.Native.Nat.{ℕ}
use native.Mathlib.Omega.{arith}
use lib.ListN.{drop}
use Rattle.answer.specs.Outcome.{ok}
use Rattle.answer.proofs.Outcomes.{fills-refused, fills-ok}
use Rattle.column.specs.Read.{said_by, decode_of}
use Rattle.column.proofs.Decoding.{decode-empty, decode-wide, ended-fill, ended-good, length-said}
use Rattle.column.proofs.Pairs.{put_one, put_two}
use Rattle.column.proofs.read.read_pair.Goals.{After-window_in_last_byte}
use Rattle.column.proofs.read.read_pair.Goals as goal

pub returns-then-len-eq0 : goal.returns-then-len-eq0
returns-then-len-eq0 c =
    let a = c.args in
    rw c.refused.ensures (fills-refused _ (decode-empty 64 a.s.now a.n (λ z. omega (arith, c.requires.0)) c.if-len-eq0.true))

pub returns-then-w-gt64 : goal.returns-then-w-gt64
returns-then-w-gt64 c =
    let pre = c.requires in
    let if1 = c.if-len-eq0 in
    let a = c.args in
    rw c.refused-then-w-gt64.ensures (fills-refused _ (decode-wide 64 a.s.now a.n (λ z. omega (arith, pre.0)) if1.false (omega (arith, c.wide-w.ensures, c.if-w-gt64.true))))

pub returns-then-took-len : goal.returns-then-took-len
returns-then-took-len c = fills-refused c.misfit.result c.misfit.ensures

pub returns-then-window_in_last_byte-ne0 : goal.returns-then-window_in_last_byte-ne0
returns-then-window_in_last_byte-ne0 c =
    let pre = c.requires in
    let shared-slice-known = c.shared_slice_known-1 in
    let if1 = c.if-len-eq0 in
    let wide = c.wide-w in
    let if2 = c.if-w-gt64 in
    let second = c.second-e in
    let a = c.args in
    rw c.refused_at.ensures (fills-refused _
    (ended-fill 64 a.s.now a.n (λ z. omega (arith, pre.0)) if1.false (omega (arith, wide.ensures, if2.false)) second.result.next second.ensures.0
    (λ i. (shared-slice-known.given i).fits) c.if-took-len.false (λ z. c.if-window_in_last_byte-ne0.true (c.window_in_last_byte.ensures ∙ z))))

-- where both rules of the end let pass
decoded : (c : After-window_in_last_byte) → c.window_in_last_byte.result ≡ 0 → decode_of 64 c.args.s.now c.args.n ≡ ok (said_by 64 c.args.s.now c.args.n)
decoded c z =
    let a = c.args in
    let e = c.second-e in
    ended-good 64 a.s.now a.n (λ z. omega (arith, c.requires.0)) c.if-len-eq0.false (omega (arith, c.wide-w.ensures, c.if-w-gt64.false)) e.result.next e.ensures.0
    (λ i. (c.shared_slice_known-1.given i).fits) c.if-took-len.false (sym c.window_in_last_byte.ensures ∙ z)

pub returns-then-n-eq1 : goal.returns-then-n-eq1
returns-then-n-eq1 c =
    let pre = c.requires in
    let a = c.args in
    let e = c.second-e in
    let one : a.n ≡ 1 = c.if-n-eq1.true in
    fills-ok (said_by 64 a.s.now a.n) 1 _
    (decoded (goal.at.returns-then-n-eq1 c).After-window_in_last_byte c.if-window_in_last_byte-ne0.false)
    (sym (length-said 64 a.s.now a.n pre.0 ∙ one))
    (put_one a.out.now a.n c.window-a.result e.result.value one pre.2 ∙ ap (λ (x : List ℕ). x ++ drop 1 a.out.now) (sym e.ensures.1))

pub returns : goal.returns
returns c =
    let pre = c.requires in
    let a = c.args in
    let e = c.second-e in
    let two : a.n ≡ 2 = omega (arith, pre.0, pre.1, c.if-n-eq1.false) in
    fills-ok (said_by 64 a.s.now a.n) 2 _
    (decoded (goal.at.returns c).After-window_in_last_byte c.if-window_in_last_byte-ne0.false)
    (sym (length-said 64 a.s.now a.n pre.0 ∙ two))
    (put_two a.out.now a.n c.window-a.result e.result.value two pre.2 ∙ ap (λ (x : List ℕ). x ++ drop 2 a.out.now) (sym e.ensures.1))
