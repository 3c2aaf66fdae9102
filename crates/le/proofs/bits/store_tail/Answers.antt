-- `store_tail` stores the bytes of x from i to the end. The invariant: the bytes up to the index are stored, and `y` holds those that are left.
-- Assumes nothing.
use Rattle.std.proofs.Common.{◌≡◌, ℕ, suc, ◌+◌, ◌-◌, ◌*◌, ◌/◌, ◌%◌, ◌^◌, List, length, drop, take, set, arith, rules, refl, sym, ap, ◌∙◌, length-take, length-drop}
use native.Mathlib.Nat.{div-one, zero-add}
use Rattle.std.proofs.lemmas.Grind.{common_steps}
use Rattle.std.proofs.lemmas.List.Edits.{sets-eq}
use borrow.Rule.Slice.PartMut.{put_mid}
use Rattle.le.proofs.Bytes.{length-bytes_of}
use lib.Pow.{shr-shr}
use lib.Seq.{sets}
use Rattle.le.specs.Number.{bytes_of}
use Rattle.le.proofs.Stores.{store-more, sets-past}
use Rattle.le.proofs.bits.store_tail.Goals as goal

pub loop-b-init : goal.loop-b-init
unfolding bytes_of
loop-b-init c = record { stored = refl; left = sym (div-one c.args.x) }

pub loop-b-preserved : goal.loop-b-preserved
loop-b-preserved c =
    let l = c.loop-b in
    let x = c.args.x in
    let k = l.b-index in
    let part = take (length c.args.s.now - c.args.i) (drop c.args.i c.args.s.now) in
    let e : 8 * k + 8 ≡ 8 * (k + 1) = omega arith in
    let f : suc k ≡ k + 1 = omega arith in record {
      stored = ap (λ (j : ℕ). set l.b-items j c.low.result) (sym (zero-add k))
          ∙ store-more k part l.b-items 0 x c.low.result (c.low.ensures ∙ ap (λ (y : ℕ). y % 256) l.invariant.left) l.invariant.stored
          ∙ ap (λ (j : ℕ). sets part 0 (bytes_of j x)) f;
      left = ap (λ (y : ℕ). y / 2 ^ 8) l.invariant.left ∙ shr-shr x (8 * k) 8 ∙ ap (λ (j : ℕ). x / 2 ^ j) e;
    }

-- bytes over all of a list are those bytes
sets_all : (vs l : List ℕ) → length vs ≡ length l → sets l 0 vs ≡ vs
sets_all vs l e = sets-eq vs l 0 (omega arith) ∙ search (rules, common_steps)

-- and over the end of one they are stored from there on
sets_end : (vs l : List ℕ) (i k : ℕ) → i + k ≡ length l → length vs ≡ k → put_mid i k l vs ≡ sets l i vs
sets_end vs l i k e f = rw (sets-eq vs l i (omega arith)) (search (rules, common_steps))

pub returns : goal.returns
returns c =
    let s = c.args.s.now in
    let i = c.args.i in
    let x = c.args.x in
    let n = c.loop-b.b-index in
    let k = length s - i in
    let there : length (take k (drop i s)) ≡ k = omega (arith, length-take {A = ℕ}, length-drop {A = ℕ}) in
    let e : n ≡ k = omega arith in
    let f : n + (8 - n) ≡ 8 = omega arith in
    let all : c.loop-b.b-items ≡ bytes_of n x = c.loop-b.invariant.stored ∙ sets_all (bytes_of n x) (take k (drop i s)) (omega (arith, length-bytes_of n x)) in
    ap (put_mid i k s) all
    ∙ sets_end (bytes_of n x) s i k (omega arith) (omega (arith, length-bytes_of n x))
    ∙ sym (sets-past (8 - n) n s i x (omega arith))
    ∙ ap (λ (j : ℕ). sets s i (bytes_of j x)) f
