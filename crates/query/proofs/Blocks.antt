-- Laws of the query block, one for each way through the definitions. Assumes nothing.
use mathlib.Core.Path.{◌≡◌, refl, sym, ap, ap₂, ◌∙◌}
use mathlib.Core.Bool.{Bool, true, false, ◌&&◌, ◌||◌}
use mathlib.Core.Logic.{◌⊎◌, inl, inr}
use mathlib.Core.List.{List}
use Prim.Native.Nat.{ℕ, ◌+◌, ◌≤◌}
use native.Mathlib.Omega.{arith}
use borrow.Author.Tests.{eqb-true, eq-eqb, ne_eqb}
use lib.ListN.{length}
use lib.Dec.{eqb}
use lib.Ieee.{Float, binary64, of_bits}
use Rattle.answer.specs.declared.Refusal.{Refusal}
use Rattle.answer.specs.Table.{query}
use Rattle.answer.specs.Refusal.{because}
use Rattle.answer.specs.Outcome.{Out, refused, ok, on, need}
use Rattle.answer.proofs.Determined.{answer-one}
use Rattle.answer.proofs.Outcomes.{met, unmet}
use Rattle.answer.proofs.Both.{and-false}
use Rattle.block.specs.declared.Block.{Block}
use Rattle.le.specs.Number.{number_at}
use Rattle.block.specs.Block.{block_at}
use Rattle.extent.specs.declared.boxes.Box.{Box}
use Rattle.std.specs.declared.option.Option.TheVariants.{Some, None}
use Rattle.extent.specs.Rank.{finite}
use Rattle.extent.specs.declared.bounds.Bounds.{Bounds}
use Rattle.extent.specs.Boxes.{bounds_at}
use Rattle.extent.specs.Forms.{floats_of, form_of}
use Rattle.extent.proofs.Forms.{form-good, form-bad}
use Rattle.query.specs.declared.ask.Ask.{Ask}
use Rattle.query.specs.declared.ask.Query.TheVariants.{Everything, Spot, Window}
use Rattle.query.specs.Block.{instead, body_len, len_of, block_len, spot_asked, window_asked, asked, ask_of}

-- ---- the body's length

pub body-empty : (n : ℕ) → n ≡ 0 → body_len n ≡ true
unfolding body_len
body-empty n e = simp (eq-eqb n 0 e)

pub body-spot : (n : ℕ) → n ≡ 16 → body_len n ≡ true
body-spot n e = ap body_len e ∙ unfold body_len in refl

pub body-else : (n : ℕ) → (n ≡ 0 → ⊥) → (n ≡ 16 → ⊥) → body_len n ≡ eqb n 32
unfolding body_len
body-else n h k = simp (ne_eqb n 0 h, ne_eqb n 16 k)

-- it is one of three
pub body-cases : (n : ℕ) → body_len n ≡ true → ((n ≡ 0) ⊎ (n ≡ 16)) ⊎ (n ≡ 32)
unfolding body_len
body-cases n e = go (or_split (eqb n 0 || eqb n 16) (eqb n 32) e)
  where
    or_split : (a b : Bool) → (a || b) ≡ true → (a ≡ true) ⊎ (b ≡ true)
    or_split true b h = inl refl
    or_split false b h = inr h

    lower : (eqb n 0 ≡ true) ⊎ (eqb n 16 ≡ true) → (n ≡ 0) ⊎ (n ≡ 16)
    lower (inl h) = inl (eqb-true n 0 h)
    lower (inr h) = inr (eqb-true n 16 h)

    go : ((eqb n 0 || eqb n 16) ≡ true) ⊎ (eqb n 32 ≡ true) → ((n ≡ 0) ⊎ (n ≡ 16)) ⊎ (n ≡ 32)
    go (inl h) = inl (lower (or_split (eqb n 0) (eqb n 16) h))
    go (inr h) = inr (eqb-true n 32 h)

pub body-most : (n : ℕ) → body_len n ≡ true → n ≤ 32
body-most n e = go (body-cases n e)
  where
    go : ((n ≡ 0) ⊎ (n ≡ 16)) ⊎ (n ≡ 32) → n ≤ 32
    go (inl (inl h)) = omega arith
    go (inl (inr h)) = omega arith
    go (inr h) = omega arith

-- ---- the bytes that it takes

module _ (b : Block) where
  pub len_is : b.kind ≡ 4 → body_len b.len ≡ true → len_of b ≡ ok (6 + b.len)
  unfolding len_of
  len_is k l = met (because query) (ok (6 + b.len)) (simp (eq-eqb b.kind 4 k, l))

  pub len-body : body_len b.len ≡ false → len_of b ≡ refused (because query)
  unfolding len_of
  len-body l = unmet (because query) (ok (6 + b.len)) (and-false (eqb b.kind 4) (body_len b.len) l)

  pub len-kind : (b.kind ≡ 4 → ⊥) → len_of b ≡ refused (because query)
  unfolding len_of
  len-kind k = unmet (because query) (ok (6 + b.len)) (simp (ne_eqb b.kind 4 k))

-- any refusal of the block is this one
pub block-found : (s : List ℕ) (b : Block) → block_at s 0 ≡ ok b → block_len s ≡ len_of b
unfolding block_len instead on
block-found s b e = ap (λ (o : Out Block). on (instead (because query) o) len_of) e

pub block_refused : (s : List ℕ) (w : Refusal) → block_at s 0 ≡ refused w → block_len s ≡ refused (because query)
unfolding block_len instead on
block_refused s w e = ap (λ (o : Out Block). on (instead (because query) o) len_of) e

-- ---- what patterns ask

pub spot-made : (x y : ℕ) (u v : Float) → (finite x && finite y) ≡ true → u ≡ of_bits binary64 x → v ≡ of_bits binary64 y
    → ok (record { query = Spot u v }) ≡ spot_asked x y
unfolding spot_asked
spot-made x y u v f d e = ap₂ (λ (u v : Float). ok (spot u v)) d e ∙ sym (met (because query) (ok (spot (of_bits binary64 x) (of_bits binary64 y))) f)
  where
    spot : Float → Float → Ask
    spot u v = record { query = Spot u v }

pub spot-not : (x y : ℕ) → (finite x && finite y) ≡ false → spot_asked x y ≡ refused (because query)
unfolding spot_asked
spot-not x y f = unmet (because query) (ok (record { query = Spot (of_bits binary64 x) (of_bits binary64 y) })) f

pub window-made : (p : Bounds) (b : Box) → form_of p ≡ Some b → ok (record { query = Window b }) ≡ window_asked p
unfolding window_asked
window-made p b e =
    let g = form-good p b e in
    ap (λ (k : Box). ok (window k)) g.1 ∙ sym (met (because query) (ok (window (floats_of p))) g.0)
  where
    window : Box → Ask
    window k = record { query = Window k }

pub window-not : (p : Bounds) → form_of p ≡ None → window_asked p ≡ refused (because query)
unfolding window_asked
window-not p e = unmet (because query) (ok (record { query = Window (floats_of p) })) (form-bad p e)

-- ---- what a block asks, by its length

module _ (s : List ℕ) where
  pub asked-everything : length s ≡ 6 → asked s ≡ ok (record { query = Everything })
  unfolding asked
  asked-everything e = simp (eq-eqb (length s) 6 e)

  pub asked-spot : length s ≡ 22 → asked s ≡ spot_asked (number_at 8 s 6) (number_at 8 s 14)
  unfolding asked
  asked-spot e = simp (ne_eqb (length s) 6 (λ h. omega arith), eq-eqb (length s) 22 e)

  pub asked-window : length s ≡ 38 → asked s ≡ window_asked (bounds_at s 6)
  unfolding asked
  asked-window e = simp (ne_eqb (length s) 6 (λ h. omega arith), ne_eqb (length s) 22 (λ h. omega arith), eq-eqb (length s) 38 e)

  pub asked-other : (length s ≡ 6 → ⊥) → (length s ≡ 22 → ⊥) → (length s ≡ 38 → ⊥) → asked s ≡ refused (because query)
  unfolding asked
  asked-other h k l = simp (ne_eqb (length s) 6 h, ne_eqb (length s) 22 k, ne_eqb (length s) 38 l)

  -- ---- exactly a block
  pub ask-exactly : (n : ℕ) → block_len s ≡ ok n → n ≡ length s → ask_of s ≡ asked s
  unfolding ask_of on
  ask-exactly n e h = ap (λ (o : Out ℕ). on o (λ k. need (eqb k (length s)) (because query) (asked s))) e ∙ met (because query) (asked s) (eq-eqb n (length s) h)

  pub ask-longer : (n : ℕ) → block_len s ≡ ok n → (n ≡ length s → ⊥) → ask_of s ≡ refused (because query)
  unfolding ask_of on
  ask-longer n e h = ap (λ (o : Out ℕ). on o (λ k. need (eqb k (length s)) (because query) (asked s))) e ∙ unmet (because query) (asked s) (ne_eqb n (length s) h)

  pub ask-refused : (w : Refusal) → block_len s ≡ refused w → ask_of s ≡ refused w
  unfolding ask_of on
  ask-refused w e = ap (λ (o : Out ℕ). on o (λ k. need (eqb k (length s)) (because query) (asked s))) e

-- two answers of one block are the same
pub said-one : {o x y : Out Ask} → x ≡ o → y ≡ o → x ≡ y
said-one = answer-one
