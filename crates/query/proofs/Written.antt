-- Each good query has its block: it is accepted, and asks that query. Assumes nothing.
use mathlib.Core.Path.{◌≡◌, refl, sym, ap, ap₂, ◌∙◌}
use mathlib.Core.Bool.{true}
use mathlib.Core.List.{List, [], ◌∷◌}
use Prim.Native.Nat.{ℕ, ◌+◌, ◌*◌, ◌^◌, ◌≤◌, ◌<◌}
use native.Mathlib.Nat.{mod-eq_of_lt}
use native.Mathlib.Omega.{arith}
use lib.Dec.{T}
use lib.ListN.{length, get_or, length-append}
use lib.Ieee.{Float, binary64, fits}
use lib.Ieee.Bits.{of_bits-to_bits, to_bits-lt}
use Rattle.answer.specs.Outcome.{ok}
use Rattle.le.specs.Number.{number_at, run_of}
use Rattle.block.specs.Block.{block_head}
use Rattle.le.proofs.Bytes.{number-at-append}
use Rattle.le.proofs.Runs.{length_run, run_at}
use Rattle.block.proofs.Blocks as le
use Rattle.block.proofs.Blocks.{length-head, head-len, head-kind}
use Rattle.extent.specs.Boxes.{bounds_at, pattern_of, patterns}
use Rattle.extent.specs.declared.boxes.Box.{Box}
use Rattle.extent.specs.Forms.{FitsBox}
use Rattle.extent.proofs.Forms.{floats-back, form-made}
use Rattle.query.specs.declared.ask.Query.{Query}
use Rattle.query.specs.declared.ask.Query.TheVariants.{Everything, Spot, Window}
use Rattle.query.specs.Ask.{good_query}
use Rattle.query.specs.Block.{body_len, spot_asked, window_asked, asked, ask_of, query_patterns, block_with, query_block}
use Rattle.query.specs.Accepted.{Fronts, FitsQuery}
use Rattle.query.proofs.Touching.{sound-spot, sound-window}
use Rattle.query.proofs.Blocks.{spot-made, window-made, asked-everything, asked-spot, asked-window}
use Rattle.query.proofs.Good.{accepts-ask}

-- the four patterns of a box
abbrev four : Box → List ℕ
four b = pattern_of b.least_x ∷ pattern_of b.least_y ∷ pattern_of b.greatest_x ∷ pattern_of b.greatest_y ∷ []

-- ---- a head of kind 4 and patterns

module _ (xs : List ℕ) where
  length_whole : length (block_with xs) ≡ 6 + 8 * length xs
  length_whole = length-append (block_head (8 * length xs) 4) (run_of 8 xs) ∙ omega (arith, length-head (8 * length xs) 4, length_run 8 xs)

  whole-at : (i : ℕ) → i < length xs → get_or xs i 0 < 2 ^ 64 → number_at 8 (block_with xs) (6 + 8 * i) ≡ get_or xs i 0
  whole-at i h l =
      let e : 6 + 8 * i ≡ length (block_head (8 * length xs) 4) + 8 * i = omega (arith, length-head (8 * length xs) 4) in
      ap (number_at 8 (block_with xs)) e ∙ number-at-append 8 (block_head (8 * length xs) 4) (run_of 8 xs) (8 * i) ∙ run_at 8 xs i h ∙ mod-eq_of_lt l

  whole-fronts : length xs ≤ 4 → body_len (8 * length xs) ≡ true → Fronts (block_with xs) (length (block_with xs))
  whole-fronts h b = record {
    block = record { kind = 4; body = 6; len = 8 * length xs };
    found =
        le.block-found (block_with xs) 0 4 (8 * length xs) (sym (head-kind (8 * length xs) 4 (run_of 8 xs)))
        (sym (head-len (8 * length xs) 4 (run_of 8 xs) ∙ mod-eq_of_lt (omega arith))) (omega (arith, length_whole));
    kind = refl;
    body = b;
    takes = sym length_whole;
  }

-- the pattern of a float is of 64 bits
word : (x : Float) → T (fits binary64 x) → pattern_of x < 2 ^ 64
word x f = to_bits-lt binary64 x f

spot-says : (x y : Float) → T (fits binary64 x) → T (fits binary64 y) → good_query (Spot x y) ≡ true
    → asked (block_with (pattern_of x ∷ pattern_of y ∷ [])) ≡ ok (record { query = Spot x y })
spot-says x y f g s =
    let l = pattern_of x ∷ pattern_of y ∷ [] in
    asked-spot (block_with l) (length_whole l)
    ∙ ap₂ spot_asked (whole-at l 0 (omega arith) (word x f)) (whole-at l 1 (omega arith) (word y g))
    ∙ sym (spot-made (pattern_of x) (pattern_of y) x y (sym (sound-spot (Spot x y) x y refl) ∙ s) (sym (of_bits-to_bits binary64 x f)) (sym (of_bits-to_bits binary64 y g)))

window-says : (b : Box) → FitsBox b → good_query (Window b) ≡ true → asked (block_with (four b)) ≡ ok (record { query = Window b })
window-says b f s =
    let g = sym (sound-window (Window b) b refl) ∙ s in
    asked-window (block_with (four b)) (length_whole (four b))
    ∙ ap window_asked read
    ∙ sym (window-made (patterns b) b (sym (form-made (patterns b) b g (sym (floats-back b f)))))
  where
    read : bounds_at (block_with (four b)) 6 ≡ patterns b
    read = unfold bounds_at in λ i. record {
      least_x = whole-at (four b) 0 (omega arith) (word b.least_x f.least_x) i;
      least_y = whole-at (four b) 1 (omega arith) (word b.least_y f.least_y) i;
      greatest_x = whole-at (four b) 2 (omega arith) (word b.greatest_x f.greatest_x) i;
      greatest_y = whole-at (four b) 3 (omega arith) (word b.greatest_y f.greatest_y) i;
    }

pub ask-block : (q : Query) → FitsQuery q → good_query q ≡ true → ask_of (query_block q) ≡ ok (record { query = q })
unfolding query_block query_patterns body_len
ask-block Everything f s = accepts-ask (block_with []) _ (record { exactly = whole-fronts [] (omega arith) refl; says = asked-everything (block_with []) (length_whole []) })
ask-block (Spot x y) f s = accepts-ask _ _ (record { exactly = whole-fronts (pattern_of x ∷ pattern_of y ∷ []) (omega arith) refl; says = spot-says x y f.0 f.1 s })
ask-block (Window b) f s = accepts-ask _ _ (record { exactly = whole-fronts (four b) (omega arith) refl; says = window-says b f s })
