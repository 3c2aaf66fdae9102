-- Where a shape's row stands in the body of its page. Assumes nothing.
use mathlib.Core.Path.{◌≡◌, sym, ◌∙◌}
use mathlib.Core.List.{List}
use Prim.Native.Nat.{ℕ, ◌+◌, ◌*◌, ◌≤◌, ◌<◌}
use native.Mathlib.Omega.{arith}
use lib.ListN.{length, get_or, drop}
use lib.Seq.{get_or-take, get_or-drop}
use Rattle.answer.specs.Outcome.{ok}
use Rattle.le.specs.Number.{number_at}
use Rattle.le.proofs.Runs.{numbers-at}
use Rattle.frame.specs.declared.head.Head.{Head}
use Rattle.frame.specs.Layout.{each, layout_of}
use Rattle.frame.specs.Head.{head_of}
use Rattle.frame.proofs.Heads.{head-is}
use Rattle.page.specs.Contents.{registers_of, types_of}
use Rattle.page.proofs.Loading.{head-stands}
use Rattle.place.specs.Row.{row_of}

-- the types stand behind the registers
types-after : (e g p i : ℕ) → i < g → (layout_of e g p).registers + (layout_of e g p).each * i + 4 ≤ (layout_of e g p).types
unfolding layout_of each
types-after e g p i l = omega arith

-- both are in the body
pub row-there : (e : ℕ) (b : List ℕ) (h : Head) (i : ℕ) → head_of e b ≡ ok h → i < h.g
    → (h.layout.registers + h.layout.each * i + 4 ≤ length b) × (h.layout.types + i < length b)
row-there e b h i q l =
    let t : h.layout.registers + h.layout.each * i + 4 ≤ h.layout.types = rw (head-is e b h q).laid (types-after e h.g h.p i l) in
    let s = (head-stands e b h q).types in
    (omega (arith, t, s), omega (arith, s))

-- the row, as it is read
pub row_is : (b : List ℕ) (h : Head) (i register kind : ℕ) → i < h.g → register ≡ number_at 4 b (h.layout.registers + h.layout.each * i) → kind ≡ get_or b (h.layout.types + i) 0
    → record { register = register; kind = kind } ≡ row_of h b i
unfolding row_of registers_of types_of
row_is b h i register kind l r k =
    let er : register ≡ get_or (registers_of h b) i 0 = r ∙ sym (numbers-at h.layout.each 4 h.g b h.layout.registers i l) in
    let ek : kind ≡ get_or (types_of h b) i 0 = k ∙ sym (get_or-take h.g (drop h.layout.types b) i 0 l ∙ get_or-drop h.layout.types b i 0) in
    (λ j. record { register = er j; kind = ek j })
