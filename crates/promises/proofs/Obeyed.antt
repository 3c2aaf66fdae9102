-- "Shapes obey the six types and the empty one": every shape of a file that the full check accepts goes by the table. Nothing is assumed.
use Prim.Native.Nat.{ℕ}
use mathlib.Core.Path.{◌≡◌, sym, ◌∙◌, subst}
use mathlib.Core.Bool.{true}
use mathlib.Core.List.{List, [], ◌∷◌, ◌++◌}
use native.Mathlib.Omega.{arith}
use lib.ListN.{length, length-drop, take, drop}
use lib.Seq.{length-take-le}
use Rattle.types.specs.Types.{type_row}
use Rattle.types.specs.Parts.{total, fits, parts_agree}
use Rattle.types.proofs.Sums.{total-split}
use Rattle.types.proofs.Passed.{hold-agree, hold-total, parts-cons}
use Rattle.shape.specs.Outline.{Shape, outlines_of, registered}
use Rattle.frame.specs.Frame.{Page}
use Rattle.page.specs.Contents.{registers_of, types_of, counts_of, lens_of}
use Rattle.promises.specs.SoundFile.{SoundPage, SoundPages}
use Rattle.promises.specs.SoundFile as sound
use Rattle.promises.specs.Obeying.{AllObey, none, more}

-- shapes cut from lists that rule 11 let pass
outlines-obey : (rs types counts lens xs ys : List ℕ) → parts_agree types counts lens ≡ true → length xs ≡ total lens → length ys ≡ total lens
    → AllObey (registered rs (outlines_of types counts lens xs ys))
unfolding outlines_of registered
outlines-obey [] types counts lens xs ys p x y = none
outlines-obey (r ∷ rs) [] counts lens xs ys p x y = none
outlines-obey (r ∷ rs) (t ∷ ts) [] lens xs ys p x y = none
outlines-obey (r ∷ rs) (t ∷ ts) (c ∷ cs) lens xs ys p x y =
    let f = parts-cons t c ts cs lens p in
    let k = total (take c lens) in
    let e = total-split c lens in
    let long : length (take c lens) ≡ c = length-take-le c lens f.first.there in
    let xl : length (take k xs) ≡ k = length-take-le k xs (omega (arith, x, e)) in
    let yl : length (take k ys) ≡ k = length-take-le k ys (omega (arith, y, e)) in
    let row = type_row t in
    let parts : fits row.least_parts row.most_parts (length (take c lens)) ≡ true = rw long f.first.parts in
    more
    (record { known = f.first.known; parts = parts; lengths = f.first.lengths; x_count = xl; y_count = yl })
    (outlines-obey rs ts cs (drop c lens) (drop k xs) (drop k ys) f.others (left xs x) (left ys y))
  where
    left : (l : List ℕ) → length l ≡ total lens → length (drop (total (take c lens)) l) ≡ total (drop c lens)
    left l h = omega (arith, length-drop (total (take c lens)) l, total-split c lens, h)

-- one list after the other
both-obey : {ss ts : List Shape} → AllObey ss → AllObey ts → AllObey (ss ++ ts)
both-obey none b = b
both-obey (more o a) b = more o (both-obey a b)

-- a sound page's shapes
page-obeys : (p : Page) (ss : List Shape) → SoundPage p.head p.body ss → AllObey ss
page-obeys p ss k =
    let held = k.parts in
    let v = hold-total (types_of p.head p.body) (counts_of p.head p.body) (lens_of p.head p.body) p.head.v held in
    subst AllObey (sym k.shapes_are)
    (outlines-obey (registers_of p.head p.body) (types_of p.head p.body) (counts_of p.head p.body) (lens_of p.head p.body) k.xs k.ys
    (hold-agree (types_of p.head p.body) (counts_of p.head p.body) (lens_of p.head p.body) p.head.v held) (k.x_count ∙ sym v) (k.y_count ∙ sym v))

-- every shape of a sound file
pub sound-obeys : {ps : List Page} {ss : List Shape} → SoundPages ps ss → AllObey ss
sound-obeys sound.none = none
sound-obeys (sound.more {p = p} {here = here} k r) = both-obey (page-obeys p here k) (sound-obeys r)
