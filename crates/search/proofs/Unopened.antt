-- A page that is not opened has no hit: its stored box is in value that of its vertices, and each shape's vertices are a part of them. Assumes nothing.
use mathlib.Core.Path.{◌≡◌, refl, sym, ap, ◌∙◌}
use mathlib.Core.Bool.{Bool, true, false, cond}
use mathlib.Core.List.{List, [], ◌∷◌}
use Prim.Native.Nat.{ℕ, zero, suc, ◌+◌, ◌≤◌}
use native.Mathlib.Omega.{arith}
use borrow.Author.Tests.{lt-ltb}
use lib.Dec.{ltb}
use lib.ListN.{length, take, drop, length-take, length-drop}
use lib.Seq.{drop-drop}
use Rattle.answer.specs.Outcome.{ok}
use Rattle.answer.proofs.Both.{not-true, no_both}
use Rattle.extent.specs.declared.bounds.Bounds.{Bounds}
use Rattle.extent.specs.Boxes.{patterns, same_box, box_of}
use Rattle.query.specs.declared.ask.Ask.{Ask}
use Rattle.query.specs.Ask.{hit, opens}
use Rattle.query.proofs.Asking.{unopened-no-hit, hit-none, opens-everything}
use Rattle.shape.specs.Outline.{Shape, vertex_count, outlines_of}
use Rattle.shape.specs.Rules.{box_holds}
use Rattle.shape.proofs.OnlyIf.{decided}
use Rattle.frame.specs.declared.head.Head.{Head}
use Rattle.page.specs.Contents.{types_of, counts_of, lens_of, contents_of}
use Rattle.page.proofs.Vertices.{vertices-long}
use Rattle.page.proofs.Contained.{contents-contained}
use Rattle.search.specs.Search.{places_of, hits_from}
use Rattle.search.proofs.Opened.{shapes-hits}

-- outlines none of which is hit: their vertices are parts of xs and ys from j on, and no part is hit
none-hit : (a : Ask) (xs ys : List ℕ) → ((k n : ℕ) → hit a (take n (drop k xs)) (take n (drop k ys)) ≡ false)
    → (types counts lens : List ℕ) (j n : ℕ) → places_of a n (outlines_of types counts lens (drop j xs) (drop j ys)) ≡ []
unfolding places_of outlines_of
none-hit a xs ys f [] cs lens j n = refl
none-hit a xs ys f (t ∷ ts) [] lens j n = refl
none-hit a xs ys f (t ∷ ts) (c ∷ cs) lens j n =
    let m = vertex_count c lens in
    ap (λ (b : Bool). cond b (n ∷ places_of a (suc n) (outlines_of ts cs (drop c lens) (drop m (drop j xs)) (drop m (drop j ys)))) (places_of a (suc n) (outlines_of ts cs (drop c lens) (drop m (drop j xs)) (drop m (drop j ys))))) (f j m)
    ∙ (λ i. places_of a (suc n) (outlines_of ts cs (drop c lens) (drop-drop m j xs i) (drop-drop m j ys i)))
    ∙ none-hit a xs ys f ts cs (drop c lens) (j + m) (suc n)

-- no part of a page's vertices is hit
parts-missed : (a : Ask) (xs ys : List ℕ) (v : ℕ) (p : Bounds) → length ys ≡ length xs → v ≡ length xs → box_holds p xs ys ≡ true → opens a v p ≡ false
    → (k n : ℕ) → hit a (take n (drop k xs)) (take n (drop k ys)) ≡ false
unfolding box_holds
parts-missed a xs ys v p l e b c k n = go (length xs) refl
  where
    go : (j : ℕ) → length xs ≡ j → hit a (take n (drop k xs)) (take n (drop k ys)) ≡ false
    go zero z =
        let few : length (take n (drop k xs)) ≤ 0 = (let t = length-take n (drop k xs) in let d = length-drop k xs in omega arith) in
        not-true _ (λ h. no_both c (opens-everything a v p (hit-none a (take n (drop k xs)) (take n (drop k ys)) few h)))
    go (suc j) z = unopened-no-hit a xs ys k n v p l e (decided (ltb 0 (length xs)) (same_box p (box_of xs ys)) (lt-ltb 0 (length xs) (omega arith)) b) c

-- so none of its shapes is
pub closed_none : (a : Ask) (n : ℕ) (h : Head) (b : List ℕ) (ss : List Shape) → contents_of h b ≡ ok ss → opens a h.v (patterns h.stored) ≡ false
    → hits_from a n ss ≡ []
closed_none a n h b ss e c =
    let k = contents-contained h b ss e in
    let v = vertices-long h b k.xs k.ys k.vertices in
    ap (hits_from a n) (sym k.shapes)
    ∙ shapes-hits h b k.xs k.ys k.parts a n
    ∙ none-hit a k.xs k.ys (parts-missed a k.xs k.ys h.v (patterns h.stored) (v.1 ∙ sym v.0) (sym v.0) k.box c) (types_of h b) (counts_of h b) (lens_of h b) 0 n
