-- The head of a page, as its body says it: "at least 38 bytes (4), counts (6), exact length (4), box form (7)". No page number is set here.
-- Assumes nothing.
use Rattle.std.specs.Prelude.{ℕ, ◌+◌, Bool, ◌&&◌, ◌||◌, cond, List, length, leb, eqb}
use Rattle.answer.specs.Limits.{vertex_limit, most_page_shapes}
use Rattle.answer.specs.Table.{lengths, counts, box_form}
use Rattle.answer.specs.Refusal.{because}
use Rattle.answer.specs.Outcome.{Out, ok, need}
use Rattle.le.specs.Number.{number_at}
use Rattle.extent.specs.declared.bounds.Bounds.{Bounds}
use Rattle.extent.specs.Boxes.{bounds_at, good_form}
use Rattle.extent.specs.Forms.{floats_of}
use Rattle.frame.specs.declared.head.Head.{Head}
use Rattle.frame.specs.Layout.{shapes_place, vertices_place, parts_place, bounds_place, first_bytes, second_size, layout_of}

-- the limits: 1 to 256 shapes, at most 2,048 vertices, p ≤ v, and p = 0 only if v = 0
unfoldable pub counts_ok : ℕ → ℕ → ℕ → Bool
counts_ok g v p = leb 1 g && leb g most_page_shapes && leb v vertex_limit && leb p v && (leb 1 p || eqb v 0)

-- all zero bytes
unfoldable pub all_zero : Bounds → Bool
all_zero p = eqb p.least_x 0 && eqb p.least_y 0 && eqb p.greatest_x 0 && eqb p.greatest_y 0

-- the form of a box of v vertices: all zero bytes if v = 0, else finite and not reversed
unfoldable pub box_ok : ℕ → Bounds → Bool
box_ok v p = cond (eqb v 0) (all_zero p) (good_form p)

-- the head of a body whose counts are g, v and p: the body reaches past cx and cy, its length is exact, its box is of good form
unfoldable pub sized_head : ℕ → List ℕ → ℕ → ℕ → ℕ → Out Head
sized_head edition b g v p =
    let l = layout_of edition g p in
    need (leb l.columns (length b)) (because lengths)
    (let cx = number_at 4 b l.sizes in
    let cy = number_at 4 b (l.sizes + second_size) in
    need (eqb (length b) (l.columns + cx + cy)) (because lengths)
    (need (box_ok v (bounds_at b bounds_place)) (because box_form)
    (ok (record { g = g; v = v; p = p; stored = floats_of (bounds_at b bounds_place); cx = cx; cy = cy; layout = l }))))

-- the head of a body
unfoldable pub head_of : ℕ → List ℕ → Out Head
head_of edition b =
    need (leb first_bytes (length b)) (because lengths)
    (let g = number_at 2 b shapes_place in
    let v = number_at 2 b vertices_place in
    let p = number_at 2 b parts_place in
    need (counts_ok g v p) (because counts)
    (sized_head edition b g v p))
