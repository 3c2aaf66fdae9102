-- What the copying of a shape counts on, since its page was opened: for inner walks; no service speaks of it. Assumes nothing.
use Rattle.std.specs.Prelude.{ℕ, ◌≤◌, ◌≡◌, List, length}
use Rattle.place.specs.declared.span.Span.{Span}

-- a span that lies in a page's lists, in which there is a y for each x
pub record Lies (p : Span) (lens xs ys : List ℕ) : Type 0 where
  pub parts : p.part ≤ p.part_end
  pub lens_reach : p.part_end ≤ length lens
  pub vertices : p.vertex ≤ p.vertex_end
  pub xs_reach : p.vertex_end ≤ length xs
  pub same : length ys ≡ length xs
