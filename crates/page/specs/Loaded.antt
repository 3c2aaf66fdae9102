-- A page whose contents are read into its scratch, what the call counts on and says, and what the scratch then holds: for inner walks; no service speaks of it.
-- Assumes nothing.
use Rattle.std.specs.Prelude.{ℕ, ◌≡◌, true, List, length}
use Rattle.answer.specs.Outcome.{Out, ok, on}
use Rattle.answer.specs.Rule.{passed}
use Rattle.extent.specs.Rank.{all_finite}
use Rattle.extent.specs.declared.bounds.Bounds.{Bounds}
use Rattle.extent.specs.Boxes.{patterns}
use Rattle.types.specs.Parts.{parts_hold}
use Rattle.frame.specs.declared.head.Head.{Head}
use Rattle.shape.specs.declared.lists.Lists.{Lists}
use Rattle.shape.specs.Outline.{outlines_of, registered}
use Rattle.shape.specs.Rules.{box_holds, box_rule, outline_rules_in}
use Rattle.page.specs.Contents.{registers_of, types_of, counts_of, lens_of, vertices_of, contents_of}

-- a scratch with room for exactly as many part counts, part lengths and vertices as the head says
pub record ScratchFor (h : Head) (counts lens xs ys : List ℕ) : Type 0 where
  pub for_counts : length counts ≡ h.g
  pub for_lens : length lens ≡ h.p
  pub for_xs : length xs ≡ h.v
  pub for_ys : length ys ≡ h.v

-- 12 to 15 and then 16, by the page's box and its lists
abbrev pub vertex_rules_in : Bounds → Lists → Out (Unit {0})
vertex_rules_in p l = on (outline_rules_in l) (λ _. box_rule p l.xs.now l.ys.now)

-- the two columns: their verdict, and where it holds the scratch is the page's vertices
pub record Columns (h : Head) (b : List ℕ) (says : Out (Unit {0})) (xs ys : List ℕ) : Type 0 where
  pub verdict : says ≡ passed (vertices_of h b)
  pub vertices : says ≡ ok tt → vertices_of h b ≡ ok (record { xs = xs; ys = ys })

-- the scratch holds the page's lists, which every rule let pass, and its shapes are cut from them
pub record Loaded (h : Head) (b counts lens xs ys : List ℕ) : Type 0 where
  pub counts_are : counts ≡ counts_of h b
  pub lens_are : lens ≡ lens_of h b
  pub vertices : vertices_of h b ≡ ok (record { xs = xs; ys = ys })
  pub parts : parts_hold (types_of h b) counts lens h.v ≡ true
  pub finite_x : all_finite xs ≡ true
  pub finite_y : all_finite ys ≡ true
  pub box : box_holds (patterns h.stored) xs ys ≡ true
  pub shapes : contents_of h b ≡ ok (registered (registers_of h b) (outlines_of (types_of h b) counts lens xs ys))

-- the contract: the verdict is that of the page's contents, and where it holds the scratch is as above
pub record Loads (h : Head) (b : List ℕ) (says : Out (Unit {0})) (counts lens xs ys : List ℕ) : Type 0 where
  pub verdict : says ≡ passed (contents_of h b)
  pub lists : says ≡ ok tt → Loaded h b counts lens xs ys
