-- "With the column, x or y": which column a refused page names. It is x exactly when the tables have passed and the x column is refused, and y exactly when
-- the x column is read besides and the y column is refused; the index is that column's own. Nothing is assumed.
use Prim.Native.Nat.{ℕ, ◌≤◌}
use mathlib.Core.Path.{◌≡◌, refl, ap, ◌∙◌}
use mathlib.Core.List.{List}
use native.Mathlib.Omega.{arith}
use lib.Dec.{eqb}
use Rattle.answer.specs.Axis as Axis
use Rattle.answer.specs.declared.Refusal.{Refusal}
use Rattle.answer.specs.Refusal.{on_column}
use Rattle.answer.specs.Outcome.{refused, ok}
use Rattle.answer.proofs.Outcomes.{marked_refused, marked-value, marked-ok}
use Rattle.answer.proofs.Orders.{on-refused, on_value}
use Rattle.column.specs.Read.{end_rules, some_of, decode_of}
use Rattle.types.specs.Parts.{parts_rule}
use Rattle.shape.specs.Rules.{box_rule}
use Rattle.frame.specs.declared.head.Head.{Head}
use Rattle.page.specs.Contents.{types_of, counts_of, lens_of, x_part, y_part, column_of, vertices_of, contents_of}
use Rattle.search.specs.Listed.{listed}
use Rattle.promises.specs.Refusing.{Refuses}
use Rattle.promises.specs.Values.{InColumns, neither, in_x, in_y}
use Rattle.promises.proofs.Refusals.{ok-gives, need-gives, after-gives, on-gives, marked-gives, cond-gives, rule-gives, so-gives}
use Rattle.promises.proofs.Numbers.{outlines-give}
use Rattle.promises.proofs.Values.{decode-indexed, indexed-most}

-- a column that is read alone names none
pub decode-no-column : (P : ℕ) (s : List ℕ) (n : ℕ) → Refuses (λ w. w.column ≡ Axis.none) (decode_of P s n)
unfolding decode_of some_of end_rules
decode-no-column P s n =
    cond-gives _ (eqb n 0) _ _ (need-gives _ _ _ _ refl (need-gives _ _ _ _ refl (ok-gives _ _)))
    (need-gives _ _ _ _ refl (need-gives _ _ _ _ refl (need-gives _ _ _ _ refl (need-gives _ _ _ _ refl (need-gives _ _ _ _ refl (ok-gives _ _))))))

module _ (h : Head) (b : List ℕ) where
  -- a refusal of one column is the same, but for the column that it then names
  same-refusal : (w : Refusal) (c : ℕ) → w.column ≡ Axis.none → w ≡ on_column Axis.none (on_column c w)
  same-refusal w c z = λ i. record { number = w.number; column = z i; index = w.index; page = w.page }

  module _ (passes : parts_rule (types_of h b) (counts_of h b) (lens_of h b) h.v ≡ ok tt) where
    x-columns : Refuses (InColumns h b) (column_of Axis.x (x_part h b) h.v)
    x-columns =
        marked-gives _ (on_column Axis.x) (decode_of 64 (x_part h b) h.v)
        (so-gives _ _ _ (λ w e z. in_x refl passes (e ∙ ap refused (same-refusal w Axis.x z))) (decode-no-column 64 (x_part h b) h.v))

    y-columns : (xs : List ℕ) → decode_of 64 (x_part h b) h.v ≡ ok xs → Refuses (InColumns h b) (column_of Axis.y (y_part h b) h.v)
    y-columns xs x =
        marked-gives _ (on_column Axis.y) (decode_of 64 (y_part h b) h.v)
        (so-gives _ _ _ (λ w e z. in_y xs refl passes x (e ∙ ap refused (same-refusal w Axis.y z))) (decode-no-column 64 (y_part h b) h.v))

    vertices-columns : Refuses (InColumns h b) (vertices_of h b)
    unfolding vertices_of
    vertices-columns =
        after-gives _ _ _ x-columns (λ xs e.
        on-gives _ _ _ (y-columns xs (marked-ok (on_column Axis.x) _ xs e)) (λ ys. ok-gives _ _))

  -- whatever refuses a page's contents
  pub contents-columns : Refuses (InColumns h b) (contents_of h b)
  unfolding contents_of parts_rule box_rule listed
  contents-columns =
      after-gives _ _ _ (rule-gives _ _ _ (neither refl refl refl)) (λ u e.
      on-gives _ _ _ (vertices-columns e) (λ t.
      on-gives _ _ _ (outlines-give _ _ t.xs t.ys (neither refl refl refl) (neither refl refl refl) (neither refl refl refl) (neither refl refl refl)) (λ _.
      on-gives _ _ _ (rule-gives _ _ _ (neither refl refl refl)) (λ _. ok-gives _ _))))

  -- ---- and back

  module _ (passes : parts_rule (types_of h b) (counts_of h b) (lens_of h b) h.v ≡ ok tt) where
    pub x-named : (w : Refusal) → decode_of 64 (x_part h b) h.v ≡ refused w → contents_of h b ≡ refused (on_column Axis.x w)
    unfolding contents_of vertices_of
    x-named w e =
        on_value _ _ tt passes
        ∙ on-refused _ _ (on_column Axis.x w) (on-refused (column_of Axis.x (x_part h b) h.v) _ (on_column Axis.x w) (marked_refused (on_column Axis.x) w e))

    pub y-named : (xs : List ℕ) (w : Refusal) → decode_of 64 (x_part h b) h.v ≡ ok xs → decode_of 64 (y_part h b) h.v ≡ refused w
        → contents_of h b ≡ refused (on_column Axis.y w)
    unfolding contents_of vertices_of
    y-named xs w x e =
        on_value _ _ tt passes
        ∙ on-refused _ _ (on_column Axis.y w)
        (on_value (column_of Axis.x (x_part h b) h.v) _ xs (marked-value (on_column Axis.x) xs x)
        ∙ on-refused (column_of Axis.y (y_part h b) h.v) _ (on_column Axis.y w) (marked_refused (on_column Axis.y) w e))

  -- ---- the index

  -- is at most the number of the page's vertices
  pub columns-most : (w : Refusal) → InColumns h b w → w.index ≤ h.v
  columns-most w (neither e c i) = rw i (zero-le)
    where
      zero-le : 0 ≤ h.v
      zero-le = omega arith
  columns-most w (in_x c p e) = indexed-most 64 (x_part h b) h.v _ ((decode-indexed 64 (x_part h b) h.v).such _ e)
  columns-most w (in_y xs c p x e) = indexed-most 64 (y_part h b) h.v _ ((decode-indexed 64 (y_part h b) h.v).such _ e)
