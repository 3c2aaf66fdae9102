-- The two columns of a page, by the ways through them. Assumes nothing.
use Prim.Native.Nat.{ℕ, ◌+◌, ◌-◌}
use mathlib.Core.Path.{◌≡◌, refl, sym, ap, ap₂, ◌∙◌}
use mathlib.Core.List.{List, []}
use native.Mathlib.Omega.{arith}
use lib.ListN.{length, take, drop}
use Rattle.answer.specs.Axis as Axis
use Rattle.answer.specs.Refusal.{on_column}
use Rattle.answer.specs.Outcome.{refused, ok, on, Out}
use Rattle.answer.specs.Rule.{passed}
use Rattle.answer.specs.declared.Refusal.{Refusal}
use Rattle.answer.proofs.Rules.{passed-refused, refused-passed, passed_on}
use Rattle.answer.proofs.Outcomes.{ok-inj, on-ok, marked-ok}
use Rattle.column.proofs.Decoding.{scratch-ok}
use Rattle.frame.specs.declared.head.Head.{Head}
use Rattle.page.specs.Scratched.{Scratched}
use Rattle.page.specs.Contents.{x_part, y_part, Vertices, column_of, vertices_of}
use Rattle.page.specs.Loaded.{Columns}

-- the parts, as the code cuts them
pub x-part : (h : Head) (b : List ℕ) (x y : ℕ) → x ≡ h.layout.columns → y ≡ x + h.cx → take (y - x) (drop x b) ≡ x_part h b
unfolding x_part
x-part h b x y d e =
    let z : y - x ≡ h.cx = omega arith in
    ap₂ (λ (n at : ℕ). take n (drop at b)) z d

pub y-part : (h : Head) (b : List ℕ) (y end : ℕ) → y ≡ h.layout.columns + h.cx → end ≡ y + h.cy → take (end - y) (drop y b) ≡ y_part h b
unfolding y_part
y-part h b y end d e =
    let z : end - y ≡ h.cy = omega arith in
    ap₂ (λ (n at : ℕ). take n (drop at b)) z d

module _ (h : Head) (b xs ys s : List ℕ) (n : ℕ) (e : s ≡ x_part h b) (l : n ≡ h.v) where
  -- the x column is refused
  pub columns-refused : (w : Refusal) → Scratched (column_of Axis.x s n) (refused w) xs → Columns h b (refused w) xs ys
  unfolding vertices_of on
  columns-refused w g =
      let o : column_of Axis.x (x_part h b) h.v ≡ refused w = ap₂ (column_of Axis.x) (sym e) (sym l) ∙ refused-passed _ w g.verdict in
      let r : vertices_of h b ≡ refused w = rw o in
      record { verdict = passed-refused w r; vertices = λ q. absurd (let y : ◌≡◌ {A = ℕ} 0 1 = cc in omega arith) }

  -- the x column is read, and the y column is what it is
  pub columns-both : (t : List ℕ) (m : ℕ) (r : Out (Unit {0})) → t ≡ y_part h b → m ≡ h.v → Scratched (column_of Axis.x s n) (ok tt) xs → Scratched (column_of Axis.y t m) r ys
      → Columns h b r xs ys
  unfolding vertices_of on
  columns-both t m r f k g u =
      let first : column_of Axis.x (x_part h b) h.v ≡ ok xs = ap₂ (column_of Axis.x) (sym e) (sym l) ∙ g.value refl in
      let second : column_of Axis.y (y_part h b) h.v ≡ column_of Axis.y t m = ap₂ (column_of Axis.y) (sym f) (sym k) in
      let whole : vertices_of h b ≡ on (column_of Axis.y t m) (λ l. ok (record { xs = xs; ys = l })) = rw (first, second) in
      record {
        verdict = u.verdict ∙ sym (passed_on (column_of Axis.y t m) (λ l. record { xs = xs; ys = l })) ∙ ap passed (sym whole);
        vertices = λ q. whole ∙ rw (u.value q);
      }

-- as many as the head says
pub vertices-long : (h : Head) (b xs ys : List ℕ) → vertices_of h b ≡ ok (record { xs = xs; ys = ys }) → (length xs ≡ h.v) × (length ys ≡ h.v)
unfolding vertices_of
vertices-long h b xs ys e =
    let x = on-ok (column_of Axis.x (x_part h b) h.v) _ _ e in
    let y = on-ok (column_of Axis.y (y_part h b) h.v) _ _ x.2 in
    let q = ok-inj y.2 in
    let qx : x.0 ≡ xs = ap (λ (t : Vertices). t.xs) q in
    let qy : y.0 ≡ ys = ap (λ (t : Vertices). t.ys) q in
    (rw (← qx) (scratch-ok 64 (x_part h b) h.v [] x.0 (marked-ok (on_column Axis.x) _ x.0 x.1)).0, rw (← qy) (scratch-ok 64 (y_part h b) h.v [] y.0 (marked-ok (on_column Axis.y) _ y.0 y.1)).0)
