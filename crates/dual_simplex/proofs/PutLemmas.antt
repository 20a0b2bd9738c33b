-- The multipliers of a row, one after another, as those of a program of its size.
use Rattle.std.proofs.Common.{◌≡◌, ◌≢◌, ℕ, ◌+◌, ◌<◌, ◌≤◌, pos, ℤ, ◌-ℤ◌, List, ◌∷◌, length, get_or}
use Rattle.std.proofs.Common.{set, get_or-set_other, get_or-set_same, below_more, sym, ap, ◌∙◌}
use Rattle.std.proofs.Common.{subst, arith}
use Rattle.std.proofs.lemmas.List.{get_or_default}
use Rattle.std.proofs.lemmas.List.Edits.{fill_by_more}
use Rattle.std.proofs.lemmas.List.FromFn.{fill_by_all}
use Rattle.flow_program.specs.integer_laws.Range.{InRange, AllInRange}
use Rattle.flow_program.specs.integer_laws.Reduced.{IsReduced}
use Rattle.flow_program.specs.flow_rules.LinearProgram.{LinearProgram}
use Rattle.flow_program.specs.flow_rules.Columns.{t_at, w_at, scale_at}
use Rattle.flow_program.specs.flow_rules.Multipliers.{multipliers}
use Rattle.dual_simplex.specs.Rows.{Rows, table}
use Rattle.dual_simplex.specs.Choice.{IsOfSize, scale_of}
use Rattle.dual_simplex.specs.Dual.{multiplier_of}

-- the first j are put
pub record IsPut (r : Rows) (c : ℕ) (ys : List ℤ) (j : ℕ) : Type 0 where
  pub value : (i : ℕ) → i < j → get_or ys i (pos 0) ≡ multiplier_of r c i
  pub in_range : (i : ℕ) → i < j → InRange (get_or ys i (pos 0))

pub put_more : (r : Rows) (c : ℕ) (ys : List ℤ) (j : ℕ) (y : ℤ) → j < length ys
    → y ≡ multiplier_of r c j → InRange y → IsPut r c ys j → IsPut r c (set ys j y) (j + 1)
put_more r c ys j y within e range put = record {
  value =
      subst (λ (z : ℤ). (i : ℕ) → i < j + 1 → get_or (set ys j z) i (pos 0) ≡ multiplier_of r c i)
      (sym e) (fill_by_more (multiplier_of r c) ys j (pos 0) within put.value);
  in_range = below_more _ _
      (λ i h. let other : i ≢ j = omega arith in
      subst InRange (sym (get_or-set_other ys j i y (pos 0) other)) (put.in_range i h))
      (subst InRange (sym (get_or-set_same ys j y (pos 0) within)) range);
}

pub put_in_range : (r : Rows) (c : ℕ) (ys : List ℤ) (j : ℕ) → length ys ≤ j → IsPut r c ys j
    → AllInRange ys
put_in_range r c ys j all put =
    λ k d within. subst InRange (get_or_default ys k (pos 0) d within)
    (put.in_range k (omega arith))

multiplier_same : (p : LinearProgram) (r : Rows) (c j : ℕ) → IsOfSize p r
    → multiplier_of r c j ≡ table r c (t_at p j) -ℤ table r c (w_at p j)
multiplier_same p r c j s =
    let t : r.units + r.units + j ≡ t_at p j = omega (arith, s.units) in
    let w : r.units + r.units + r.rows + j ≡ w_at p j = omega (arith, s.units, s.rows) in
    ap (λ (k : ℕ). table r c k -ℤ table r c (r.units + r.units + r.rows + j)) t
    ∙ ap (λ (k : ℕ). table r c (t_at p j) -ℤ table r c k) w

pub multipliers_are : (p : LinearProgram) (r : Rows) (c : ℕ) (ys : List ℤ) → IsOfSize p r
    → length ys ≡ r.rows → ((j : ℕ) → j < r.rows → get_or ys j (pos 0) ≡ multiplier_of r c j)
    → ys ≡ multipliers p (table r c)
multipliers_are p r c ys s len h =
    fill_by_all (λ j. table r c (t_at p j) -ℤ table r c (w_at p j)) ys p.rows (pos 0)
    (len ∙ sym s.rows)
    (λ j below. h j (omega (arith, s.rows)) ∙ multiplier_same p r c j s)

pub scale_same : (p : LinearProgram) (r : Rows) → IsOfSize p r → scale_of r ≡ scale_at p
scale_same p r s = omega (arith, s.units, s.rows)

pub reduced_costs : (p : LinearProgram) (r : Rows) (first d : ℤ) (ys new : List ℤ) → IsOfSize p r
    → length ys ≡ r.rows
    → ((j : ℕ) → j < r.rows → get_or ys j (pos 0) ≡ multiplier_of r (scale_of r) j)
    → first ≡ table r (scale_of r) (scale_of r) → IsReduced (first ∷ ys) (d ∷ new)
    → IsReduced (table r (scale_at p) (scale_at p) ∷ multipliers p (table r (scale_at p))) (d ∷ new)
reduced_costs p r first d ys new s len h e reduced =
    subst (λ (k : ℕ). IsReduced (table r k k ∷ multipliers p (table r k)) (d ∷ new))
    (scale_same p r s)
    (subst (λ (x : ℤ). IsReduced (x ∷ multipliers p (table r (scale_of r))) (d ∷ new)) e
    (subst (λ (xs : List ℤ). IsReduced (first ∷ xs) (d ∷ new))
    (multipliers_are p r (scale_of r) ys s len h) reduced))
