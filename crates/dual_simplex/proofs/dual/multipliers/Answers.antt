use Rattle.std.proofs.Common.{◌≡◌, ◌∷◌, ◌∙◌, SFits, ap, subst, rules, ℕ, ◌<◌, length, get_or, pos}
use Rattle.std.specs.Int.{w128}
use Rattle.std.proofs.lemmas.Int.{to_z-of_z}
use Rattle.flow_program.specs.integer_laws.Reduced.{IsReduced}
use Rattle.dual_simplex.specs.Rows.{table}
use Rattle.dual_simplex.specs.Choice.{scale_of}
use Rattle.dual_simplex.specs.Dual.{multiplier_of}
use Rattle.dual_simplex.proofs.PutLemmas.{reduced_costs}
use Rattle.dual_simplex.proofs.dual.multipliers.Goals as goal

pub returns-clause-are : goal.returns-clause-are
returns-clause-are c = λ p s.
    let r = c.args.rows.now in
    let k = c.scale_at-scale.ensures in
    let f : SFits w128 c.entry.result = search rules in
    let q : SFits w128 c.reduce.result = search rules in
    let len : length c.put_multipliers.new.ys ≡ r.rows = search rules in
    let e : c.entry.result ≡ table r (scale_of r) (scale_of r) =
    c.entry.ensures.value ∙ ap (λ (n : ℕ). table r n n) k in
    let v : (j : ℕ) → j < r.rows
    → get_or c.put_multipliers.new.ys j (pos 0) ≡ multiplier_of r (scale_of r) j =
    subst (λ (n : ℕ). (j : ℕ) → j < r.rows
    → get_or c.put_multipliers.new.ys j (pos 0) ≡ multiplier_of r n j) k
    c.put_multipliers.ensures.value in
    let reduced : IsReduced (c.entry.result ∷ c.put_multipliers.new.ys)
    (c.reduce.result ∷ c.reduce.new.row) = simp to_z-of_z at c.reduce.ensures.reduced in
    simp to_z-of_z
    (reduced_costs p r c.entry.result c.reduce.result c.put_multipliers.new.ys c.reduce.new.row
    s len v e reduced)
