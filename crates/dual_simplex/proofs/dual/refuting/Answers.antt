use Rattle.std.proofs.Common.{◌≡◌, subst, rules, ℤ, List, length}
use Rattle.flow_program.specs.integer_laws.Reduced.{IsReduced}
use Rattle.dual_simplex.proofs.PutLemmas.{multipliers_are}
use Rattle.dual_simplex.proofs.dual.refuting.Goals as goal

pub returns-clause-are : goal.returns-clause-are
returns-clause-are c = λ p s.
    let r = c.args.rows.now in
    let len : length c.put_multipliers.new.ys ≡ r.rows = search rules in
    subst (λ (xs : List ℤ). IsReduced xs c.primitive.new.row)
    (multipliers_are p r c.args.l c.put_multipliers.new.ys s len
    c.put_multipliers.ensures.value) c.primitive.ensures.reduced
