use Rattle.std.proofs.Common.{rules, ◌≡◌, subst, sym, List, ℤ, length}
use Rattle.flow_program.specs.flow_rules.LinearProgram.{linear_of}
use Rattle.flow_program.specs.flow_rules.Multipliers.{AreRefuting}
use Rattle.dual_simplex.specs.Rows.{table}
use Rattle.dual_simplex.proofs.EndLemmas.{taken}
use Rattle.dual_simplex.proofs.ends.read_refutation.Goals as goal

pub returns-clause-are : goal.returns-clause-are
returns-clause-are c =
    let p = linear_of c.args.program.now in
    let long : length c.refuting.new.ys ≡ c.args.rows.now.rows = search rules in
    subst (λ (ys : List ℤ). AreRefuting p (table c.args.rows.now c.args.row) ys)
    (sym (taken c.args.rows.now.rows c.refuting.new.ys _ long))
    (c.refuting.ensures.are p c.requires.refuting.on_path.size)
