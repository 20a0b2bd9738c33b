use Rattle.std.proofs.Common.{SFits, rules, ◌≡◌, subst, sym, List, ℤ, length}
use Rattle.std.specs.Int.{w128}
use Rattle.std.proofs.lemmas.Int.{to_z-of_z}
use Rattle.flow_program.specs.flow_rules.LinearProgram.{linear_of}
use Rattle.flow_program.specs.flow_rules.Columns.{scale_at}
use Rattle.flow_program.specs.flow_rules.Multipliers.{AreMultipliers}
use Rattle.dual_simplex.specs.Rows.{table}
use Rattle.dual_simplex.proofs.EndLemmas.{scale_positive, taken}
use Rattle.dual_simplex.proofs.ends.read_multipliers.Goals as goal

pub multipliers-requires-clause-scale : goal.multipliers-requires-clause-scale
multipliers-requires-clause-scale c =
    scale_positive (linear_of c.args.program.now) c.args.rows.now c.requires.feasible

pub returns-clause-are : goal.returns-clause-are
returns-clause-are c =
    let p = linear_of c.args.program.now in
    let r : SFits w128 c.multipliers.result = search rules in
    let long : length c.multipliers.new.ys ≡ c.args.rows.now.rows = search rules in
    simp to_z-of_z
    (subst
    (λ (ys : List ℤ). AreMultipliers p (table c.args.rows.now (scale_at p)) c.multipliers.result
    ys) (sym (taken c.args.rows.now.rows c.multipliers.new.ys _ long))
    (c.multipliers.ensures.are p c.requires.feasible.on_path.size))
