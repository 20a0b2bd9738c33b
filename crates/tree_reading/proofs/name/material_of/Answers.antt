use Rattle.std.proofs.Common.{sym}
use Rattle.tree_text_rules.specs.problem_rules.Problem.{Material, material_names}
use Rattle.tree_reading.proofs.Naming.{named, named_below, no_material}
use Rattle.tree_reading.proofs.name.material_of.Goals as goal

pub returns-in-Ok : goal.returns-in-Ok
returns-in-Ok c =
    let value =
    named (material_names c.args.problem.now.materials) c.in-Ok.name.now c.args.token.now
    c.material_named.result c.ok_or.result c.in-Ok.ensures.cases.0 c.material_named.ensures
    c.ok_or.ensures.value in
    record {
      value = value;
      below =
          named_below (λ (x : Material). x.name) c.args.problem.now.materials _ c.ok_or.result
          value;
    }

pub returns-in-Err-clause-value : goal.returns-in-Err-clause-value
returns-in-Err-clause-value c =
    sym (no_material c.args.problem.now c.args.token.now c.is_valid.ensures.well_formed
    c.in-Err.ensures.cases.0)
