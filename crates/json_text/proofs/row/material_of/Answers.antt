use Rattle.std.proofs.Common.{sym}
use Rattle.tree_reading.proofs.Cited.{no_material}
use Rattle.json_text.proofs.row.material_of.Goals as goal

pub returns-in-Err : goal.returns-in-Err
returns-in-Err c =
    sym (no_material c.args.problem.now c.args.name.now c.is_valid.ensures.well_formed
    c.in-Err.ensures.cases.0)
