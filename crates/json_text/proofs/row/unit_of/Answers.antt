use Rattle.std.proofs.Common.{sym}
use Rattle.tree_reading.proofs.Cited.{no_unit}
use Rattle.json_text.proofs.row.unit_of.Goals as goal

pub returns-in-Err : goal.returns-in-Err
returns-in-Err c =
    sym (no_unit c.args.problem.now c.args.name.now c.is_valid.ensures.well_formed
    c.in-Err.ensures.cases.0)
