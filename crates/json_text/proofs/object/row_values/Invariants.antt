use Rattle.std.proofs.Common.{◌≡◌, ◌++◌, drop, map}
use Rattle.report_rules.specs.Object.{row_json}
use Rattle.json_text.proofs.object.row_values.Given as goal

-- the values so far and the rows that are left give the whole list
abbrev pub invariant-values : goal.invariant-values
invariant-values l =
    l.values.items ++ map (row_json l.fn.problem) (drop l.row-index l.rows)
    ≡ map (row_json l.fn.problem) l.fn.rows
