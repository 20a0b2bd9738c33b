use Rattle.std.proofs.Common.{◌≡◌, ◌++◌, string_bytes}
use Rattle.std.specs.Prelude.{flat_map}
use Rattle.report_amounts.specs.report_rules.Report.{name_behind}
use Rattle.report_tables.proofs.foot.push_names.Given as goal

-- the text so far and the names that are left give the whole text
abbrev pub invariant-loop-u : goal.invariant-loop-u
invariant-loop-u l = string_bytes l.text ++ flat_map (name_behind
    l.fn.problem) l.u-iterator ≡ string_bytes l.fn.text
    ++ flat_map (name_behind l.fn.problem) l.fn.units
