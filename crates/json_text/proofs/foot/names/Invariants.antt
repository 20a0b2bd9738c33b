use Rattle.std.proofs.Common.{◌≡◌, ◌++◌, map}
use Rattle.report_rules.specs.Facts.{unit_name}
use Rattle.json_text.proofs.foot.names.Given as goal

-- the list so far and the names that are left give the whole list
abbrev pub invariant-loop-u : goal.invariant-loop-u
invariant-loop-u l = l.names.items ++ map (unit_name l.fn.problem) l.u-iterator ≡ map (unit_name
    l.fn.problem) l.fn.units
