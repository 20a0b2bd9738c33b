use Rattle.std.proofs.Common.{◌≡◌, ◌+◌, cond, drop}
use Rattle.std.specs.Prelude.{nat_le}
use Rattle.std.specs.List.{count_by}
use Rattle.text_lines.specs.number_sets.Sets.{has}
use Rattle.structure_commands.proofs.exclusion.is_alone.Given as goal

-- at most one with those that are left
abbrev pub invariant-counting : goal.invariant-counting
invariant-counting l =
    nat_le (cond l.found 1 0 + count_by (has l.units) (drop l.u-index l.exclusion.units)) 1
    ≡ nat_le (count_by (has l.units) l.exclusion.units) 1
