use Rattle.std.proofs.Common.{◌≡◌, ◌++◌, drop, map}
use Rattle.report_amounts.specs.report_rules.Report.{number_cell}
use Rattle.report_tables.proofs.cells.push_numbers.Given as goal

-- the row so far and the numbers that are left give the whole row
abbrev pub invariant-numbers : goal.invariant-numbers
invariant-numbers l = l.row ++ map number_cell (drop l.number-index
    l.numbers) ≡ l.fn.row ++ map number_cell l.numbers
