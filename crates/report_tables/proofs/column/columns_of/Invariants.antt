use Rattle.std.proofs.Common.{◌≡◌, ◌++◌, drop}
use Rattle.report_amounts.specs.report_rules.Aligned.{columns_from}
use Rattle.report_tables.proofs.column.columns_of.Given as goal

-- the columns so far and those that are left give all of them
abbrev pub invariant-columns : goal.invariant-columns
invariant-columns l = l.columns.items ++ columns_from l.k (drop l.k
    l.sorts) l.heading l.rows ≡ columns_from 0 l.sorts l.heading l.rows
