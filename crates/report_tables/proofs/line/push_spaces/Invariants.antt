use Rattle.std.proofs.Common.{◌≡◌, ◌++◌, string_bytes}
use Rattle.report_amounts.specs.report_rules.Aligned.{spaces}
use Rattle.report_tables.proofs.line.push_spaces.Given as goal

-- the text so far and the spaces that are left give the whole text
abbrev pub invariant-spaces : goal.invariant-spaces
invariant-spaces l = string_bytes l.text ++ spaces l.left ≡ string_bytes l.fn.text ++ spaces l.count

abbrev pub decreases-spaces : goal.decreases-spaces
decreases-spaces l = l.left
