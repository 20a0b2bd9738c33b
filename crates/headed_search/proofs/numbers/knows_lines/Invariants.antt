use Rattle.std.proofs.Common.{drop}
use Rattle.tree_parts.specs.problem_rules.Each.{Each}
use Rattle.tree_parts.specs.tree_rules.HeadKnown.{KnowsLine}
use Rattle.tree_parts.specs.branch_tree.HeadView.{lines_of}
use Rattle.headed_search.proofs.numbers.knows_lines.Given as goal

-- if the plant knows those that are left, it knows all
abbrev pub invariant-lines : goal.invariant-lines
invariant-lines l = Each (KnowsLine l.fn.site) (drop l.i (lines_of l.fn.lines))
    → Each (KnowsLine l.fn.site) (lines_of l.fn.lines)
