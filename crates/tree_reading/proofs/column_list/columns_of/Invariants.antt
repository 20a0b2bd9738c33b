use Rattle.std.proofs.Common.{◌≡◌}
use Rattle.tree_text_rules.specs.problem_rules.Each.{Each}
use Rattle.tree_text_rules.specs.tree_rules.Known.{KnowsColumn}
use Rattle.tree_text_rules.specs.Token as rules
use Rattle.tree_reading.specs.Joined.{so_far, joined}
use Rattle.tree_reading.specs.View.{tokens_in, size_in}
use Rattle.tree_reading.proofs.column_list.columns_of.Given as goal

-- what was read, and what the rest gives
abbrev pub invariant-reading : goal.invariant-reading
invariant-reading l = record {
  whole : joined (so_far l.fault l.columns.items)
      (rules.each (rules.column_of l.fn.problem) (tokens_in l.rest))
      ≡ rules.each (rules.column_of l.fn.problem) (tokens_in l.fn.fields);
  known : Each (KnowsColumn l.fn.problem) l.columns.items;
}

abbrev pub decreases-reading : goal.decreases-reading
decreases-reading l = size_in l.rest
