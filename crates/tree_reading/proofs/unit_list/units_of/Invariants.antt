use Rattle.std.proofs.Common.{◌≡◌, List, ℕ, Ok, length}
use Rattle.tree_text_rules.specs.number_sets.Sets.{AreBelow}
use Rattle.tree_text_rules.specs.Token as rules
use Rattle.tree_reading.specs.Joined.{joined}
use Rattle.tree_reading.specs.View.{tokens_in, size_in}
use Rattle.tree_reading.proofs.RisingUnits.{IsFront}
use Rattle.tree_reading.proofs.unit_list.units_of.Given as goal

-- what was read, and what the rest gives
abbrev pub invariant-reading : goal.invariant-reading
invariant-reading l = record {
  read : List ℕ;
  whole : joined (Ok read) (rules.each (rules.unit_of l.fn.problem) (tokens_in l.rest))
      ≡ rules.each (rules.unit_of l.fn.problem) (tokens_in l.fn.fields);
  front : IsFront l.rises l.least l.units read;
  below : AreBelow (length l.fn.problem.units) read;
}

abbrev pub decreases-reading : goal.decreases-reading
decreases-reading l = size_in l.rest
