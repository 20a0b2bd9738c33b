use Rattle.std.proofs.Common.{◌≡◌, Ok}
use Rattle.tree_text_rules.specs.integer_laws.Range.{AllInRange}
use Rattle.tree_text_rules.specs.Token as rules
use Rattle.tree_reading.specs.Joined.{joined}
use Rattle.tree_reading.specs.View.{tokens_in, size_in}
use Rattle.tree_reading.proofs.list.numbers_of.Given as goal

-- what was read, and what the rest gives
abbrev pub invariant-reading : goal.invariant-reading
invariant-reading l = record {
  whole : joined (Ok l.numbers.items) (rules.each rules.number_of (tokens_in l.rest))
      ≡ rules.each rules.number_of (tokens_in l.fn.fields);
  range : AllInRange l.numbers.items;
}

abbrev pub decreases-reading : goal.decreases-reading
decreases-reading l = size_in l.rest
