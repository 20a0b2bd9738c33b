use Rattle.std.proofs.Common.{ap, ◌∙◌}
use Rattle.tree_text_rules.specs.Token as rules
use Rattle.tree_reading.specs.Joined.{so_far}
use Rattle.tree_reading.specs.View.{tokens_in}
use Rattle.tree_reading.proofs.Joining.{each_on}
use Rattle.tree_reading.proofs.column_list.columns_of.Goals as goal

pub reading-preserved : goal.reading-preserved
reading-preserved c = record {
  whole =
      each_on (rules.column_of c.args.problem.now) (so_far c.reading.fault c.reading.columns.items)
      (so_far c.in_ok-fault.fault c.take_column.new.columns.items)
      c.first_token.result.0.now (tokens_in c.first_token.result.1) (tokens_in c.reading.rest)
      (rules.each (rules.column_of c.args.problem.now) (tokens_in c.args.fields))
      c.in_ok-fault.ensures.next (ap tokens_in c.in-Some.is ∙ c.first_token.ensures.cut)
      c.reading.invariant.whole;
  known = c.in_ok-fault.ensures.known;
}
