use Rattle.tree_reading.specs.View.{tokens_in}
use Rattle.tree_reading.proofs.NamedSets.{some_read, some_known}
use Rattle.tree_reading.proofs.Scales.{some_in}
use Rattle.tree_reading.proofs.sets.some_units.Goals as goal

pub returns-clause-value : goal.returns-clause-value
returns-clause-value c =
    some_read c.args.problem.now (tokens_in c.args.fields)
    (some_in c.args.fields c.if-is_none.ensures) c.units_of.result c.units_of.ensures.ok
    c.units_of.ensures.fault

pub returns-clause-some : goal.returns-clause-some
returns-clause-some c =
    some_known c.args.problem.now (tokens_in c.args.fields)
    (some_in c.args.fields c.if-is_none.ensures) c.units_of.result c.units_of.ensures.ok
