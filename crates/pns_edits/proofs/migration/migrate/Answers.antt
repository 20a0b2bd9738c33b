use Rattle.edit_scripts.specs.View.{edit_of}
use Rattle.std.proofs.Common.{pos}
use Rattle.pns_edits.proofs.MigrationLemmas.{few_edits}
use Rattle.pns_edits.proofs.migration.migrate.Goals as goal

pub of-requires-clause-few : goal.of-requires-clause-few
of-requires-clause-few c =
    few_edits edit_of (pos c.args.years) c.args.problem.now c.in_ok-edits.edits.items
    c.is_valid.ensures.well_formed.few_units c.in_ok-edits.ensures
