use Rattle.pgraph.specs.Tables.{shape}
use Rattle.structure_list.proofs.TightLemmas.{kept_below, unit_kept, forced_at}
use Rattle.structure_list.proofs.turns.leaving.Goals as goal

pub without_unit-requires-clause-known : goal.without_unit-requires-clause-known
without_unit-requires-clause-known c =
    kept_below (shape c.args.graph.now) c.is_proper.ensures.proper c.args.turn.now c.requires.turn
    c.requires.tight c.kept_at-kept.result c.kept_at-kept.ensures

pub without_unit-requires-clause-there : goal.without_unit-requires-clause-there
without_unit-requires-clause-there c =
    unit_kept (shape c.args.graph.now) c.is_proper.ensures.proper c.args.turn.now c.requires.turn
    c.requires.tight c.kept_at-kept.result c.kept_at-kept.ensures

pub returns-in_default-clause-forced : goal.returns-in_default-clause-forced
returns-in_default-clause-forced c =
    forced_at (shape c.args.graph.now) c.is_proper.ensures.proper c.args.turn.now c.requires.turn
    c.requires.tight c.kept_at-kept.result c.kept_at-kept.ensures c.in_default.ensures.none
