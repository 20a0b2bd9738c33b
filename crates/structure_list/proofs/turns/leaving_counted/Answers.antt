use Rattle.pgraph.specs.Tables.{shape}
use Rattle.structure_list.proofs.TightLemmas.{kept_below, unit_kept, forced_at}
use Rattle.structure_list.proofs.turns.leaving_counted.Goals as goal

pub left_out-requires-clause-known : goal.left_out-requires-clause-known
left_out-requires-clause-known g c =
    kept_below (shape c.args.graph.now) c.is_proper.ensures.proper c.args.turn.now c.requires.turn
    c.requires.tight c.kept_at-kept.result c.kept_at-kept.ensures

pub left_out-requires-clause-there : goal.left_out-requires-clause-there
left_out-requires-clause-there g c =
    unit_kept (shape c.args.graph.now) c.is_proper.ensures.proper c.args.turn.now c.requires.turn
    c.requires.tight c.kept_at-kept.result c.kept_at-kept.ensures

pub returns-in_default-clause-forced : goal.returns-in_default-clause-forced
returns-in_default-clause-forced g c =
    forced_at (shape c.args.graph.now) c.is_proper.ensures.proper c.args.turn.now c.requires.turn
    c.requires.tight c.kept_at-kept.result c.kept_at-kept.ensures c.in_default.ensures.none
