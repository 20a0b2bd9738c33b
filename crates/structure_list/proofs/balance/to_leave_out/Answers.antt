use Rattle.pgraph.specs.Tables.{shape}
use Rattle.structure_list.proofs.BalanceLemmas.{gone_within, gone_keeps, gone_settles}
use Rattle.structure_list.proofs.balance.to_leave_out.Goals as goal

pub returns-then-is_broken : goal.returns-then-is_broken
returns-then-is_broken c =
    let g = shape c.args.graph.now in
    let broken = c.is_broken.ensures.0 c.if-is_broken.true in
    record {
      within =
          gone_within g c.args.set c.to_blame.result c.meet.result c.args.x broken
          c.to_blame.ensures c.meet.ensures;
      keeps =
          gone_keeps g c.args.set c.to_blame.result c.meet.result c.args.x broken c.to_blame.ensures
          c.meet.ensures;
      settles =
          gone_settles g c.args.set c.to_blame.result c.meet.result c.args.x broken
          c.to_blame.ensures c.meet.ensures;
    }
