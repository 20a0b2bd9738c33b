use Rattle.std.proofs.Common.{refl}
use Rattle.node_pool.proofs.Linked.{parents_kept}
use Rattle.node_pool.proofs.tree.set_last.Goals as goal

pub returns-clause-parents : goal.returns-clause-parents
returns-clause-parents c =
    parents_kept c.args.kin.now.items c.args.node _ c.index_mut.result.now refl
    c.index_mut.ensures.value
