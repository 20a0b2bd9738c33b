use Rattle.node_pool.proofs.Marks.{one_taken}
use Rattle.node_pool.proofs.leaves.Leaves.take.Goals as goal

pub invariant_of-self : goal.invariant_of-self
invariant_of-self c =
    let s = c.self.inside in
    rw c.take.ensures
    (rw c.mark.ensures (one_taken s.lists s.room s.marks.items c.args.leaf c.self.invariant))
