use Rattle.std.proofs.Common.{length}
use Rattle.std.specs.Prelude.{vec_capacity}
use Rattle.node_pool.proofs.Sound.{sound_shut}
use Rattle.node_pool.proofs.pool.Pool.shut.Goals as goal

pub invariant_of-self : goal.invariant_of-self
invariant_of-self g c =
    let s = c.self.inside in
    rw c.take.ensures
    (sound_shut s.tree s.values.items (vec_capacity s.values) (length s.payloads.items)
    (vec_capacity s.payloads) s.leaves c.args.id c.self.invariant)
