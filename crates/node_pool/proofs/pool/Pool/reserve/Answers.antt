use Rattle.std.proofs.Common.{◌≡◌, ◌<◌, ◌+◌, ◌-◌, ◌^◌, length, refl, sym, ap, ◌∙◌, subst, arith}
use Rattle.std.specs.Prelude.{vec_capacity}
use Rattle.node_pool.specs.Pooled.{Pooled}
use Rattle.node_pool.proofs.Sound.{sound_roomy, sound_grown}
use Rattle.node_pool.proofs.pool.Pool.reserve.Goals as goal

pub invariant_of-self-in_err-reserve-2 : goal.invariant_of-self-in_err-reserve-2
invariant_of-self-in_err-reserve-2 g c =
    let s = c.self.inside in
    sound_roomy s.tree c.reserve.new.self s.values.items c.reserve-2.new.self.items
    (vec_capacity s.values) (vec_capacity c.reserve-2.new.self) (length s.payloads.items)
    (length s.payloads.items) (vec_capacity s.payloads) (vec_capacity s.payloads) s.leaves
    c.self.invariant
    c.reserve.ensures.parents c.reserve.ensures.no_less c.reserve-2.ensures.items
    c.reserve-2.ensures.capacity refl (omega arith)

pub invariant_of-self-in_err-reserve-3 : goal.invariant_of-self-in_err-reserve-3
invariant_of-self-in_err-reserve-3 g c =
    let s = c.self.inside in
    sound_roomy s.tree c.reserve.new.self s.values.items c.reserve-2.new.self.items
    (vec_capacity s.values) (vec_capacity c.reserve-2.new.self) (length s.payloads.items)
    (length c.reserve-3.new.self.items) (vec_capacity s.payloads)
    (vec_capacity c.reserve-3.new.self) s.leaves c.self.invariant
    c.reserve.ensures.parents c.reserve.ensures.no_less c.reserve-2.ensures.items
    c.reserve-2.ensures.capacity (ap length c.reserve-3.ensures.items)
    c.reserve-3.ensures.capacity

pub invariant_of-self-in_err-grow : goal.invariant_of-self-in_err-grow
invariant_of-self-in_err-grow g c =
    let s = c.self.inside in
    rw c.in_err-grow.ensures.same
    (sound_roomy s.tree c.reserve.new.self s.values.items c.reserve-2.new.self.items
    (vec_capacity s.values) (vec_capacity c.reserve-2.new.self) (length s.payloads.items)
    (length c.reserve-3.new.self.items) (vec_capacity s.payloads)
    (vec_capacity c.reserve-3.new.self) s.leaves c.self.invariant
    c.reserve.ensures.parents c.reserve.ensures.no_less c.reserve-2.ensures.items
    c.reserve-2.ensures.capacity (ap length c.reserve-3.ensures.items)
    c.reserve-3.ensures.capacity)

pub invariant_of-self-2 : goal.invariant_of-self-2
invariant_of-self-2 g c =
    let s = c.self.inside in
    let roomy =
    sound_roomy s.tree c.reserve.new.self s.values.items c.reserve-2.new.self.items
    (vec_capacity s.values) (vec_capacity c.reserve-2.new.self) (length s.payloads.items)
    (length c.reserve-3.new.self.items) (vec_capacity s.payloads)
    (vec_capacity c.reserve-3.new.self) s.leaves c.self.invariant
    c.reserve.ensures.parents c.reserve.ensures.no_less c.reserve-2.ensures.items
    c.reserve-2.ensures.capacity (ap length c.reserve-3.ensures.items)
    c.reserve-3.ensures.capacity in
    let spare : c.spare-spare.result ≡ s.leaves.room - length s.tree.parents =
    c.spare-spare.ensures ∙ sym (ap (λ (p : Pooled g.row.T.Denot). p.spare) c.self.view_is) in
    let fits : length s.tree.parents + c.args.room < 2 ^ 32 =
    subst (λ (p : Pooled g.row.T.Denot). length p.parents + c.args.room < 2 ^ 32)
    (sym c.self.view_is) c.requires in
    let few = c.self.invariant.few in
    let values = c.self.invariant.some_values in
    let payloads = c.self.invariant.some_payloads in
    let tree = c.in_ok-reserve.ensures.enough in
    let value_room = c.in_ok-reserve-2.ensures.ok in
    let payload_room = c.in_ok-reserve-3.ensures.ok in
    rw c.in_ok-grow.ensures.more
    (sound_grown c.reserve.new.self c.reserve-2.new.self.items (vec_capacity c.reserve-2.new.self)
    (length c.reserve-3.new.self.items) (vec_capacity c.reserve-3.new.self) s.leaves
    (c.args.room - c.spare-spare.result) roomy (omega arith) (omega arith) (omega arith)
    (omega arith))
