use Rattle.std.proofs.Common.{arith}
use Rattle.number_sets.proofs.Cited.{last_is}
use Rattle.unit_sets.proofs.NextLemmas.{filled_lt, carried_lt, free_in_mask, next_of_mask}
use Rattle.unit_sets.proofs.unit_set.UnitSet.next_option.Goals as goal

pub returns-then-filled-clause-last : goal.returns-then-filled-clause-last
returns-then-filled-clause-last c =
    last_is 128 c.args.base c.args.free c.rises.ensures c.rises-2.ensures c.requires.apart
    c.args.self c.requires.between
    (free_in_mask c.self.inside.bits c.free.inside.bits c.self.invariant c.free.invariant
    c.args.self c.args.free c.self.view_is c.free.view_is c.if-filled.true)

pub overflow_add-result : goal.overflow_add-result
overflow_add-result c =
    let lt = filled_lt c.self.inside.bits c.free.inside.bits c.self.invariant c.free.invariant in
    let ne = c.if-filled.false in
    omega arith

pub invariant_of-result : goal.invariant_of-result
invariant_of-result c =
    let lt = filled_lt c.self.inside.bits c.free.inside.bits c.self.invariant c.free.invariant in
    let ne = c.if-filled.false in
    carried_lt c.self.inside.bits c.base.inside.bits c.free.inside.bits c.base.invariant
    c.free.invariant (omega arith)

pub returns-clause-next : goal.returns-clause-next
returns-clause-next c =
    let lt = filled_lt c.self.inside.bits c.free.inside.bits c.self.invariant c.free.invariant in
    let ne = c.if-filled.false in
    next_of_mask c.self.inside.bits c.base.inside.bits c.free.inside.bits c.self.invariant
    c.base.invariant c.free.invariant c.args.self c.args.base c.args.free c.self.view_is
    c.base.view_is c.free.view_is (omega arith) c.requires.apart c.requires.between
