use Rattle.std.proofs.Common.{sym, subst, ℕ, List}
use Rattle.flow_rules.specs.number_sets.Sets.{has}
use Rattle.pgraph.proofs.ArcLemmas.{IsGathered, gathered_more, gathered_all, head_in_set}
use Rattle.pgraph.proofs.arcs.Arcs.materials_of.Goals as goal

pub materials-requires : goal.materials-requires
materials-requires c =
    c.requires c.in-Some.u
    (head_in_set c.args.self.now (has c.args.set) c.loop-u.u-iterator c.next.new.self
    (has c.loop-u.found) c.in-Some.u c.loop-u.invariant c.in-Some.ensures.steps)

pub loop-u-preserved : goal.loop-u-preserved
loop-u-preserved c =
    subst
    (λ (ys : List ℕ). IsGathered c.args.self.now (has c.args.set) (has c.next.new.self)
    (has ys)) (sym c.union-found.ensures)
    (gathered_more c.args.self.now c.is_arcs.ensures (has c.args.set) c.loop-u.u-iterator
    c.next.new.self c.loop-u.found c.materials.result c.in-Some.u c.loop-u.invariant
    c.in-Some.ensures.steps c.materials.ensures)

pub returns : goal.returns
returns c =
    gathered_all c.args.self.now (has c.args.set) c.loop-u.u-iterator c.loop-u.found
    c.in-None.ensures.steps.0 c.loop-u.invariant
