use Rattle.pgraph.specs.Tables.{shape}
use Rattle.structure_list.proofs.StartLemmas.{next_goes, head_some, goes_after}
use Rattle.structure_list.proofs.list.StructureList.next.Goals as goal

pub returns-clause-head : goal.returns-clause-head
returns-clause-head g c =
    next_goes c.self.inside.graph.now c.self.inside.last c.args.self.now c.in-Some.set
    c.self.view_is
    (head_some (shape c.self.inside.graph.now) c.self.inside.stack c.self.inside.last
    c.self.invariant c.in-Some.set c.next_structure.new.stack c.rises.ensures.rising
    c.in-Some.ensures.finds)

pub invariant_of-self-2 : goal.invariant_of-self-2
invariant_of-self-2 g c =
    goes_after (shape c.self.inside.graph.now) c.self.inside.stack c.self.inside.last
    c.self.invariant c.in-Some.set c.next_structure.new.stack c.in-Some.ensures.finds
    c.in-Some.ensures.stack
