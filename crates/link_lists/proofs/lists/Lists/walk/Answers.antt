use Rattle.link_lists.proofs.Walks.{left_first, way_first}
use Rattle.link_lists.proofs.lists.Lists.walk.Goals as goal

pub invariant_of-result : goal.invariant_of-result
invariant_of-result c = way_first c.args.self.now c.args.list c.first.result c.first.ensures

pub returns : goal.returns
returns c =
    left_first c.args.self.now c.args.list c.first.result c.are_apart.ensures.apart c.first.ensures
