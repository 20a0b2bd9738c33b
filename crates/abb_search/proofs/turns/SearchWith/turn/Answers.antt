use Rattle.abb_search.proofs.StepLemmas.{searching_same}
use Rattle.abb_search.proofs.turns.SearchWith.turn.Goals as goal

pub invariant_of-self : goal.invariant_of-self
invariant_of-self g c = (
  c.in-Err.ensures.own,
  searching_same g.E.Evaluator.past c.self.inside.site c.self.inside.workspace.makers.makers
      c.take_turn.new.workspace.makers.makers c.self.inside.growing c.take_turn.new.growing
      c.self.inside.looked c.self.inside.ended
      c.self.invariant.1 c.in-Err.ensures.makers c.in-Err.ensures.same,
)
