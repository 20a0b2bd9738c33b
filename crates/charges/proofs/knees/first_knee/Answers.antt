use Rattle.flow_program.specs.Entry.{entry}
use Rattle.charges.proofs.KneeLemmas.{first_ends}
use Rattle.charges.proofs.knees.first_knee.Goals as goal

pub returns-clause-first : goal.returns-clause-first
returns-clause-first c =
    first_ends (entry c.args.at.now) c.args.set c.in_ok-best.best c.take_least.new.self
    c.into_iter-j-iterator.result c.loop-j.j-iterator c.loop-j.best
    c.in_ok-best.ensures.taken c.into_iter-j-iterator.ensures.into_iter_gives.0
    c.in-None.ensures.steps.0 c.loop-j.invariant.first
