use Rattle.cert_check.proofs.EitherLemmas.{goes_in}
use Rattle.cert_check.proofs.either.with_unit.Goals as goal

pub returns : goal.returns
returns c = λ g. goes_in g c.args.node.now c.args.u c.with.result c.with.ensures
