use Rattle.cert_check.proofs.EitherLemmas.{goes_out}
use Rattle.cert_check.proofs.either.without_unit.Goals as goal

pub returns : goal.returns
returns c = λ g. goes_out g c.args.node.now c.args.u c.with.result c.with.ensures
