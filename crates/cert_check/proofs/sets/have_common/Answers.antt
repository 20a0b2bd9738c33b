use Rattle.cert_check.proofs.SetLemmas.{common_is}
use Rattle.cert_check.proofs.sets.have_common.Goals as goal

pub returns : goal.returns
returns c =
    common_is c.args.a c.args.b c.meet.result c.is_empty.result c.meet.ensures c.is_empty.ensures
