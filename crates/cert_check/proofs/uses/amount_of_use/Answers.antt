use Rattle.std.proofs.Common.{◌<◌}
use Rattle.cert_check.proofs.UseLemmas.{if_some}
use Rattle.cert_check.proofs.uses.amount_of_use.Goals as goal

pub used_of-requires : goal.used_of-requires
used_of-requires c = c.is_inner.ensures.small c.if-not-is_inner.false

pub returns-clause-small : goal.returns-clause-small
returns-clause-small c =
    if_some c.size_within.result (c.args.demand.of < 256)
    (c.is_inner.ensures.small c.if-not-is_inner.false)
