use Rattle.charges.proofs.PaidLemmas.{paid_begins, paid_past, paid_more}
use Rattle.charges.proofs.paid.paid_of.Goals as goal

pub loop-cover-init : goal.loop-cover-init
loop-cover-init c = paid_begins c.args.covers.now c.args.start

pub returns-in-Err-clause-past : goal.returns-in-Err-clause-past
returns-in-Err-clause-past c =
    paid_past c.args.covers.now c.loop-cover.paid.to c.args.start
    c.loop-cover.paid.at c.loop-cover.cover-index c.cover-item.result c.loop-cover-test.true
    c.cover-item.is c.loop-cover.invariant
    c.in-Err.past.at c.in-Err.ensures.from_start c.in-Err.ensures.past

pub loop-cover-preserved : goal.loop-cover-preserved
loop-cover-preserved c =
    paid_more c.args.covers.now c.loop-cover.paid.to c.args.start
    c.loop-cover.paid.at c.loop-cover.cover-index c.cover-item.result c.loop-cover-test.true
    c.cover-item.is c.loop-cover.invariant
    c.in-Ok.next.to c.in-Ok.next.at c.in-Ok.ensures.value c.in-Ok.ensures.in_range
    c.in-Ok.ensures.count c.in-Ok.ensures.small
