use Rattle.pns_text.proofs.Gathered.{name_more}
use Rattle.pns_text.proofs.rates_line.names_of.Goals as goal

pub loop-term-preserved : goal.loop-term-preserved
loop-term-preserved c =
    name_more c.args.terms.now c.loop-term.term-index _ c.loop-term.names.items
    c.push.new.self.items c.loop-term-test.true c.in_ok-push.ensures.items c.loop-term.invariant
