use Rattle.std.proofs.Common.{[], ℕ, sym, subst}
use Rattle.rank_laws.specs.rank_rules.Networks.{IsFirstOff}
use Rattle.rank_check.proofs.NetworkLemmas.{on_next, off_here}
use Rattle.rank_check.proofs.networks.judge_networks.Goals as goal

pub returns-in-Err-clause-fails : goal.returns-in-Err-clause-fails
returns-in-Err-clause-fails c =
    subst (λ (k : ℕ). IsFirstOff c.args.distinct c.args.site.now [] c.args.networks.now k
    c.in-Err.why)
    (sym c.number.ensures)
    (off_here c.args.distinct c.args.site.now c.args.networks.now c.judging.i
    c.index-networks-i.result c.in-Err.why
    c.judging-test.true c.index-networks-i.is c.in-Err.ensures.fails c.judging.invariant)

pub judging-preserved : goal.judging-preserved
judging-preserved c =
    on_next c.args.distinct c.args.site.now c.args.networks.now c.judging.i
    c.index-networks-i.result
    c.judging-test.true c.index-networks-i.is c.in-Ok.ensures.passes c.judging.invariant
