use Rattle.report_rules.specs.flow_rules.Net.{net_of}
use Rattle.report_rules.specs.tree_rules.Claim.{size_in}
use Rattle.report_amounts.proofs.FlowLemmas.{IsMadeSoFar}
use Rattle.report_amounts.proofs.flows.flow_of.Given as goal

abbrev pub invariant-loop-u : goal.invariant-loop-u
invariant-loop-u l = IsMadeSoFar (net_of l.fn.problem) (size_in
    l.fn.network) l.fn.j l.fn.network.units l.made l.u-iterator
