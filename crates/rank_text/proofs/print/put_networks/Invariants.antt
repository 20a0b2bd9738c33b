use Rattle.std.proofs.Common.{◌≤◌, drop, flat_map}
use Rattle.tree_text_laws.specs.problem_rules.Each.{Each}
use Rattle.tree_text_laws.specs.tree_text_rules.Spelling.{network_lines}
use Rattle.tree_text.proofs.Cited.{ArePrinted}
use Rattle.rank_check.specs.Known.{KnowsNetwork}
use Rattle.rank_text.proofs.print.put_networks.Given as goal

abbrev pub invariant-printing : goal.invariant-printing
invariant-printing g l = record {
  known : Each (KnowsNetwork l.problem) (drop l.network-index l.networks);
  printed : ArePrinted (flat_map (network_lines l.problem) l.networks)
      (flat_map (network_lines l.problem) (drop l.network-index l.networks))
      (g.K.Sink.state l.fn.out) (g.K.Sink.state l.out);
  later : (g.K.Sink.state l.fn.out).faults ≤ (g.K.Sink.state l.out).faults;
}
