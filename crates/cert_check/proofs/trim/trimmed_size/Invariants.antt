use Rattle.std.proofs.Common.{◌≡◌, pos}
use Rattle.std.specs.Prelude.{int_lt}
use Rattle.charges.specs.pgraph.View.{node_of}
use Rattle.tree_text_rules.specs.flow_rules.Net.{net_of}
use Rattle.charges.specs.Known.{facts_of}
use Rattle.tree_text_rules.specs.tree_rules.Trim.{enough_of}
use Rattle.cert_check.proofs.TrimLemmas.{below}
use Rattle.cert_check.proofs.trim.trimmed_size.Given as goal

-- the greatest of the least size and of enough of each output that was met
abbrev pub invariant-outputs : goal.invariant-outputs
invariant-outputs l =
    l.size
    ≡ below
    (enough_of (net_of l.fn.site) (node_of l.fn.known.node) (facts_of l.fn.known.facts) l.fn.u)
    (λ j. int_lt (pos 0) ((net_of l.fn.site).rate j l.fn.u)) ((net_of l.fn.site).least l.fn.u) l.j
