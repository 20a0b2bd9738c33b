use Rattle.std.proofs.Common.{ℕ, ◌<◌}
use Rattle.charges.specs.pgraph.View.{node_of}
use Rattle.tree_text_rules.specs.flow_rules.Net.{net_of}
use Rattle.charges.specs.Known.{facts_of}
use Rattle.cert_check.specs.Trims.{Bears}
use Rattle.cert_check.proofs.trim.all_bear.Given as goal

abbrev pub invariant-materials : goal.invariant-materials
invariant-materials l = (j : ℕ) → j < l.j
    → Bears (net_of l.fn.site) (node_of l.fn.known.node) (facts_of l.fn.known.facts) l.fn.u j
