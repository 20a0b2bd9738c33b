use Rattle.charges.specs.pgraph.Tables.{shape}
use Rattle.charges.specs.pgraph.View.{node_of}
use Rattle.charges.specs.pgraph.CoversView.{covers_of}
use Rattle.cert_check.proofs.CoverLemmas.{ArePassed}
use Rattle.cert_check.proofs.charge.all_pass.Given as goal

abbrev pub invariant-covers : goal.invariant-covers
invariant-covers l = ArePassed (shape l.graph) (node_of l.node) (covers_of l.covers) l.i
