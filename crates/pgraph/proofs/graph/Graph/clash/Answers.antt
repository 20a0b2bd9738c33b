use Rattle.std.proofs.Common.{arith}
use Rattle.pgraph.proofs.graph.Graph.clash.Goals as goal

pub returns : goal.returns
returns c = λ k clash.
    let known = clash.known in
    let count = c.exclusion_count-k-end.ensures in
    let end = c.exclusions-test.false in
    c.exclusions.invariant k (omega arith) clash
