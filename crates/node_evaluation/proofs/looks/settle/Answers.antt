use Rattle.std.proofs.Common.{sym, true≢false}
use Rattle.node_evaluation.proofs.looks.settle.Goals as goal

pub unreachable-requires : goal.unreachable-requires
unreachable-requires g c =
    let h = rw c.in-Flows.is at c.in_ok-bound.ensures.evaluated in
    true≢false (sym h.0)

pub returns-in-Least-clause-settled : goal.returns-in-Least-clause-settled
returns-in-Least-clause-settled g c =
    let h = rw c.in-Least.is at c.in_ok-bound.ensures.evaluated in
    h.1
