use Rattle.stability.proofs.RangeLemmas.{cheaper_now}
use Rattle.stability.proofs.case.Case.range.Goals as goal

pub returns-in-Some-clause-refusal : goal.returns-in-Some-clause-refusal
returns-in-Some-clause-refusal g c =
    let k = c.args.self.now in
    let n = c.in-Some.cheaper in
    cheaper_now c.present_stays.ensures.same k.problem k.spot k.network c.is_known.ensures.feasible
    n (rw c.in-Some.is at c.in_ok-probe_now.ensures.probed)
