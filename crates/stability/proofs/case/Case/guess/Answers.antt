use Rattle.std.proofs.Common.{arith}
use Rattle.stability_laws.specs.report_rules.Spot.{value_at}
use Rattle.stability.proofs.SideLemmas.{nearer_allowed}
use Rattle.stability.proofs.case.Case.guess.Goals as goal

pub meeting-requires-clause-allowed : goal.meeting-requires-clause-allowed
meeting-requires-clause-allowed g c =
    let k = c.args.self.now in
    let h = c.requires.is_bracket in
    nearer_allowed k.spot c.args.side (value_at k.problem k.spot) 1 c.args.bracket.now.bad
    h.now_allowed h.allowed (omega arith)
