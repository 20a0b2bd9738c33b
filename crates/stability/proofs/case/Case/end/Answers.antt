use Rattle.stability.specs.declared.side.Beyond.TheVariants.{Cheaper, Wanting}
use Rattle.stability_laws.specs.report_rules.Spot.{value_at}
use Rattle.stability.proofs.SideLemmas.{step_allowed}
use Rattle.stability.proofs.RangeLemmas.{end_here, end_far, first_bracket}
use Rattle.stability.proofs.case.Case.end.Goals as goal

pub returns-then-room-eq0-clause-end : goal.returns-then-room-eq0-clause-end
returns-then-room-eq0-clause-end g c =
    end_here c.args.self.now c.args.side c.room-room.result c.if-room-eq0.true
    c.is_known.ensures.allowed c.room-room.ensures c.requires.best

pub rises_least-requires-clause-allowed : goal.rises_least-requires-clause-allowed
rises_least-requires-clause-allowed g c =
    let k = c.args.self.now in
    step_allowed k.spot c.args.side (value_at k.problem k.spot) c.room-room.result
    c.if-room-eq0.false c.is_known.ensures.allowed c.room-room.ensures

pub returns-then-rises_least-clause-end : goal.returns-then-rises_least-clause-end
returns-then-rises_least-clause-end g c =
    end_far c.best_away.ensures.away c.args.self.now c.is_known.ensures.valid
    c.is_known.ensures.feasible c.is_known.ensures.known c.args.side c.room-room.result
    c.is_known.ensures.allowed
    c.room-room.ensures c.requires.best (c.rises_least.ensures.least c.if-rises_least.true)

pub narrow-requires-clause-is_bracket : goal.narrow-requires-clause-is_bracket
narrow-requires-clause-is_bracket g c =
    first_bracket c.args.self.now c.args.side c.room-room.result (Cheaper c.in-Ok-Some.network)
    c.if-room-eq0.false c.is_known.ensures.known c.is_known.ensures.allowed c.room-room.ensures
    c.requires.best
    (rw c.in-Ok-Some.field-0-is at c.in-Ok-Some.ensures.probed)

pub narrow-requires-in-Err-clause-is_bracket : goal.narrow-requires-in-Err-clause-is_bracket
narrow-requires-in-Err-clause-is_bracket g c =
    first_bracket c.args.self.now c.args.side c.room-room.result (Wanting c.in-Err.fault)
    c.if-room-eq0.false c.is_known.ensures.known c.is_known.ensures.allowed c.room-room.ensures
    c.requires.best c.in-Err.ensures.stopped
