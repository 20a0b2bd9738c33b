use Rattle.std.proofs.Common.{arith}
use Rattle.stability_laws.specs.report_rules.Spot.{value_at}
use Rattle.stability.proofs.SideLemmas.{nearer_allowed}
use Rattle.stability.proofs.case.Case.narrowed.Goals as goal

pub probe_at-requires-clause-allowed : goal.probe_at-requires-clause-allowed
probe_at-requires-clause-allowed g c =
    let k = c.args.self.now in
    let h = c.requires.is_bracket in
    nearer_allowed k.spot c.args.side (value_at k.problem k.spot) c.next-next.result
    c.args.bracket.bad h.now_allowed h.allowed (omega arith)

pub returns-in-Err-clause-is_bracket : goal.returns-in-Err-clause-is_bracket
returns-in-Err-clause-is_bracket g c =
    let k = c.args.self.now in
    let h = c.requires.is_bracket in
    record {
      known = h.known;
      now_allowed = h.now_allowed;
      best_now = h.best_now;
      best_good = h.best_good;
      less = c.next-next.ensures.above;
      allowed =
          nearer_allowed k.spot c.args.side (value_at k.problem k.spot) c.next-next.result
          c.args.bracket.bad h.now_allowed h.allowed (omega arith);
      is_beyond = c.in-Err.ensures.stopped;
    }
