use Rattle.report_rules.specs.JsonRanked.{idle_json}
use Rattle.json_text.proofs.Values.{next_values}
use Rattle.json_text.proofs.ranking.idle_values.Goals as goal

pub loop-u-preserved : goal.loop-u-preserved
loop-u-preserved c =
    next_values (idle_json c.args.problem.now c.args.network.now) c.loop-u.u-iterator
    c.next.new.self c.in-Some.u c.loop-u.values.items c.push_if_idle.new.values.items _
    c.in-Some.ensures.steps c.in_ok-push_if_idle.ensures c.loop-u.invariant
