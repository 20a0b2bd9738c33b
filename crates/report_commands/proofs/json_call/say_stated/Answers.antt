use Rattle.std.proofs.Common.{subst}
use Rattle.rank_text.specs.problem_rules.Problem.{Problem}
use Rattle.rank_text.specs.tree_reading.Said.{said_by}
use Rattle.network_commands.specs.studio_rules.Json.{JsonWork}
use Rattle.network_commands.specs.studio_rules.Ending.{Ends, Tells}
use Rattle.report_commands.proofs.json_call.say_stated.Goals as goal

pub returns : goal.returns
returns g c =
    subst
    (λ (p : Problem). Ends (Tells (JsonWork p (said_by c.args.text.now)))
    c.args.out.now c.say_judged.new.out c.say_judged.result) c.of-site.ensures
    c.say_judged.ensures
