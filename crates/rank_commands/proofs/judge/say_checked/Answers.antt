use Rattle.std.proofs.Common.{subst, ℕ, List}
use Rattle.rank_text.specs.problem_rules.Problem.{Problem}
use Rattle.searches.specs.studio_rules.Rankcheck.{RankcheckWork}
use Rattle.searches.specs.studio_rules.Ending.{Ends, Tells}
use Rattle.rank_commands.proofs.judge.say_checked.Goals as goal

pub returns : goal.returns
returns g c =
    subst
    (λ (p : Problem). Ends (Tells (RankcheckWork p c.args.text.now)) c.args.out.now
    c.say_judged.new.out c.say_judged.result) c.of-site.ensures c.say_judged.ensures
