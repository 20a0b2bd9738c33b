use Rattle.std.proofs.Common.{subst, ℕ, List}
use Rattle.text_lines.specs.problem_rules.Problem.{Problem}
use Rattle.command_files.specs.tree_reading.Said.{said_by}
use Rattle.command_files.specs.studio_rules.Check.{CheckWork}
use Rattle.command_files.specs.studio_rules.Ending.{Ends, Tells}
use Rattle.structure_commands.proofs.check.say_checked.Goals as goal

pub returns : goal.returns
returns g c =
    subst
    (λ (p : Problem). Ends (Tells (CheckWork p (said_by c.args.text.now)))
    c.args.out.now c.say_judged.new.out c.say_judged.result) c.of-site.ensures
    c.say_judged.ensures
