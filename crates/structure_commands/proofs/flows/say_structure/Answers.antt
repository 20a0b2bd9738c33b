use Rattle.std.proofs.Common.{subst}
use Rattle.text_lines.specs.problem_rules.Problem.{Problem}
use Rattle.command_files.specs.studio_rules.Flows.{FlowsSay}
use Rattle.command_files.specs.studio_rules.Ending.{Ends, Tells}
use Rattle.structure_commands.proofs.flows.say_structure.Goals as goal

pub returns-in-Ok : goal.returns-in-Ok
returns-in-Ok g c =
    subst
    (λ (p : Problem). Ends (Tells (FlowsSay p c.args.set)) c.args.out.now c.say_answer.new.out
    c.say_answer.result) c.problem.ensures.same c.say_answer.ensures
