use Rattle.std.proofs.Common.{subst, ℕ, List}
use Rattle.network_commands.specs.problem_rules.Problem.{Problem}
use Rattle.network_commands.specs.branch_tree.View.{claim_of}
use Rattle.network_commands.specs.studio_rules.Split.{SplitWork}
use Rattle.network_commands.specs.studio_rules.Ending.{Ends, Tells}
use Rattle.part_commands.proofs.split.say_split.Goals as goal

pub returns : goal.returns
returns g c =
    subst
    (λ (p : Problem). Ends (Tells (SplitWork p (claim_of c.args.claim.now) c.args.tree.now))
    c.args.out.now c.say_open.new.out c.say_open.result) c.of-site.ensures c.say_open.ensures
