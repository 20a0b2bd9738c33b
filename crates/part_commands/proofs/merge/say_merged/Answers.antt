use Rattle.std.proofs.Common.{subst, sym, ℕ, List, map, string_bytes}
use Rattle.network_commands.specs.problem_rules.Problem.{Problem}
use Rattle.network_commands.specs.branch_tree.View.{claim_of}
use Rattle.network_commands.specs.studio_rules.Merge.{MergeSays}
use Rattle.network_commands.specs.studio_rules.Ending.{Ends, Tells}
use Rattle.network_commands.specs.studio_rules.declared.status.Status.TheVariants.{Memory}
use Rattle.network_commands.proofs.command_files.Cited.{Ends-map, Tells-memory, only_in}
use Rattle.part_commands.proofs.merge.say_merged.Goals as goal

pub returns-in_default : goal.returns-in_default
returns-in_default g c =
    let says =
    MergeSays (map string_bytes c.args.names.now) c.args.problem.now (claim_of c.args.claim)
    c.args.tree c.args.parts.now in
    Ends-map _ _ c.args.out.now _ _ (only_in (Tells says) Memory _ (Tells-memory says))
    c.say_memory.ensures

pub returns : goal.returns
returns g c =
    subst
    (λ (p : Problem). Ends
    (Tells
    (MergeSays (map string_bytes c.args.names.now) p (claim_of c.args.claim) c.args.tree
    c.args.parts.now)) c.args.out.now c.say_put_back.new.out c.say_put_back.result)
    c.of-site.ensures c.say_put_back.ensures
