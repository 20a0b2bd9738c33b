use Rattle.std.proofs.Common.{◌∷◌, []}
use Rattle.stability.specs.tree_text_rules.Spelling.{network_lines}
use Rattle.network_commands.proofs.command_files.Cited.{two_printed, part_failed}
use Rattle.stability_commands.proofs.text.put_headed.Goals as goal

pub print_network-requires : goal.print_network-requires
print_network-requires g c =
    record {
      known =
          record { rising = c.is_sized.ensures.sized.unit_set.rising; below = c.requires };
    }

pub returns-in-Ok-clause-prints : goal.returns-in-Ok-clause-prints
returns-in-Ok-clause-prints g c =
    λ tokens is. two_printed (tokens ∷ []) (network_lines c.args.problem.now c.args.network.now) _ _
    _ _ c.put.ensures.later (c.in-Ok.ensures.prints tokens is) c.print_network.ensures.prints

pub returns-in-Err-clause-prints : goal.returns-in-Err-clause-prints
returns-in-Err-clause-prints g c =
    λ tokens is. part_failed (tokens ∷ []) (network_lines c.args.problem.now c.args.network.now) _ _
    c.in-Err.fault (c.in-Err.ensures.prints tokens is)
