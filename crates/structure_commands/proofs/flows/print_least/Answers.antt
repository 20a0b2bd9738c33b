use Rattle.command_files.proofs.Cited.{two_printed, part_failed}
use Rattle.structure_commands.proofs.flows.print_least.Goals as goal

pub returns-in-Ok-clause-prints : goal.returns-in-Ok-clause-prints
returns-in-Ok-clause-prints g c =
    two_printed _ _ _ _ _ _ c.in-Ok.ensures.later c.in-Ok.ensures.prints c.print_end.ensures.prints

pub returns-in-Err-clause-prints : goal.returns-in-Err-clause-prints
returns-in-Err-clause-prints g c = part_failed _ _ _ _ c.in-Err.fault c.in-Err.ensures.prints
