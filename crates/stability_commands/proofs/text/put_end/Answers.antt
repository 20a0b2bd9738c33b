use Rattle.std.proofs.Common.{SFits, rules}
use Rattle.std.specs.Int.{w64}
use Rattle.std.proofs.lemmas.Int.{to_z-of_z}
use Rattle.network_commands.proofs.command_files.Cited.{two_printed, part_failed}
use Rattle.stability_commands.proofs.text.put_end.Goals as goal

pub returns-in-Ok-clause-prints : goal.returns-in-Ok-clause-prints
returns-in-Ok-clause-prints g c =
    let r : SFits w64 c.args.value = search rules in
    two_printed _ _ _ _ _ _ c.put_number.ensures.later (simp to_z-of_z at c.in-Ok.ensures.prints)
    c.put_beyond.ensures.prints

pub returns-in-Err-clause-prints : goal.returns-in-Err-clause-prints
returns-in-Err-clause-prints g c =
    let r : SFits w64 c.args.value = search rules in
    part_failed _ _ _ _ c.in-Err.fault (simp to_z-of_z at c.in-Err.ensures.prints)
