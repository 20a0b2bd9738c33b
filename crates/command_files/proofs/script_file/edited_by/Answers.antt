use Rattle.std.proofs.Common.{arith}
use Rattle.command_files.proofs.EditCounts.{few_edits}
use Rattle.command_files.proofs.script_file.edited_by.Goals as goal

pub apply-requires : goal.apply-requires
apply-requires c =
    let few = few_edits c.args.text.now c.in-Ok.script c.in-Ok.ensures.read in
    let short = c.requires in
    omega (arith, few, short)
