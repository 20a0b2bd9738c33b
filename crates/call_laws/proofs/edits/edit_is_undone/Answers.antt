use Rattle.call_laws.proofs.EditedBack.{edit_is_undone}
use Rattle.call_laws.proofs.edits.edit_is_undone.Goals as goal

pub returns : goal.returns
returns c =
    edit_is_undone c.canonical_is_short.ensures c.canonical_reads.ensures
    c.printed_scripts_read.ensures
    c.scripts_are_undone.ensures
