use Rattle.edit_laws.proofs.ValidLemmas.{edit_keeps_valid}
use Rattle.edit_laws.proofs.laws.edits_keep_valid.Goals as goal

pub returns : goal.returns
returns c = edit_keeps_valid
