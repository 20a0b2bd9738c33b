use Rattle.edit_laws.proofs.ValidLemmas.{scripts_are_undone}
use Rattle.edit_laws.proofs.laws.scripts_are_undone.Goals as goal

pub returns : goal.returns
returns c = scripts_are_undone
