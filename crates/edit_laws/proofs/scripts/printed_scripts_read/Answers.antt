use Rattle.edit_laws.proofs.EditsRead.{scripts_back}
use Rattle.edit_laws.proofs.scripts.printed_scripts_read.Goals as goal

pub returns : goal.returns
returns c = scripts_back
