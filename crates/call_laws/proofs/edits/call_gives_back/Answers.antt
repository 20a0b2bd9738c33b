use Rattle.call_laws.proofs.CalledBack.{call_gives_back}
use Rattle.call_laws.proofs.edits.call_gives_back.Goals as goal

pub returns : goal.returns
returns c = call_gives_back c.edit_is_undone.ensures
