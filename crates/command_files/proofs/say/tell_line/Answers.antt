use Rattle.command_files.proofs.Put.{no_seconds}
use Rattle.command_files.proofs.say.tell_line.Goals as goal

pub tell-requires-clause-seconds : goal.tell-requires-clause-seconds
tell-requires-clause-seconds g c = no_seconds
