use Rattle.structure_commands.proofs.Cited as parts
use Rattle.studio.proofs.laws.parts_join.Goals as goal

pub returns : goal.returns
returns c = parts.parts_join
