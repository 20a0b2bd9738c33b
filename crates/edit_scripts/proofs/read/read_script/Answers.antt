use Rattle.edit_scripts.proofs.ReadIsFormed.{read_formed}
use Rattle.edit_scripts.proofs.read.read_script.Goals as goal

pub from_lines-requires : goal.from_lines-requires
from_lines-requires c =
    read_formed c.in-Some.lines.lines _ (rw c.in-Some.ensures.number at c.in_ok-walk.ensures.ok)
