use Rattle.tree_text_laws.proofs.Pieces.{text_back}
use Rattle.tree_text_laws.proofs.line_laws.lines_have_one_text.Goals as goal

pub returns : goal.returns
returns c = text_back
