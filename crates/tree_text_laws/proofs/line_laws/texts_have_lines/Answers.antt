use Rattle.text_laws.proofs.Cited.{each-to}
use Rattle.tree_text_rules.specs.problem_rules.Each.{Each}
use Rattle.tree_text_laws.specs.Codes.{IsToken}
use Rattle.tree_text_laws.proofs.Pieces.{text_again, HasNoFeed}
use Rattle.tree_text_laws.proofs.Said.{no_feed}
use Rattle.tree_text_laws.proofs.line_laws.texts_have_lines.Goals as goal

pub returns : goal.returns
returns c = λ lines each. text_again lines (each-to (Each IsToken) HasNoFeed no_feed lines each)
