-- The one text of a part, as lines of tokens: the two sets of units of the node from which its run
-- began, and then the lines of a tree text from its claim on.
use Rattle.std.specs.Prelude.{ℕ, List, [], ◌∷◌, codes}
use Rattle.edit_rules.specs.problem_rules.Problem.{Problem}
use Rattle.tree_rules.specs.Known.{AreUnits, KnowsClaim, KnowsTree, KnowsTail}
use Rattle.tree_rules.specs.pns_rules.Tokens.{token_of}
use Rattle.tree_text_rules.specs.Line.{Token}
use Rattle.tree_text_rules.specs.Spelling.{rest_lines, text_of}
use Rattle.tree_text_rules.specs.Part.{Part}

-- the whole first line of a text
abbrev pub file_type : Token
file_type = codes "file_type=PNS_part_v1"

-- a word and the token of a set of units
abbrev pub set_line : Token → List ℕ → List Token
set_line word units = word ∷ token_of units ∷ []

abbrev pub part_text_lines : Problem → Part → List (List Token)
part_text_lines p part =
    (file_type ∷ [])
    ∷ set_line (codes "inside") part.inside
    ∷ set_line (codes "outside") part.outside
    ∷ rest_lines p part.claim part.tree part.tail

-- the one text of a part
abbrev pub part_text : Problem → Part → List ℕ
part_text p part = text_of (part_text_lines p part)

-- a part whose numbers a problem knows
pub record KnowsPart (p : Problem) (part : Part) : Type 0 where
  pub inside : AreUnits p part.inside
  pub outside : AreUnits p part.outside
  pub claim : KnowsClaim p part.claim
  pub tree : KnowsTree p part.tree
  pub tail : KnowsTail p part.tail
