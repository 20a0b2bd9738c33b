-- What is said of one line.
use Rattle.std.specs.Prelude.{◌≡◌, Option}
use Rattle.tree_text_rules.specs.problem_rules.Problem.{Problem}
use Rattle.tree_text_rules.specs.pns_rules.Shape.{shape_of}
use Rattle.charges.specs.pgraph.View.{node_of}
use Rattle.tree_text_rules.specs.tree_rules.Claim.{CostOver}
use Rattle.tree_text_rules.specs.tree_rules.Head as rules
use Rattle.tree_text_rules.specs.tree_rules.Head.{HeadLine, after_line, LinePasses}
use Rattle.tree_text_rules.specs.tree_rules.HeadFaults.{LineFails}
use Rattle.tree_text_rules.specs.tree_rules.declared.line_why.LineWhy.{LineWhy}
use Rattle.cert_check.specs.Known.{KnowsInside}
use Rattle.cert_check.specs.View.{known_of}
use Rattle.cert_check.specs.declared.known.Known.{Known}

-- the line passes, and this is known after it
pub record IsJudged (p : Problem) (claimed : Option CostOver) (k : rules.Known) (line : HeadLine)
    (next : Known) : Type 0 where
  pub passes : LinePasses p claimed k line
  pub after : known_of next ≡ after_line p k line
  pub inside : KnowsInside (shape_of p) (node_of next.node)

-- the line fails for the cause
abbrev pub Fails : Problem → Option CostOver → rules.Known → HeadLine → LineWhy → Type 0
Fails p claimed k line why = LineFails p claimed k line why
