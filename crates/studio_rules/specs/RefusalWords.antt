-- The words that say why a claim, a line at the head of a tree, or a node is refused.
use Rattle.std.specs.Prelude.{ℕ, List, ◌∷◌, ◌++◌, codes, decimal}
use Rattle.report_rules.specs.tree_rules.declared.why.Why.{Why}
use Rattle.report_rules.specs.tree_rules.declared.why.Why.TheVariants.{Unknown, Axiom, Exclusion}
use Rattle.report_rules.specs.tree_rules.declared.why.Why.TheVariants.{Flows, Cost}
use Rattle.report_rules.specs.tree_rules.declared.why.Why.TheVariants.{Step, Options, Open, Dead}
use Rattle.report_rules.specs.tree_rules.declared.why.Why.TheVariants.{Clash, Refuted}
use Rattle.report_rules.specs.tree_rules.declared.why.Why.TheVariants.{Bound, Cover, Sum}
use Rattle.report_rules.specs.tree_rules.declared.line_why.LineWhy.{LineWhy}
use Rattle.report_rules.specs.tree_rules.declared.line_why.LineWhy.TheVariants as lines

-- the word for a cause
abbrev pub why_word : Why → List ℕ
why_word Unknown = codes "unknown"
why_word Axiom = codes "axiom"
why_word Exclusion = codes "exclusion"
why_word Flows = codes "flows"
why_word Cost = codes "cost"
why_word Step = codes "step"
why_word Options = codes "options"
why_word Open = codes "open"
why_word Dead = codes "dead"
why_word Clash = codes "clash"
why_word Refuted = codes "refuted"
why_word Bound = codes "bound"
why_word Cover = codes "some"
why_word Sum = codes "sum"

abbrev pub claim_line : Why → List ℕ
claim_line why = codes "refused claim " ++ why_word why

-- nodes are counted from 0 in preorder
abbrev pub node_line : ℕ → Why → List ℕ
node_line node why = codes "refused node " ++ decimal node ++ 32 ∷ why_word why

-- the word for the cause of a line at the head of a tree
abbrev pub line_word : LineWhy → List ℕ
line_word lines.Step = codes "step"
line_word lines.Fact = codes "fact"
line_word lines.Trim = codes "trim"
line_word lines.Cover = codes "some"
line_word lines.Bound = codes "bound"
line_word lines.Sum = codes "sum"

-- the lines of a head are counted from 0, without those of sets
abbrev pub head_line : ℕ → LineWhy → List ℕ
head_line number why = codes "refused head " ++ decimal number ++ 32 ∷ line_word why
