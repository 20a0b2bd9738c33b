-- The words that say why a network or a node of a ranked tree is refused.
use Rattle.std.specs.Prelude.{ℕ, List, ◌∷◌, ◌++◌, codes, decimal}
use Rattle.studio_rules.specs.RefusalWords.{why_word}
use Rattle.report_rules.specs.rank_rules.declared.why.RankWhy.{RankWhy}
use Rattle.report_rules.specs.rank_rules.declared.why.RankWhy.TheVariants.{Plain, Order, Contains}
use Rattle.report_rules.specs.rank_rules.declared.why.RankWhy.TheVariants.{Named, Over}

-- the word for a cause
abbrev pub rank_why_word : RankWhy → List ℕ
rank_why_word (Plain why) = why_word why
rank_why_word Order = codes "order"
rank_why_word Contains = codes "contains"
rank_why_word Named = codes "named"
rank_why_word Over = codes "over"

-- networks are counted from 1
abbrev pub network_line : ℕ → RankWhy → List ℕ
network_line number why = codes "refused network " ++ decimal number ++ 32 ∷ rank_why_word why

-- nodes are counted from 0 in preorder
abbrev pub rank_node_line : ℕ → RankWhy → List ℕ
rank_node_line node why = codes "refused node " ++ decimal node ++ 32 ∷ rank_why_word why
