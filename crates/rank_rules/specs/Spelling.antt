-- The one text of a ranking, as lines of tokens: how many networks were asked for, whether it is a
-- list of alternatives, how many are there, and three lines for each. Then come the lines of a tree
-- text that follow its claim, in which the end of a leaf that names a network is a line of its own.
use Rattle.std.specs.Prelude.{ℕ, ℤ, Bool, true, false, List, [], ◌∷◌, ◌++◌, length, map, flat_map}
use Rattle.std.specs.Prelude.{codes, decimal}
use Rattle.std.specs.Fmt.{signed_decimal}
use Rattle.tree_text_rules.specs.problem_rules.Problem.{Problem}
use Rattle.tree_text_rules.specs.tree_rules.Tree.{TreeNode, End, branch, leaf}
use Rattle.tree_text_rules.specs.Line.{Token}
use Rattle.tree_text_rules.specs.Spelling as trees
use Rattle.rank_rules.specs.declared.naming.Naming.{Naming}
use Rattle.rank_rules.specs.declared.naming.Naming.TheVariants.{Only, Within}
use Rattle.rank_rules.specs.Leaf.{Leaf, plain, named}
use Rattle.rank_rules.specs.Ranked.{Tree}
use Rattle.rank_rules.specs.Text.{Text}
use Rattle.rank_rules.specs.Marked.{marked}

-- the whole first line of a text
abbrev pub file_type : Token
file_type = codes "file_type=PNS_rank_v1"

-- the first words of lines that no tree text has
abbrev pub count_word : Token
count_word = codes "count"

abbrev pub networks_word : Token
networks_word = codes "networks"

abbrev pub distinct_word : Token
distinct_word = codes "distinct"

abbrev pub named_word : Token
named_word = codes "named"

abbrev pub over_word : Token
over_word = codes "over"

-- the first word of a line that names a network this way
abbrev pub way_word : Naming → Token
way_word Only = named_word
way_word Within = over_word

abbrev pub named_line : Naming → ℕ → ℤ → List ℤ → List Token
named_line way k d ys = way_word way ∷ decimal k ∷ signed_decimal d ∷ map signed_decimal ys

-- the line of an end, and after it those of its sets
abbrev pub end_with_sets : Problem → End Leaf → List (List Token)
end_with_sets p (branch w) = trees.end_with_sets p (branch w)
end_with_sets p (leaf (plain l)) = trees.end_with_sets p (leaf l)
end_with_sets p (leaf (named way k d ys)) = named_line way k d ys ∷ []

abbrev pub node_lines : Problem → TreeNode Leaf → List (List Token)
node_lines p t = trees.head_lines p t.option t.steps ++ end_with_sets p t.end

abbrev pub tree_lines : Problem → Tree → List (List Token)
tree_lines p tree = flat_map (node_lines p) tree

-- the tree and the tail
abbrev pub grown_lines : Problem → Text → List (List Token)
grown_lines p t = tree_lines p (marked t.marks t.tree) ++ trees.tail_lines p t.tail

-- the line of a list of alternatives
abbrev pub distinct_lines : Bool → List (List Token)
distinct_lines false = []
distinct_lines true = (distinct_word ∷ []) ∷ []

-- all that follows this line, or would
abbrev pub listed_lines : Problem → Text → List (List Token)
listed_lines p t = (networks_word ∷ decimal (length t.networks) ∷ [])
    ∷ (flat_map (trees.network_lines p) t.networks ++ grown_lines p t)

abbrev pub rank_text_lines : Problem → Text → List (List Token)
rank_text_lines p t =
    (file_type ∷ [])
    ∷ (count_word ∷ decimal t.count ∷ [])
    ∷ (distinct_lines t.distinct ++ listed_lines p t)

-- the one text of a ranking
abbrev pub rank_text : Problem → Text → List ℕ
rank_text p t = trees.text_of (rank_text_lines p t)
