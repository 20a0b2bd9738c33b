-- The bounds that clash if it is proved that no network meets them. A refuted leaf of a tree has a
-- multiplier for each material of its node: weighed by them, its bounds leave no sizes for its
-- units. The leaf uses a bound of a material exactly if its multiplier is not 0, and a bound of a
-- unit exactly if what the multipliers pay for its size is not 0. That a size is 0 at least is no
-- bound of the problem.
use Rattle.std.specs.Prelude.{ℕ, ◌+◌, ◌&&◌, Bool, not, List, [], ◌∷◌, ◌++◌, length, take, flat_map}
use Rattle.std.specs.Prelude.{ℤ, pos, int_lt, codes, decimal, if◌then◌else◌}
use Rattle.std.specs.Ordering.{int_eq}
use Rattle.rank_rules.specs.number_sets.Sets.{listed}
use Rattle.rank_rules.specs.problem_rules.Problem.{Problem, unit_at, material_at, is_raw_material}
use Rattle.rank_rules.specs.pns_rules.Shape.{Shape, shape_of}
use Rattle.rank_rules.specs.pns_rules.Nodes.{Node}
use Rattle.rank_rules.specs.flow_rules.Net.{net_of, million}
use Rattle.rank_rules.specs.flow_rules.Relaxed.{units, rows, lower_at, unit_low, reduced_cost}
use Rattle.rank_rules.specs.tree_rules.Tree.{End, leaf, after_all, below}
use Rattle.rank_rules.specs.tree_rules.Leaf.{Leaf, refuted, multiplier}
use Rattle.rank_rules.specs.tree_rules.Accepted.{Tree, first_node}
use Rattle.report_rules.specs.Number.{number_text}
use Rattle.report_rules.specs.Amounts.{quotient}
use Rattle.report_rules.specs.Report.{names_or_none}

-- ---- refuted leaves

-- the number of a refuted leaf among all nodes in preorder, the node that its steps leave, and its
-- multipliers
pub record RefutedAt : Type 0 where
  pub number : ℕ
  pub node : Node
  pub ys : List ℤ

-- the node itself, if it ends in a refuted leaf
abbrev pub refuted_here : ℕ → Node → End Leaf → List RefutedAt
refuted_here k n (leaf (refuted ys)) = record { number = k; node = n; ys = ys } ∷ []
refuted_here k n end = []

-- of the subtrees of the nodes `ns` the refuted leaves in preorder; the first node has number k
abbrev pub refuted_leaves : Shape → List Node → Tree → ℕ → List RefutedAt
refuted_leaves g [] ts k = []
refuted_leaves g (n ∷ ns) [] k = []
refuted_leaves g (n ∷ ns) (t ∷ ts) k =
    refuted_here k (after_all g n t.steps) t.end
    ++ refuted_leaves g (below g (after_all g n t.steps) t.end ++ ns) ts (k + 1)

-- ---- bounds

-- a name after two spaces, words, and a number of millionths with six digits if it has more
abbrev pub bound_line : List ℕ → List ℕ → ℤ → List ℕ
bound_line name words z = codes "  " ++ (name ++ (words ++ number_text (quotient z million)))

-- A multiplier above 0 uses the low end of what may be left over of a material, one below 0 the
-- high end. A raw material is bought: its upper bound gives the low end.
abbrev pub uses_lower : Bool → ℤ → Bool
uses_lower raw y = if raw then int_lt y (pos 0) else int_lt (pos 0) y

-- the bound of material j that a multiplier uses; the lower one is handed in
abbrev pub material_line : Problem → ℕ → ℤ → ℤ → List ℕ
material_line p j lower y =
    if uses_lower (is_raw_material (material_at p j).kind) y
    then bound_line (material_at p j).name (codes ": at least ") lower
    else bound_line (material_at p j).name (codes ": at most ") (material_at p j).upper

abbrev pub material_here : Problem → ℕ → ℤ → ℤ → List (List ℕ)
material_here p j lower y = if int_eq y (pos 0) then [] else material_line p j lower y ∷ []

-- the materials of the node in file order; a lower bound is 0 if the material need not be there
abbrev pub material_lines : Problem → Node → (ℕ → ℤ) → List (List ℕ)
material_lines p n y =
    flat_map (λ j. material_here p j (lower_at (net_of p) n j) (y j)) (rows (net_of p) n)

-- The bound of unit i that is used. Handed in are its least size, and what is left of the cost 0 of
-- a size of 1 after the multipliers have paid for it: below 0 the upper bound is used, above 0 the
-- least size.
abbrev pub unit_here : Problem → ℕ → ℤ → ℤ → List (List ℕ)
unit_here p i low left =
    if int_lt left (pos 0)
    then bound_line (unit_at p i).name (codes ": size at most ") (unit_at p i).upper ∷ []
    else if int_lt (pos 0) left && not (int_eq low (pos 0))
    then bound_line (unit_at p i).name (codes ": size at least ") low ∷ []
    else []

-- the units of the node in file order; the least size of one that is not taken in is 0
abbrev pub unit_lines : Problem → Node → (ℕ → ℤ) → List (List ℕ)
unit_lines p n y =
    flat_map
    (λ i. unit_here p i (unit_low (net_of p) n i) (reduced_cost (net_of p) n (pos 0) y i))
    (units (net_of p) n)

-- ---- leaves

-- the names of the units that are taken in or left out
abbrev pub names_of : Problem → (ℕ → Bool) → List ℕ
names_of p s = names_or_none p (listed (length p.units) s)

abbrev pub node_line : Problem → ℕ → Node → List ℕ
node_line p k n =
    codes "node " ++ (decimal k ++ (codes "; inside:" ++ (names_of p n.inside
    ++ (codes "; outside:" ++ names_of p n.outside))))

-- an empty line, which leaf it is, and the bounds that it uses
abbrev pub leaf_lines : Problem → RefutedAt → List (List ℕ)
leaf_lines p l =
    [] ∷ node_line p l.number l.node
    ∷ (material_lines p l.node (multiplier p l.node l.ys)
    ++ unit_lines p l.node (multiplier p l.node l.ys))

-- ---- all

-- how many leaves are shown of how many
abbrev pub count_line : ℕ → ℕ → List ℕ
count_line shown all =
    codes "Bounds that clash, at " ++ (decimal shown ++ (codes " of " ++ (decimal all
    ++ codes " refuted leaves:")))

-- the first ten leaves; no line if there is none
abbrev pub leaves_lines : Problem → List RefutedAt → List (List ℕ)
leaves_lines p [] = []
leaves_lines p (l ∷ ls) =
    count_line (length (take 10 (l ∷ ls))) (length (l ∷ ls))
    ∷ flat_map (leaf_lines p) (take 10 (l ∷ ls))

abbrev pub clash_lines : Problem → Tree → List (List ℕ)
clash_lines p tree = leaves_lines p (refuted_leaves (shape_of p) (first_node ∷ []) tree 0)
