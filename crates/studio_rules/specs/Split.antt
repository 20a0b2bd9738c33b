-- `split FILE TREE`: the open leaves, in preorder, of a branch tree that proves its claim but for
-- them. Or else the first line of the claim, or the first node, that fails, with its cause.
use Rattle.std.specs.Prelude.{◌≡◌, ◌⊎◌, ◌++◌, ℕ, Bool, true, List, [], ◌∷◌, codes, decimal, map}
use Rattle.report_rules.specs.number_sets.Sets.{listed}
use Rattle.report_rules.specs.problem_rules.Problem.{Problem}
use Rattle.report_rules.specs.pns_rules.Shape.{shape_of}
use Rattle.report_rules.specs.tree_rules.declared.why.Why.{Why}
use Rattle.report_rules.specs.tree_rules.Claim.{Claim, ClaimPasses, ClaimFails}
use Rattle.report_rules.specs.tree_rules.Accepted.{Tree, first_node, IsPartial, NodeIsFault}
use Rattle.report_rules.specs.tree_text_rules.OpenLeaves.{OpenAt, open_leaves}
use Rattle.report_rules.specs.pns_rules.Tokens.{token_of}
use Rattle.studio_rules.specs.RefusalWords.{claim_line, node_line}
use Rattle.studio_rules.specs.declared.status.Status.{Status}
use Rattle.studio_rules.specs.declared.status.Status.TheVariants.{Done, BadClaim}

-- the token of the units in the set; a problem has at most 128
abbrev pub token_in : (ℕ → Bool) → List ℕ
token_in s = token_of (listed 128 s)

-- the number of the leaf, and the units that are taken in and those that are left out at its node
abbrev pub part_line : OpenAt → List ℕ
part_line l = codes "part " ++ decimal l.number ++ 32 ∷ token_in l.node.inside ++ 32
    ∷ token_in l.node.outside

abbrev pub split_lines : List OpenAt → List (List ℕ)
split_lines leaves = map part_line leaves ++ codes "end" ∷ []

-- a listing of open leaves
abbrev pub LeavesSay : List OpenAt → Status → List (List ℕ) → Type 0
LeavesSay leaves status lines = (status ≡ Done) × (lines ≡ split_lines leaves)

-- the claim is judged first, then the nodes in preorder; leaves may be open, and nothing claimed
abbrev pub IsRefused : Problem → Claim → Tree → List (List ℕ) → Type 0
IsRefused p claim tree lines =
    ((why : Why) × ClaimFails true p claim why × (lines ≡ claim_line why ∷ []))
    ⊎ (ClaimPasses true p claim
    × ((node : ℕ) × (why : Why) × NodeIsFault true p first_node claim tree node why
    × (lines ≡ node_line node why ∷ [])))

abbrev pub SplitWork : Problem → Claim → Tree → Status → List (List ℕ) → Type 0
SplitWork p claim tree Done lines = IsPartial p first_node claim tree
    × (lines ≡ split_lines (open_leaves (shape_of p) (first_node ∷ []) tree 0))
SplitWork p claim tree BadClaim lines = IsRefused p claim tree lines
SplitWork p claim tree status lines = ⊥
