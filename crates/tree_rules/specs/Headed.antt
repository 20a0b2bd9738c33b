-- Trees with a head. The lines of the head come before the first node, and are judged from the
-- node at which nothing is decided. A leaf that charges its node charges with what is known after
-- the last line. The other leaves are judged as in a tree without a head.
--
-- The tree of a whole problem begins at the node that the head leaves. A part of a tree begins at
-- its own start, and has the head of the whole tree.
use Rattle.std.specs.Prelude.{◌≡◌, ℕ, Bool, true, false, List, [], ◌∷◌, Option}
use Rattle.flow_rules.specs.problem_rules.Problem.{Problem}
use Rattle.flow_rules.specs.pns_rules.Shape.{shape_of}
use Rattle.flow_rules.specs.pns_rules.Nodes.{Node}
use Rattle.flow_rules.specs.ChargeFacts.{Facts}
use Rattle.flow_rules.specs.ChargeLeaf.{ChargePasses}
use Rattle.flow_rules.specs.ChargeLeaf as charges
use Rattle.flow_rules.specs.declared.charge_why.ChargeWhy.{ChargeWhy}
use Rattle.tree_rules.specs.declared.why.Why.{Why}
use Rattle.tree_rules.specs.Tree.{Pass}
use Rattle.tree_rules.specs.Fault.{IsFirstFault}
use Rattle.tree_rules.specs.Claim as claims
use Rattle.tree_rules.specs.Claim.{CostOver, IsAtLeast, claimed_cost, ClaimPasses}
use Rattle.tree_rules.specs.Leaf.{Leaf, charged, IsClaimed, LeafPasses, why_of, LeafFails}
use Rattle.tree_rules.specs.Accepted.{Tree, first_node}
use Rattle.tree_rules.specs.declared.line_why.LineWhy.{LineWhy}
use Rattle.tree_rules.specs.declared.head_refusal.HeadRefusal.{HeadRefusal}
use Rattle.tree_rules.specs.declared.head_refusal.HeadRefusal.TheVariants.{Memory, Claim, Line}
use Rattle.tree_rules.specs.declared.head_refusal.HeadRefusal.TheVariants as refusals
use Rattle.tree_rules.specs.Head.{HeadLine, Known, known_first, after_lines, LinesPass}
use Rattle.tree_rules.specs.HeadFaults.{IsFirstToFail}

-- ---- what a head leaves

abbrev pub head_known : Problem → List HeadLine → Known
head_known p head = after_lines p (known_first p first_node) head

abbrev pub head_node : Problem → List HeadLine → Node
head_node p head = (head_known p head).node

abbrev pub head_facts : Problem → List HeadLine → Facts
head_facts p head = (head_known p head).facts

-- ---- leaves, if so much is known of sizes and uses

abbrev pub LeafPassesBy : Facts → Bool → Problem → Option CostOver → Node → Leaf → Type 0
LeafPassesBy f partial p claimed n (charged h) =
    ChargePasses p (IsClaimed claimed) (IsAtLeast claimed) n f h
LeafPassesBy f partial p claimed n l = LeafPasses partial p claimed n l

abbrev pub LeafFailsBy : Facts → Bool → Problem → Option CostOver → Node → Leaf → Why → Type 0
LeafFailsBy f partial p claimed n (charged h) why =
    (cause : ChargeWhy) × (why ≡ why_of cause)
    × charges.ChargeFails p (IsClaimed claimed) (IsAtLeast claimed) n f h cause
LeafFailsBy f partial p claimed n l why = LeafFails partial p claimed n l why

-- ---- trees that pass

abbrev pub HeadPasses : Problem → claims.Claim → List HeadLine → Type 0
HeadPasses p claim head = LinesPass p (claimed_cost claim) (known_first p first_node) head

-- the claim passes, and the head, and the tree passes from the start; in a partial tree leaves may
-- be open, and nothing claimed
pub record ProvesBy
    (partial : Bool) (p : Problem) (start : Node) (claim : claims.Claim) (head : List HeadLine)
    (tree : Tree) : Type 0 where
  pub claimed : ClaimPasses partial p claim
  pub lines : HeadPasses p claim head
  pub passes
      : Pass (shape_of p) (LeafPassesBy (head_facts p head) partial p (claimed_cost claim))
      (start ∷ []) tree

-- the tree proves the claim for the whole problem
abbrev pub IsAcceptedBy : Problem → claims.Claim → List HeadLine → Tree → Type 0
IsAcceptedBy p claim head tree = ProvesBy false p (head_node p head) claim head tree

-- but for its open leaves
abbrev pub IsPartialBy : Problem → claims.Claim → List HeadLine → Tree → Type 0
IsPartialBy p claim head tree = ProvesBy true p (head_node p head) claim head tree

-- ---- faults

-- line i of the head is the first that fails, for the cause
abbrev pub LineIsFault : Problem → claims.Claim → List HeadLine → ℕ → LineWhy → Type 0
LineIsFault p claim head i why =
    IsFirstToFail p (claimed_cost claim) (known_first p first_node) head i why

-- node k is the first that fails, for the cause
abbrev pub NodeIsFaultBy
    : Bool → Problem → Node → claims.Claim → List HeadLine → Tree → ℕ → Why → Type 0
NodeIsFaultBy partial p start claim head tree k why =
    IsFirstFault (shape_of p)
    (LeafPassesBy (head_facts p head) partial p (claimed_cost claim))
    (LeafFailsBy (head_facts p head) partial p (claimed_cost claim)) (start ∷ []) tree k why

-- The claim fails first for the cause. Or it passes, and line i of the head is the first that
-- fails. Or the head passes too, and node k is the first that fails. A refusal for lack of memory
-- says nothing.
abbrev pub RefusesBy
    : Bool → Problem → Node → claims.Claim → List HeadLine → Tree → HeadRefusal → Type 0
RefusesBy partial p start claim head tree Memory = Unit {0}
RefusesBy partial p start claim head tree (Claim why) = claims.ClaimFails partial p claim why
RefusesBy partial p start claim head tree (Line i why) =
    ClaimPasses partial p claim × LineIsFault p claim head i why
RefusesBy partial p start claim head tree (refusals.Node k why) =
    ClaimPasses partial p claim × HeadPasses p claim head
    × NodeIsFaultBy partial p start claim head tree k why
