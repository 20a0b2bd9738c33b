-- `solve FILE BUDGET`: a network of least cost, or that no network has flows, with the tree that
-- proves it, which may have a head. If the search stopped before its end: the tree as far as it
-- came, without a head. The lines are those of a tree text.
use Rattle.std.specs.Prelude.{◌≡◌, ◌⊎◌, ℕ, Bool, List, Ok}
use Rattle.report_rules.specs.problem_rules.Problem.{Problem}
use Rattle.report_rules.specs.pns_rules.Shape.{shape_of}
use Rattle.report_rules.specs.pns_rules.Structure.{IsStructure, IsAllowed}
use Rattle.report_rules.specs.pns_rules.Nodes.{Node}
use Rattle.report_rules.specs.pns_rules.Ends.{IsSound, IsReduced}
use Rattle.report_rules.specs.flow_rules.declared.place.Column.{Column}
use Rattle.report_rules.specs.flow_rules.declared.place.Place.{Place}
use Rattle.report_rules.specs.flow_rules.Net.{net_of}
use Rattle.report_rules.specs.flow_rules.PastPlace.{IsPastNamed}
use Rattle.report_rules.specs.tree_rules.Claim.{Claim, Network, network, infeasible, claimed_cost}
use Rattle.report_rules.specs.tree_rules.Claim.{IsFeasible}
use Rattle.report_rules.specs.tree_rules.Leaf.{IsUntried}
use Rattle.report_rules.specs.tree_rules.Accepted.{Tree, first_node}
use Rattle.report_rules.specs.tree_rules.Stops.{IsSpent, IsPast}
use Rattle.report_rules.specs.tree_rules.Costs.{CostsEnough}
use Rattle.report_rules.specs.tree_rules.Tail.{Tail, whole, spent, past}
use Rattle.report_rules.specs.tree_rules.Head.{HeadLine}
use Rattle.report_rules.specs.tree_text_rules.Read.{Certificate, read_text, HeadedCertificate}
use Rattle.report_rules.specs.tree_text_rules.Read.{read_headed_text}
use Rattle.report_rules.specs.tree_text_rules.Spelling.{tree_text_lines, headed_text_lines}
use Rattle.report_rules.specs.tree_rules.Past.{IsPastAt}
use Rattle.report_rules.specs.tree_rules.Proved.{IsProved, IsStopped, IsBelowLimit}
use Rattle.report_rules.specs.tree_rules.HeadedProved.{IsProvedBy}
use Rattle.studio_rules.specs.Lines.{text_of}
use Rattle.studio_rules.specs.Printed.{spelled}
use Rattle.studio_rules.specs.declared.status.Status.{Status}
use Rattle.studio_rules.specs.declared.status.Status.TheVariants.{Done, Spent, Past}

-- the lines are the one text of the certificate, and read as it
pub record AreTextOf (p : Problem) (c : Certificate) (lines : List (List ℕ)) : Type 0 where
  pub text : lines ≡ spelled (tree_text_lines p c.claim c.tree c.tail)
  pub reads : read_text p (text_of lines) ≡ Ok c

-- the same of a certificate whose tree may have a head
pub record AreHeadedTextOf (p : Problem) (c : HeadedCertificate) (lines : List (List ℕ)) : Type
    0 where
  pub text : lines ≡ spelled (headed_text_lines p c.claim c.head c.tree c.tail)
  pub reads : read_headed_text p (text_of lines) ≡ Ok c

-- The tree is lean and proves the claim. A network of the claim is clash-free and has flows of its
-- cost, and no clash-free solution structure costs less, whatever its flows. If the claim has no
-- network, no clash-free solution structure has flows.
pub record Solves (p : Problem) (claim : Claim) (tree : Tree) : Type 0 where
  pub proved : IsProved p first_node claim tree
  pub feasible : (w : Network) → claim ≡ network w → IsFeasible p w
  pub least : (s : ℕ → Bool) → IsStructure (shape_of p) s → IsAllowed (shape_of p) s
      → CostsEnough p (claimed_cost claim) s

-- the same, if the head and the tree together prove the claim
pub record SolvesBy (p : Problem) (claim : Claim) (head : List HeadLine) (tree : Tree) : Type
    0 where
  pub proved : IsProvedBy p claim head tree
  pub feasible : (w : Network) → claim ≡ network w → IsFeasible p w
  pub least : (s : ℕ → Bool) → IsStructure (shape_of p) s → IsAllowed (shape_of p) s
      → CostsEnough p (claimed_cost claim) s

-- a tree proves the claim, with a head or without one
abbrev pub HasProof : Problem → Claim → Type 0
HasProof p claim =
    ((tree : Tree) × Solves p claim tree)
    ⊎ ((head : List HeadLine) × (tree : Tree) × SolvesBy p claim head tree)

-- The tree is lean and proves the claim but for its open leaves. The claim is the cheapest network
-- that was found, if any was.
pub record ProvesInPart (p : Problem) (claim : Claim) (tree : Tree) : Type 0 where
  pub stopped : IsStopped p first_node claim tree
  pub not_infeasible : claim ≡ infeasible → ⊥

-- What a claim and its tree are by the tail. The budget is spent only if it is below twice the
-- number of sets of units of the maximal structure. A number overflows only on the path of the
-- program of its node.
abbrev pub Holds : ℕ → Problem → Claim → Tree → Tail → Type 0
Holds budget p claim tree whole = Solves p claim tree
Holds budget p claim tree (spent next options) =
    ProvesInPart p claim tree
    × IsSpent p IsUntried (claimed_cost claim) first_node tree next options budget
    × IsBelowLimit p budget
Holds budget p claim tree (past node nonbasic place) =
    ProvesInPart p claim tree
    × IsPast p IsUntried first_node tree (λ n. IsPastAt p n nonbasic place) node

-- the status that a tail has
abbrev pub status_of : Tail → Status
status_of whole = Done
status_of (spent next options) = Spent
status_of (past node nonbasic place) = Past

-- a tree without a head
abbrev pub PlainWork : ℕ → Problem → Status → List (List ℕ) → Type 0
PlainWork budget p status lines =
    (c : Certificate) × (status ≡ status_of c.tail) × Holds budget p c.claim c.tree c.tail
    × AreTextOf p c lines

-- a whole tree with a head
abbrev pub HeadedWork : Problem → Status → List (List ℕ) → Type 0
HeadedWork p status lines =
    (c : HeadedCertificate) × (status ≡ Done) × (c.tail ≡ whole) × SolvesBy p c.claim c.head c.tree
    × AreHeadedTextOf p c lines

abbrev pub SolveWork : ℕ → Problem → Status → List (List ℕ) → Type 0
SolveWork budget p status lines = PlainWork budget p status lines ⊎ HeadedWork p status lines

-- Nothing stops the search of a problem before its end. The budget is at least twice the number of
-- sets of units of the maximal structure. At no sound and reduced node a number overflows on the
-- path of its program.
pub record CanFinish (budget : ℕ) (p : Problem) : Type 0 where
  pub enough : IsBelowLimit p budget → ⊥
  pub in_range : (n : Node) (nonbasic : List Column) (place : Place)
      → IsSound (shape_of p) n → IsReduced (shape_of p) n → IsPastNamed (net_of p) n nonbasic place
      → ⊥
