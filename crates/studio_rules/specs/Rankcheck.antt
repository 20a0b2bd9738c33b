-- `rankcheck FILE RANK`: whether the tree of a ranking, or of a list of alternatives, proves it, or
-- else the first network, or the first node, that fails, with its cause.
use Rattle.std.specs.Prelude.{◌≡◌, ◌⊎◌, ◌≤◌, ◌<◌, ℕ, ℤ, Bool, true, false, List, [], ◌∷◌, Some, Ok}
use Rattle.std.specs.Prelude.{Err}
use Rattle.std.specs.Prelude.{length, codes}
use Rattle.report_rules.specs.text_rules.Outside.{Told}
use Rattle.report_rules.specs.number_sets.Sets.{has}
use Rattle.report_rules.specs.problem_rules.Problem.{Problem}
use Rattle.report_rules.specs.problem_rules.Validity.{IsValid}
use Rattle.report_rules.specs.pns_rules.Shape.{shape_of}
use Rattle.report_rules.specs.pns_rules.Structure.{IsStructure, IsAllowed}
use Rattle.report_rules.specs.flow_rules.Net.{net_of}
use Rattle.report_rules.specs.flow_rules.Flows.{IsFlows}
use Rattle.report_rules.specs.tree_rules.Claim.{Network}
use Rattle.report_rules.specs.tree_rules.Costs.{CostsEnough}
use Rattle.report_rules.specs.rank_rules.declared.why.RankWhy.{RankWhy}
use Rattle.report_rules.specs.rank_rules.Networks.{cost_of, numbered, last_cost, IsListed}
use Rattle.report_rules.specs.rank_rules.Networks.{ArePassing}
use Rattle.report_rules.specs.rank_rules.Alternatives.{IsRight}
use Rattle.report_rules.specs.rank_rules.Ranked.{Ranking, IsRanked, NetworkIsFault, NodeIsFault}
use Rattle.report_rules.specs.rank_rules.Text.{Text, ranking_of}
use Rattle.report_rules.specs.tree_text_rules.declared.TreeKind.{TreeKind}
use Rattle.report_rules.specs.rank_rules.Read.{read_text}
use Rattle.studio_rules.specs.RankWords.{network_line, rank_node_line}
use Rattle.studio_rules.specs.Reading.{AreHeld, GivesProblem, IsLong, OnFile, OnSecond}
use Rattle.studio_rules.specs.TreeFile.{tree_limit, tree_fault_line}
use Rattle.studio_rules.specs.declared.status.Status.{Status}
use Rattle.studio_rules.specs.declared.status.Status.TheVariants.{Done, Refused, BadTree, TooLong}

-- ---- RANK is read and judged by its grammar after FILE

-- A file that gives no ranking for the problem: it is above the limit of tree files, or has a
-- fault, which is reported with its line and kind.
abbrev pub RankFault : List ℕ → Problem → List ℕ → Status → List (List ℕ) → Type 0
RankFault name p file TooLong lines = IsLong name tree_limit file lines
RankFault name p file BadTree lines =
    (length file ≤ tree_limit)
    × ((line : ℕ) × (kind : TreeKind) × (read_text p file ≡ Err (line, kind))
    × (lines ≡ tree_fault_line line kind ∷ []))
RankFault name p file status lines = ⊥

-- a file within the limit, whose text stands for the ranking
abbrev pub GivesRanking : Problem → List ℕ → Text → Type 0
GivesRanking p file t = (length file ≤ tree_limit) × (read_text p file ≡ Ok t)

-- what reading and judging the named file says if it gives none for the problem
abbrev pub RankFaults : (List ℕ → Told) → List ℕ → Problem → Status → List (List ℕ) → Type 0
RankFaults held name p status lines = (file : List ℕ) × AreHeld (held name) file
    × RankFault name p file status lines

-- ---- the answer

-- The networks are judged first, then the nodes in preorder. The tail does not matter.
abbrev pub IsRefused : Problem → Ranking → List (List ℕ) → Type 0
IsRefused p r lines =
    ((number : ℕ) × (why : RankWhy) × NetworkIsFault p r number why
    × (lines ≡ network_line number why ∷ []))
    ⊎ (ArePassing r.distinct p [] r.networks
    × ((node : ℕ) × (why : RankWhy) × NodeIsFault false p r node why
    × (lines ≡ rank_node_line node why ∷ [])))

abbrev pub RankcheckWork : Problem → Text → Status → List (List ℕ) → Type 0
RankcheckWork p t Done lines = IsRanked p (ranking_of t) × (lines ≡ codes "accepted" ∷ [])
RankcheckWork p t Refused lines = IsRefused p (ranking_of t) lines
RankcheckWork p t status lines = ⊥

-- The status and lines on a problem and the bytes of the named file: those of a file that gives no
-- ranking, else those of the work.
abbrev pub RankcheckSays : List ℕ → Problem → List ℕ → Status → List (List ℕ) → Type 0
RankcheckSays name p file status lines =
    RankFault name p file status lines
    ⊎ ((t : Text) × GivesRanking p file t × RankcheckWork p t status lines)

abbrev pub OnRank : (List ℕ → Told) → List ℕ → Problem → Status → List (List ℕ) → Type 0
OnRank held name = OnSecond (RankcheckSays name) held name

-- ---- what acceptance means, over clash-free solution structures and their flows, without a tree

pub record AreBest (p : Problem) (count : ℕ) (ws : List Network) : Type 0 where
  -- The networks are clash-free solution structures with flows of their costs, which do not fall.
  -- No two have the same units.
  pub pass : ArePassing false p [] ws
  -- no flows for the units of one cost less than it
  pub least : (k : ℕ) (w : Network) → numbered k ws ≡ Some w
      → CostsEnough p (Some (cost_of w)) (has w.units)
  -- If as many are listed as were asked for, each structure that is not listed costs at least what
  -- the last one does, with any flows.
  pub full : length ws ≡ count → (s : ℕ → Bool) → IsStructure (shape_of p) s
      → IsAllowed (shape_of p) s → (IsListed ws s → ⊥) → CostsEnough p (last_cost ws) s
  -- if fewer are listed, no structure that is not listed has flows
  pub fewer : length ws < count → (s : ℕ → Bool) → IsStructure (shape_of p) s
      → IsAllowed (shape_of p) s → (IsListed ws s → ⊥) → (z : ℕ → ℤ) (d : ℤ)
      → IsFlows (net_of p) s z d → ⊥

-- FILE gives a valid problem, RANK a ranking for it, and its networks are the best; or RANK is a
-- list of alternatives, which is right
pub record FilesListBest (held : List ℕ → Told) (file rank : List ℕ) : Type 0 where
  pub problem_text : List ℕ
  pub problem_held : AreHeld (held file) problem_text
  pub problem : Problem
  pub gives_problem : GivesProblem problem_text problem
  pub valid : IsValid problem
  pub rank_text : List ℕ
  pub rank_held : AreHeld (held rank) rank_text
  pub text : Text
  pub gives_ranking : GivesRanking problem rank_text text
  pub best : text.distinct ≡ false → AreBest problem text.count text.networks
  pub right : text.distinct ≡ true → IsRight problem text.count text.networks

-- if `rankcheck FILE RANK` answers with status 0, RANK lists the best networks, or alternatives
abbrev pub AcceptedAreBest : Type 0
AcceptedAreBest =
    (held : List ℕ → Told) (file rank : List ℕ) (lines : List (List ℕ))
    → OnFile (OnRank held rank) held file Done lines → FilesListBest held file rank
