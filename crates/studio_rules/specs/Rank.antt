-- `rank FILE N BUDGET`: the N best networks, each at its least cost, with the tree that proves it.
-- If the search stopped before its end: the networks that were found and the tree as far as it
-- came. The lines are those of a rank text.
use Rattle.std.specs.Prelude.{◌≡◌, ℕ, Bool, true, false, List, Option, None, Ok}
use Rattle.report_rules.specs.problem_rules.Problem.{Problem}
use Rattle.report_rules.specs.tree_rules.Claim.{Network, CostOver}
use Rattle.report_rules.specs.tree_rules.Lean.{IsLean}
use Rattle.report_rules.specs.tree_rules.Accepted.{first_node}
use Rattle.report_rules.specs.tree_rules.Stops.{IsSpent, IsPast}
use Rattle.report_rules.specs.rank_rules.Networks.{to_undercut}
use Rattle.report_rules.specs.rank_rules.Ranked.{Proves}
use Rattle.report_rules.specs.tree_rules.Tail.{Tail, whole, spent, past}
use Rattle.report_rules.specs.rank_rules.Marked.{marked}
use Rattle.report_rules.specs.rank_rules.Text.{Text, ranking_of}
use Rattle.report_rules.specs.rank_rules.Read.{read_text}
use Rattle.report_rules.specs.rank_rules.Spelling.{rank_text_lines}
use Rattle.report_rules.specs.rank_rules.Leaf.{IsOpenLeaf}
use Rattle.studio_rules.specs.Rankcheck.{AreBest}
use Rattle.report_rules.specs.tree_rules.Past.{IsPastAt}
use Rattle.report_rules.specs.tree_rules.Proved.{IsBelowLimit}
use Rattle.studio_rules.specs.Solve.{status_of}
use Rattle.studio_rules.specs.Lines.{text_of}
use Rattle.studio_rules.specs.Printed.{spelled}
use Rattle.studio_rules.specs.declared.status.Status.{Status}

-- the lines are the one text of the ranking, and read as it
pub record AreTextOf (p : Problem) (t : Text) (lines : List (List ℕ)) : Type 0 where
  pub text : lines ≡ spelled (rank_text_lines p t)
  pub reads : read_text p (text_of lines) ≡ Ok t

-- what a branched node of the tree of so many networks has to undercut: in a list of alternatives,
-- which is distinct, nothing
abbrev pub lean_cost : Bool → ℕ → List Network → Option CostOver
lean_cost false count ws = to_undercut count ws
lean_cost true count ws = None

-- So many networks were asked for, as a list of alternatives or not. Those that are listed pass,
-- and the lean tree proves the ranking; if it is partial, but for its open leaves.
pub record Lists (distinct partial : Bool) (count : ℕ) (p : Problem) (t : Text) : Type 0 where
  pub count_is : t.count ≡ count
  pub kind_is : t.distinct ≡ distinct
  pub proves : Proves partial p (ranking_of t)
  pub lean : IsLean p IsOpenLeaf (lean_cost distinct t.count t.networks) first_node
      (marked t.marks t.tree)

-- The tree proves the ranking. No flows for the units of a listed network cost less than it. No
-- other clash-free solution structure, with any flows, costs less than the last one; if fewer are
-- listed than were asked for, none of the others has flows.
pub record Ranks (count : ℕ) (p : Problem) (t : Text) : Type 0 where
  pub lists : Lists false false count p t
  pub best : AreBest p t.count t.networks

-- What a list is by its tail; if its search ended, what it is as a whole. The budget is spent only
-- if it is below twice the number of sets of units of the maximal structure. A number overflows
-- only on the path of the program of its node.
abbrev pub HoldsAs : Bool → Type 0 → ℕ → ℕ → Problem → Text → Tail → Type 0
HoldsAs distinct Whole count budget p t whole = Whole
HoldsAs distinct Whole count budget p t (spent next options) =
    Lists distinct true count p t
    × IsSpent p IsOpenLeaf (lean_cost distinct t.count t.networks) first_node
    (marked t.marks t.tree) next options budget × IsBelowLimit p budget
HoldsAs distinct Whole count budget p t (past node nonbasic place) =
    Lists distinct true count p t
    × IsPast p IsOpenLeaf first_node (marked t.marks t.tree) (λ n. IsPastAt p n nonbasic place)
    node

abbrev pub Holds : ℕ → ℕ → Problem → Text → Tail → Type 0
Holds count budget p t = HoldsAs false (Ranks count p t) count budget p t

abbrev pub RankWork : ℕ → ℕ → Problem → Status → List (List ℕ) → Type 0
RankWork count budget p status lines =
    (t : Text) × (status ≡ status_of t.tail) × Holds count budget p t t.tail × AreTextOf p t lines
