-- What a search finds, and the text of a network with a head and a tree.
use Rattle.std.proofs.Common.{◌≡◌, ◌∙◌, ℕ, Bool, false, List, Option, Some, None, IfSome, Ok}
use Rattle.std.proofs.Common.{refl, sym, ap, subst}
use Rattle.tree_text.specs.problem_rules.Problem.{Problem}
use Rattle.tree_text.specs.pns_rules.Shape.{shape_of}
use Rattle.tree_text.specs.pns_rules.Structure.{IsStructure, IsAllowed}
use Rattle.tree_text.specs.tree_rules.Claim as claims
use Rattle.tree_text.specs.tree_rules.Claim.{ClaimPasses, claimed_cost}
use Rattle.tree_text.specs.tree_rules.Costs.{CostsEnough}
use Rattle.tree_text.specs.tree_rules.Accepted.{Tree, first_node}
use Rattle.tree_text.specs.tree_rules.Tail.{whole}
use Rattle.tree_text.specs.tree_rules.Head.{HeadLine}
use Rattle.tree_text.specs.tree_rules.HeadedProved.{IsProvedBy}
use Rattle.headed_search.specs.declared.headed.Headed.{Headed}
use Rattle.tree_text.specs.tree_text_rules.Read.{read_headed_text}
use Rattle.tree_text.specs.tree_text_rules.Spelling.{headed_text, headed_text_lines}
use Rattle.headed_search.specs.abb_search.declared.outcome.Found.{Found}
use Rattle.headed_search.specs.abb_search.declared.outcome.Found.TheVariants as found
use Rattle.headed_search.specs.abb_search.Found.{IsFound}
use Rattle.command_files.proofs.Cited.{spelled_text}
use Rattle.command_files.specs.studio_rules.Lines.{text_of}
use Rattle.command_files.specs.studio_rules.Printed.{spelled, OneAnswer}
use Rattle.command_files.specs.studio_rules.Solve.{SolvesBy, HeadedWork}
use Rattle.command_files.specs.studio_rules.declared.status.Status.{Status}
use Rattle.command_files.specs.studio_rules.declared.status.Status.TheVariants.{Done}
use Rattle.searches.specs.Solution.{certificate_of}

-- ---- what is found

-- what is found before the budget is spent is found with any budget
pub any_budget : (p : Problem) (few budget : ℕ) (f : Found)
    → ((best : Option claims.Network) (tree : Tree) (next options : ℕ)
    → f ≡ found.Spent best tree next options → ⊥)
    → IsFound p first_node few f → IsFound p first_node budget f
any_budget p few budget (found.Solved w tree) not h = h
any_budget p few budget (found.Infeasible tree) not h = h
any_budget p few budget (found.Spent best tree next options) not h =
    absurd (not best tree next options refl)
any_budget p few budget (found.Past best tree node nonbasic place) not h = h
any_budget p few budget found.Memory not h = h

-- ---- a network with a head and a tree

solves_by : (p : Problem) (w : claims.Network) (head : List HeadLine) (tree : Tree)
    → IsProvedBy p (claims.network w) head tree
    → ((s : ℕ → Bool) → IsStructure (shape_of p) s → IsAllowed (shape_of p) s
    → CostsEnough p (claimed_cost (claims.network w)) s)
    → SolvesBy p (claims.network w) head tree
solves_by p w head tree proved least =
    record {
      proved = proved;
      feasible = λ v e. subst (ClaimPasses false p) e proved.accepted.claimed;
      least = least;
    }

pub all_solve : (p : Problem) (o : Option Headed)
    → IfSome o (λ h. IsProvedBy p (claims.network h.network) h.head h.tree)
    → IfSome o (λ h. (s : ℕ → Bool) → IsStructure (shape_of p) s → IsAllowed (shape_of p) s
    → CostsEnough p (claimed_cost (claims.network h.network)) s)
    → IfSome o (λ h. SolvesBy p (claims.network h.network) h.head h.tree)
all_solve p None proved least = tt
all_solve p (Some h) proved least = solves_by p h.network h.head h.tree proved least

pub headed_works : (p : Problem) (w : claims.Network) (head : List HeadLine) (tree : Tree)
    → SolvesBy p (claims.network w) head tree
    → read_headed_text p (headed_text p (claims.network w) head tree whole)
    ≡ Ok (certificate_of w head tree)
    → (s : Status) (lines : List (List ℕ))
    → OneAnswer Done (headed_text_lines p (claims.network w) head tree whole) s lines
    → HeadedWork p s lines
headed_works p w head tree solves reads s lines said = (
  certificate_of w head tree,
  said.0,
  refl,
  solves,
  record {
    text = said.1;
    reads =
        ap (λ t. read_headed_text p t) (ap text_of said.1
        ∙ sym (spelled_text (headed_text_lines p (claims.network w) head tree whole))) ∙ reads;
  },
)
