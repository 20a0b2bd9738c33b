-- Laws over calls that search a plant without demands, each of which a public function of this
-- crate has as its contract.
use Rattle.std.specs.Prelude.{◌≡◌, ◌⊎◌, ◌≤◌, ◌^◌, ℕ, suc, List, [], ◌∷◌, Some, length}
use Rattle.studio.specs.problem_rules.Problem.{Problem}
use Rattle.studio.specs.text_rules.Outside.{Told}
use Rattle.studio.specs.text_rules.State.{ShelfState, OutputsState}
use Rattle.studio.specs.studio_rules.Command.{Solving, Ranking, command_of}
use Rattle.studio.specs.studio_rules.Reading.{GivesProblem}
use Rattle.studio.specs.studio_rules.Ending.{Finishes, IsOneOf}
use Rattle.studio.specs.studio_rules.Answers.{WordsSay, SearchCanFinish}
use Rattle.studio.specs.studio_rules.declared.status.Status.{Status}
use Rattle.studio.specs.studio_rules.declared.status.Status.TheVariants.{Done, ReadFault}
use Rattle.studio.specs.studio_rules.declared.status.Status.TheVariants.{WriteFault}
use Rattle.studio.specs.studio_rules.declared.status.Status.TheVariants.{Memory}
use Rattle.call_laws.specs.NoDemands.{HasNoDemands}

-- the shelf knows that the file gives a plant without demands, for which the budget is large enough
pub record IsSure (held : List ℕ → Told) (name : List ℕ) (budget : ℕ) : Type 0 where
  pub bytes : List ℕ
  pub plant : Problem
  pub told : held name ≡ Some (Some bytes)
  pub gives : GivesProblem bytes plant
  pub no_demands : HasNoDemands plant
  pub enough : 2 ^ suc (length plant.units) ≤ budget

-- the words call for a search of the file within the budget: `solve` or `rank`
abbrev pub Searches : List (List ℕ) → List ℕ → ℕ → Type 0
Searches words name budget =
    (command_of words ≡ Some (Solving name budget))
    ⊎ ((count : ℕ) × (command_of words ≡ Some (Ranking name count budget)))

-- nothing stops such a search: it meets the condition of the clause `finishes` of `studio`
abbrev pub SureSearchCanFinish : Type 0
SureSearchCanFinish =
    (held : List ℕ → Told) (name : List ℕ) (budget : ℕ) → IsSure held name budget
    → SearchCanFinish held (Solving name budget)
    × ((count : ℕ) → SearchCanFinish held (Ranking name count budget))

-- So a call that ends as the clause `ends` of `studio` says has written its whole answer with
-- status 0, or it ends with a fault of reading, of an output or of memory.
abbrev pub SureCallIsDone : Type 0
SureCallIsDone =
    (old new : ShelfState) (before after : OutputsState) (words : List (List ℕ)) (name : List ℕ)
    (budget : ℕ) (status : Status) → IsSure old.held name budget → Searches words name budget
    → Finishes (WordsSay old new words) before after status
    → IsOneOf (Done ∷ ReadFault ∷ WriteFault ∷ Memory ∷ []) status
