-- PLAN is read and judged after FILE: first its form, then its meaning on the problem.
use Rattle.std.specs.Prelude.{◌≡◌, ◌≤◌, ◌⊎◌, ◌++◌, ℕ, List, [], ◌∷◌, Ok, Err, length, codes}
use Rattle.std.specs.Prelude.{decimal}
use Rattle.report_rules.specs.text_rules.Outside.{Told}
use Rattle.report_rules.specs.problem_rules.Problem.{Problem}
use Rattle.plan_rules.specs.Meaning.{read_plan}
use Rattle.plan_rules.specs.Plan.{Plan}
use Rattle.plan_rules.specs.declared.PlanKind.{PlanKind}
use Rattle.plan_rules.specs.declared.PlanKind.TheVariants.{FileType, BadLine, BadName, BadNumber}
use Rattle.plan_rules.specs.declared.PlanKind.TheVariants.{TooFine, TooLarge, Sign, DoubleLine}
use Rattle.plan_rules.specs.declared.PlanKind.TheVariants.{UnknownName, LowAboveHigh, NoPeriod}
use Rattle.plan_rules.specs.declared.PlanKind.TheVariants.{TooWide}
use Rattle.studio_rules.specs.Reading.{AreHeld, IsLong, OnSecond, file_limit}
use Rattle.studio_rules.specs.declared.status.Status.{Status}
use Rattle.studio_rules.specs.declared.status.Status.TheVariants.{BadPlan, TooLong}

-- the word for a kind of fault
abbrev pub plan_kind_word : PlanKind → List ℕ
plan_kind_word FileType = codes "FileType"
plan_kind_word BadLine = codes "BadLine"
plan_kind_word BadName = codes "BadName"
plan_kind_word BadNumber = codes "BadNumber"
plan_kind_word TooFine = codes "TooFine"
plan_kind_word TooLarge = codes "TooLarge"
plan_kind_word Sign = codes "Sign"
plan_kind_word DoubleLine = codes "DoubleLine"
plan_kind_word UnknownName = codes "UnknownName"
plan_kind_word LowAboveHigh = codes "LowAboveHigh"
plan_kind_word NoPeriod = codes "NoPeriod"
plan_kind_word TooWide = codes "TooWide"

abbrev pub plan_fault_line : ℕ → PlanKind → List ℕ
plan_fault_line line kind = codes "plan line " ++ decimal line ++ 32 ∷ plan_kind_word kind

-- A file that gives no plan for the problem: it is above the limit, or has a fault, which is
-- reported with its line and kind.
abbrev pub PlanFileFault : List ℕ → Problem → List ℕ → Status → List (List ℕ) → Type 0
PlanFileFault name p file TooLong lines = IsLong name file_limit file lines
PlanFileFault name p file BadPlan lines =
    (length file ≤ file_limit)
    × ((line : ℕ) × (kind : PlanKind) × (read_plan p file ≡ Err (line, kind))
    × (lines ≡ plan_fault_line line kind ∷ []))
PlanFileFault name p file status lines = ⊥

-- a file within the limit, whose text stands for the plan
abbrev pub GivesPlan : Problem → List ℕ → Plan → Type 0
GivesPlan p file plan = (length file ≤ file_limit) × (read_plan p file ≡ Ok plan)

-- what reading and judging the named plan says if it gives none for the problem
abbrev pub PlanFaults : (List ℕ → Told) → List ℕ → Problem → Status → List (List ℕ) → Type 0
PlanFaults held name p status lines = (file : List ℕ) × AreHeld (held name) file
    × PlanFileFault name p file status lines

-- The status and lines of the work on a problem and its plan: those of a file that gives no plan,
-- else those of the work.
abbrev pub PlanSays : (Problem → Plan → Status → List (List ℕ) → Type 0) → List ℕ → Problem → List ℕ
    → Status → List (List ℕ) → Type 0
PlanSays work name p file status lines =
    PlanFileFault name p file status lines
    ⊎ ((plan : Plan) × GivesPlan p file plan × work p plan status lines)

abbrev pub OnPlan : (Problem → Plan → Status → List (List ℕ) → Type 0) → (List ℕ → Told) → List ℕ
    → Problem → Status → List (List ℕ) → Type 0
OnPlan work held name = OnSecond (PlanSays work name) held name
