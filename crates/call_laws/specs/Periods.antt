-- `expand` and `solve` certify `periods`: what `expand` prints of a plant and its plan is a problem
-- file, and what `solve` prints of this file costs what the design of `periods` does. That `check`
-- accepts it is a law of `studio`.
use Rattle.std.specs.Prelude.{◌≡◌, ◌≤◌, ◌⊎◌, ℕ, List, [], ◌∷◌, Some, Ok, codes, length}
use Rattle.studio.specs.text_rules.Canonical.{canonical_lines}
use Rattle.studio.specs.text_rules.Outside.{Told}
use Rattle.studio.specs.problem_rules.Problem.{Problem}
use Rattle.studio.specs.problem_rules.Validity.{IsValid}
use Rattle.studio.specs.plan_rules.Expanded.{expanded}
use Rattle.studio.specs.plan_rules.Meaning.{read_plan}
use Rattle.studio.specs.plan_rules.Plan.{Plan, IsPlan}
use Rattle.studio.specs.tree_rules.Claim.{Claim, infeasible}
use Rattle.studio.specs.plan_rules.Folded.{Written}
use Rattle.studio.specs.plan_rules.Least.{IsLeastDesign, HasNoDesign}
use Rattle.studio.specs.studio_rules.Command.{Expanding, Solving, Planning}
use Rattle.studio.specs.studio_rules.DesignText.{design_lines}
use Rattle.studio.specs.studio_rules.Lines.{text_of}
use Rattle.studio.specs.studio_rules.Plan.{GivesPlan}
use Rattle.studio.specs.studio_rules.Reading.{GivesProblem, LongFile, file_limit}
use Rattle.studio.specs.studio_rules.Solve.{SolveWork}
use Rattle.studio.specs.studio_rules.declared.status.Status.{Status}
use Rattle.studio.specs.studio_rules.declared.status.Status.TheVariants.{Done}
use Rattle.studio.specs.studio_rules.Answers.{CommandAnswers}
use Rattle.call_laws.specs.Costs.{ClaimsCost, PrintsClaim}

-- what a plan's text without a fault stands for is a plan for the problem
abbrev pub ReadIsPlan : Type 0
ReadIsPlan =
    (p : Problem) → IsValid p → (bytes : List ℕ) (plan : Plan) → read_plan p bytes ≡ Ok plan
    → IsPlan p plan

-- ---- `expand`

-- the bytes of FILE and of PLAN give a plant and a plan for it
pub record GivesPlant (bytes script : List ℕ) (p : Problem) (plan : Plan) : Type 0 where
  pub problem : GivesProblem bytes p
  pub periods : GivesPlan p script plan

-- What `expand` printed: within the limit it gives the expanded problem, and what `solve` says of a
-- file that keeps it, `solve` says of this problem, or that the file is too long.
pub record IsExpanded (bytes script : List ℕ) (lines : List (List ℕ)) : Type 0 where
  pub plant : Problem
  pub plan : Plan
  pub gives : GivesPlant bytes script plant plan
  pub printed : lines ≡ canonical_lines (expanded plant plan)
  pub reads : length (text_of lines) ≤ file_limit
      → GivesProblem (text_of lines) (expanded plant plan)
  pub solves : (later : List ℕ → Told) (kept : List ℕ) (budget : ℕ) (status : Status)
      (solved : List (List ℕ)) → later kept ≡ Some (Some (text_of lines))
      → CommandAnswers later (Solving kept budget) status solved
      → LongFile later kept file_limit status solved
      ⊎ SolveWork budget (expanded plant plan) status solved

abbrev pub ExpandedIsRead : Type 0
ExpandedIsRead =
    (held : List ℕ → Told) (file bytes plan script : List ℕ) (lines : List (List ℕ))
    → held file ≡ Some (Some bytes) → held plan ≡ Some (Some script)
    → CommandAnswers held (Expanding file plan) Done lines
    → IsExpanded bytes script lines

-- ---- `periods`

-- the lines of `periods` are of a design that costs what the claim does; if the claim has no
-- network, they say that there is no design
abbrev pub PlansClaim : Problem → Plan → Claim → List (List ℕ) → Type 0
PlansClaim p plan infeasible lines = HasNoDesign p plan × (lines ≡ codes "infeasible" ∷ [])
PlansClaim p plan claim lines =
    (x : Written) × IsLeastDesign p plan x × ClaimsCost claim (record { cost = x.cost; d = x.d })
    × (lines ≡ design_lines p x)

-- two texts, of `solve` and of `periods`, with one cost
pub record Certifies (bytes script : List ℕ) (solved planned : List (List ℕ)) : Type 0 where
  pub plant : Problem
  pub plan : Plan
  pub claim : Claim
  pub gives : GivesPlant bytes script plant plan
  pub solve_prints : PrintsClaim (expanded plant plan) claim solved
  pub periods_prints : PlansClaim plant plan claim planned

-- What `solve` prints with status 0 of a file that keeps what `expand` printed has the cost of what
-- `periods` prints with status 0.
abbrev pub PeriodsAreCertified : Type 0
PeriodsAreCertified =
    (held later last : List ℕ → Told) (file bytes plan script kept : List ℕ) (budget other : ℕ)
    (lines solved planned : List (List ℕ))
    → held file ≡ Some (Some bytes) → held plan ≡ Some (Some script)
    → CommandAnswers held (Expanding file plan) Done lines
    → later kept ≡ Some (Some (text_of lines))
    → CommandAnswers later (Solving kept budget) Done solved
    → last file ≡ Some (Some bytes) → last plan ≡ Some (Some script)
    → CommandAnswers last (Planning file plan other) Done planned
    → Certifies bytes script solved planned
