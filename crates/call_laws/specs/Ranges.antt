-- `stable` agrees with `edit` and `solve`. At each value of the range that `stable` prints, `solve`
-- finds for the plant after the edit to that value a network of the same cost as the network of the
-- claim.
use Rattle.std.specs.Prelude.{◌≡◌, ℕ, ℤ, ◌≤ℤ◌, List, [], ◌∷◌, Option, Some, IfSome}
use Rattle.studio.specs.text_rules.Canonical.{canonical_lines}
use Rattle.studio.specs.text_rules.Outside.{Told}
use Rattle.studio.specs.problem_rules.Problem.{Problem}
use Rattle.studio.specs.problem_rules.Validity.{IsValid}
use Rattle.studio.specs.edit_rules.Edit.{Edit, price, fix, proportional}
use Rattle.studio.specs.edit_rules.Effect.{effect}
use Rattle.studio.specs.edit_rules.Fault.{checks, AreClear}
use Rattle.studio.specs.edit_rules.Formed.{IsFormed}
use Rattle.studio.specs.edit_rules.Printed.{script_text}
use Rattle.studio.specs.tree_rules.Claim.{Network, Claim, network, CostOver, IsFeasible}
use Rattle.studio.specs.tree_text_rules.Read.{HeadedCertificate}
use Rattle.studio.specs.report_rules.declared.spot.Spot.{Spot}
use Rattle.studio.specs.report_rules.declared.spot.SpotKind.{SpotKind}
use Rattle.studio.specs.report_rules.declared.spot.SpotKind.TheVariants.{Price, Fix, Proportional}
use Rattle.studio.specs.report_rules.declared.side.Side.TheVariants.{Below, Above}
use Rattle.studio.specs.report_rules.Spot.{KnowsSpot, valued, IsAllowedValue}
use Rattle.studio.specs.report_rules.Range.{repriced, IsBestAt, beyond}
use Rattle.studio.specs.studio_rules.Command.{Editing, Solving, Ranging}
use Rattle.studio.specs.studio_rules.Lines.{text_of}
use Rattle.studio.specs.studio_rules.Printed.{spelled}
use Rattle.studio.specs.studio_rules.Reading.{AreHeld, GivesProblem}
use Rattle.studio.specs.studio_rules.HeadedFile.{GivesHeaded}
use Rattle.studio.specs.studio_rules.Stable.{spot_named, range_lines}
use Rattle.studio.specs.studio_rules.declared.status.Status.{Status}
use Rattle.studio.specs.studio_rules.declared.status.Status.TheVariants.{Done}
use Rattle.studio.specs.studio_rules.Answers.{CommandAnswers}
use Rattle.studio.specs.studio_rules.Solve.{HasProof}
use Rattle.call_laws.specs.Costs.{cost_of, ClaimsCost, PrintsCost}

-- ---- the edit

-- the edit to a value of the number of this kind and name
abbrev pub setting : SpotKind → List ℕ → ℤ → Edit
setting Price name v = price name v
setting Fix name v = fix name v
setting Proportional name v = proportional name v

-- the problem takes the edit, and is the one with the value in the spot after it
pub record SetsSpot (p : Problem) (spot : Spot) (v : ℤ) (edit : Edit) : Type 0 where
  pub formed : IsFormed edit
  pub clear : AreClear (checks p edit)
  pub effect_is : effect p edit ≡ valued p spot v

abbrev pub SettingsSetSpots : Type 0
SettingsSetSpots =
    (p : Problem) → IsValid p → (kind : SpotKind) (name : List ℕ) (spot : Spot)
    → spot_named p kind name ≡ Some spot
    → (v : ℤ) → IsAllowedValue spot v → SetsSpot p spot v (setting kind name v)

-- what `edit` prints for the script of this edit is the problem with the value in the spot
abbrev pub ValuesAreEdited : Type 0
ValuesAreEdited =
    (held : List ℕ → Told) (file bytes script : List ℕ) (p : Problem) (kind : SpotKind)
    (name : List ℕ) (spot : Spot) (v : ℤ)
    → held file ≡ Some (Some bytes) → GivesProblem bytes p → spot_named p kind name ≡ Some spot
    → IsAllowedValue spot v
    → held script ≡ Some (Some (script_text (setting kind name v ∷ [])))
    → (status : Status) (lines : List (List ℕ))
    → CommandAnswers held (Editing file script) status lines
    → (status ≡ Done) × (lines ≡ canonical_lines (valued p spot v))

-- ---- the network

-- if a network is optimal with a value in the spot, a proof of the problem with this value claims
-- what the network costs there
abbrev pub BestIsClaimed : Type 0
BestIsClaimed =
    (p : Problem) (spot : Spot) → KnowsSpot p spot → (w : Network) → IsFeasible p w → (v : ℤ)
    → IsBestAt p spot w v
    → (claim : Claim) → HasProof (valued p spot v) claim
    → ClaimsCost claim (cost_of (repriced p spot w v))

-- ---- the calls

-- What `edit` prints of a problem file, for the script of the edit, is kept as `edited`. What
-- `solve` then prints with status 0 of the problem q claims a network of this cost.
abbrev pub EditedCosts : List ℕ → Edit → Problem → CostOver → Type 0
EditedCosts bytes edit q much =
    (held later : List ℕ → Told) (file script edited : List ℕ) (status : Status)
    (changed solved : List (List ℕ)) (budget : ℕ)
    → held file ≡ Some (Some bytes) → held script ≡ Some (Some (script_text (edit ∷ [])))
    → CommandAnswers held (Editing file script) status changed
    → later edited ≡ Some (Some (text_of changed))
    → CommandAnswers later (Solving edited budget) Done solved
    → PrintsCost q much solved

-- the file gives a tree that claims the network
abbrev pub TreeClaims : (List ℕ → Told) → List ℕ → Problem → Network → Type 0
TreeClaims held tree p w =
    (file : List ℕ) × (text : HeadedCertificate) × AreHeld (held tree) file
    × GivesHeaded p file text × (text.claim ≡ network w)

-- a range, and what is beyond its ends
pub record Range : Type 0 where
  pub from : ℤ
  pub to : ℤ
  pub below : Option Network
  pub above : Option Network

-- What `stable` printed: the range of the spot of this kind and name, for the network that the tree
-- claims.
pub record Ranged (held : List ℕ → Told) (bytes tree : List ℕ) (kind : SpotKind) (name : List ℕ)
    (lines : List (List ℕ)) : Type 0 where
  pub problem : Problem
  pub spot : Spot
  pub network_of : Network
  pub range : Range
  pub gives : GivesProblem bytes problem
  pub spot_is : spot_named problem kind name ≡ Some spot
  pub claimed : TreeClaims held tree problem network_of
  pub printed : lines ≡ spelled (range_lines problem range.from range.to range.below range.above)

-- The range compared with what `edit` and then `solve` print, of which `costs` speaks. Inside it
-- the plant after the edit costs what the network costs there. One step outside it the plant costs
-- what the network does that is printed for this side.
pub record RangeIsSolved (costs : List ℕ → Edit → Problem → CostOver → Type 0)
    (held : List ℕ → Told) (bytes tree : List ℕ) (kind : SpotKind) (name : List ℕ)
    (lines : List (List ℕ)) : Type 0 where
  pub told : Ranged held bytes tree kind name lines
  pub inside : (v : ℤ) → told.range.from ≤ℤ v → v ≤ℤ told.range.to
      → costs bytes (setting kind name v) (valued told.problem told.spot v)
      (cost_of (repriced told.problem told.spot told.network_of v))
  pub under : IfSome told.range.below (λ n.
      costs bytes (setting kind name (beyond Below told.range.from))
      (valued told.problem told.spot (beyond Below told.range.from)) (cost_of n))
  pub over : IfSome told.range.above (λ n.
      costs bytes (setting kind name (beyond Above told.range.to))
      (valued told.problem told.spot (beyond Above told.range.to)) (cost_of n))

abbrev pub RangesAreSolved : Type 0
RangesAreSolved =
    (held : List ℕ → Told) (file bytes tree : List ℕ) (kind : SpotKind) (name : List ℕ) (budget : ℕ)
    (ranged : List (List ℕ))
    → held file ≡ Some (Some bytes)
    → CommandAnswers held (Ranging file tree kind name budget) Done ranged
    → RangeIsSolved EditedCosts held bytes tree kind name ranged
