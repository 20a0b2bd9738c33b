-- Lines that pass have no fault, and what fails does so for one cause.
use Rattle.std.proofs.Common.{◌≡◌, ℕ, zero, suc, [], ◌∷◌, sym, ap, ◌∙◌, refl}
use Rattle.std.specs.Prelude.{Option}
use Rattle.flow_rules.specs.problem_rules.Problem.{Problem}
use Rattle.flow_rules.proofs.Cited.{holds, one_of, passing_has_no_cause, cause_is_one}
use Rattle.tree_rules.specs.Claim.{CostOver, IsAtLeast}
use Rattle.tree_rules.specs.Leaf.{IsClaimed}
use Rattle.tree_rules.specs.declared.line_why.LineWhy.{LineWhy}
use Rattle.tree_rules.specs.Head.{HeadLine, step, cap, out, trim, uses, Known, after_line}
use Rattle.tree_rules.specs.Head.{with_demand, LinePasses}
use Rattle.tree_rules.specs.Charged.{handed}
use Rattle.tree_rules.specs.HeadFaults.{line_why, LineFails}
use Rattle.tree_rules.specs.HeadLaws.{PassingHasNoFault, FaultIsOne, ChargedHasNoFault}
use Rattle.tree_rules.specs.HeadLaws.{ChargeFaultIsOne}

none : ⊥ → ⊥
none x = x

neither : (why other : LineWhy) → ⊥ → ⊥ → why ≡ other
neither why other x y = absurd x

-- ---- charges

pub charged_has_no_fault : ChargedHasNoFault
charged_has_no_fault p claimed n f d ys covers h why fails =
    passing_has_no_cause p (IsClaimed claimed) (IsAtLeast claimed) n f (handed d ys covers) h
    fails.0
    fails.2

pub charge_fault_is_one : ChargeFaultIsOne
charge_fault_is_one p claimed n f d ys covers why other fails others =
    fails.1
    ∙ ap line_why
    (cause_is_one p (IsClaimed claimed) (IsAtLeast claimed) n f (handed d ys covers) fails.0
    others.0
    fails.2 others.2)
    ∙ sym others.1

-- ---- lines

line_passes : (p : Problem) (claimed : Option CostOver) (k : Known) (line : HeadLine)
    (why : LineWhy)
    → LinePasses p claimed k line → LineFails p claimed k line why → ⊥
line_passes p claimed k (step s) why h fails = holds _ _ _ why h none fails
line_passes p claimed k (cap u v d ys covers) why h fails =
    holds _ _ _ why (h.known, h.not_outside, h.at_least, h.at_most)
    (charged_has_no_fault p claimed _ _ d ys covers h.charged why) fails
line_passes p claimed k (out u d ys covers) why h fails =
    holds _ _ _ why h.free (charged_has_no_fault p claimed _ _ d ys covers h.charged why) fails
line_passes p claimed k (trim u) why h fails = holds _ _ _ why h none fails
line_passes p claimed k (uses q d ys covers) why h fails =
    holds _ _ _ why (h.row, h.not_raw, h.at_least, h.at_most, h.less, h.worth)
    (charged_has_no_fault p claimed _ _ d ys covers h.charged why) fails

line_one : (p : Problem) (claimed : Option CostOver) (k : Known) (line : HeadLine)
    (why other : LineWhy) → LineFails p claimed k line why → LineFails p claimed k line other
    → why ≡ other
line_one p claimed k (step s) why other = one_of _ _ _ _ why other (neither why other)
line_one p claimed k (cap u v d ys covers) why other =
    one_of _ _ _ _ why other (charge_fault_is_one p claimed _ _ d ys covers why other)
line_one p claimed k (out u d ys covers) why other =
    one_of _ _ _ _ why other (charge_fault_is_one p claimed _ _ d ys covers why other)
line_one p claimed k (trim u) why other = one_of _ _ _ _ why other (neither why other)
line_one p claimed k (uses q d ys covers) why other =
    one_of _ _ _ _ why other
    (charge_fault_is_one p claimed k.node (with_demand k.facts q) d ys covers why other)

pub passing_has_no_fault : PassingHasNoFault
passing_has_no_fault p claimed k [] h i why fails = fails
passing_has_no_fault p claimed k (line ∷ lines) h zero why fails =
    line_passes p claimed k line why h.0 fails
passing_has_no_fault p claimed k (line ∷ lines) h (suc i) why fails =
    passing_has_no_fault p claimed (after_line p k line) lines h.1 i why fails.1

pub fault_is_one : FaultIsOne
fault_is_one p claimed k [] i j why other f g = absurd f
fault_is_one p claimed k (line ∷ lines) zero zero why other f g =
    (refl, line_one p claimed k line why other f g)
fault_is_one p claimed k (line ∷ lines) zero (suc j) why other f g =
    absurd (line_passes p claimed k line why g.0 f)
fault_is_one p claimed k (line ∷ lines) (suc i) zero why other f g =
    absurd (line_passes p claimed k line other f.0 g)
fault_is_one p claimed k (line ∷ lines) (suc i) (suc j) why other f g =
    let r = fault_is_one p claimed (after_line p k line) lines i j why other f.1 g.1 in
    (ap (λ (m : ℕ). suc m) r.0, r.1)
