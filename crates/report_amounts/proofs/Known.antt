-- The materials of a network are some of the problem's, and their flows were judged.
use Rattle.std.proofs.Common.{◌≡◌, ℕ, ◌<◌, true, length, pos}
use Rattle.report_rules.specs.number_sets.Sets.{has}
use Rattle.report_rules.proofs.number_sets.Cited.{has_below, AreBelow-listed}
use Rattle.report_rules.specs.problem_rules.Problem.{Problem}
use Rattle.report_rules.specs.pns_rules.Shape.{shape_of}
use Rattle.report_rules.specs.pns_rules.Structure.{mats}
use Rattle.report_rules.specs.flow_rules.Net.{net_of, materials_of}
use Rattle.report_rules.specs.flow_rules.Steps.{AreInRange}
use Rattle.report_rules.specs.flow_rules.FeasibleSteps.{units_at, balance_steps}
use Rattle.report_rules.specs.tree_rules.Claim.{Network, IsFeasible, size_in}
use Rattle.report_amounts.proofs.FlowLemmas.{material_in_range}

pub material_known : (p : Problem) (w : Network) (j : ℕ)
    → has (materials_of (net_of p) (has w.units)) j ≡ true → j < length p.materials
material_known p w j h =
    has_below (length p.materials) (materials_of (net_of p) (has w.units)) j
    (AreBelow-listed (length p.materials) (mats (shape_of p) (has w.units))) h

pub steps_in_range : (p : Problem) (w : Network) (j : ℕ) → IsFeasible p w
    → has (materials_of (net_of p) (has w.units)) j ≡ true
    → AreInRange
    (balance_steps (net_of p) (size_in w) j (units_at (net_of p) (has w.units) j) (pos 0))
steps_in_range p w j f h =
    material_in_range (net_of p) (has w.units) (size_in w) (materials_of (net_of p) (has w.units)) j
    f.balances h
