-- Weak duality, from the arithmetic of linear programs.
use Rattle.std.proofs.Common.{ℕ, arith, pos, ℤ, ◌+ℤ◌, ◌*ℤ◌, ◌≤ℤ◌, ◌<ℤ◌}
use Rattle.std.specs.List.{AllByRecursion}
use Rattle.std.proofs.lemmas.Int.{ints}
use Rattle.integer_laws.specs.Total.{total}
use Rattle.integer_laws.proofs.Cited.{ring_z, mul-le_left, mul-le_right, le_trans_z, box_least}
use Rattle.integer_laws.proofs.Cited.{total-constant_zero, weak_duality}
use Rattle.pns_rules.specs.Structure.{mats}
use Rattle.pns_rules.specs.Nodes.{Node}
use Rattle.flow_rules.specs.Laws.{RelaxedDuality, FlowsAreRelaxed, RelaxedCostsLess}
use Rattle.flow_rules.specs.Laws.{SlopeIsGreatest, WeakDuality, RefutationHolds, RefutedIsEmpty}
use Rattle.flow_rules.specs.Net.{Net, net_of}
use Rattle.flow_rules.specs.Relaxed.{stays, units, rows, row_low, row_high, unit_low, unit_cost}
use Rattle.flow_rules.specs.Relaxed.{fixed_cost, row_balance, IsRelaxed, relaxed_cost, reduced_cost}
use Rattle.flow_rules.specs.Relaxed.{row_part, unit_part, bound}
use Rattle.flow_rules.specs.Flows.{cost}
use Rattle.flow_rules.proofs.ListedLemmas.{All-listed}
use Rattle.flow_rules.proofs.NetLemmas.{net_of_valid}
use Rattle.flow_rules.proofs.RelaxedLemmas as relaxed

nothing_fixed : (d scale c z : ℤ)
    → (d *ℤ (scale *ℤ pos 0) +ℤ scale *ℤ (c *ℤ z)) ≤ℤ (scale *ℤ (c *ℤ z))
nothing_fixed d scale c z = omega (arith, ring_z)

with_fixed : (d scale k r u c : ℤ) → (d *ℤ (scale *ℤ pos 0 +ℤ r +ℤ u)) ≤ℤ (scale *ℤ c)
    → (d *ℤ (scale *ℤ k +ℤ r +ℤ u)) ≤ℤ (scale *ℤ (d *ℤ k +ℤ c))
with_fixed d scale k r u c h = omega (arith, ring_z)

duality_in : (net : Net) (n : Node) (z : ℕ → ℤ) (d : ℤ) → IsRelaxed net n z d → (scale : ℤ)
    → pos 0 ≤ℤ scale → (y : ℕ → ℤ) → (d *ℤ bound net n scale y) ≤ℤ (scale *ℤ relaxed_cost net n z d)
duality_in net n z d flows scale nonneg y =
    let positive : pos 0 ≤ℤ d = let p = flows.positive in omega (arith, ints) in
    let boxes : AllByRecursion
    (λ i. (d *ℤ unit_part net n scale y i) ≤ℤ (reduced_cost net n scale y i *ℤ z i))
    (units net n)
    = All-listed (λ i. (d *ℤ unit_part net n scale y i) ≤ℤ (reduced_cost net n scale y i *ℤ z i))
    net.graph.units (stays n)
    (λ i l h. box_least (reduced_cost net n scale y i) (unit_low net n i) (net.most i) d (z i)
    positive (flows.at_least i l h) (flows.at_most i l h)) in
    let ranges : AllByRecursion
    (λ j. (d *ℤ row_part net n y j) ≤ℤ (y j *ℤ total (λ i. net.rate j i *ℤ z i) (units net n)))
    (rows net n)
    = All-listed
    (λ j. (d *ℤ row_part net n y j) ≤ℤ (y j *ℤ total (λ i. net.rate j i *ℤ z i) (units net n)))
    net.graph.materials (mats net.graph (stays n))
    (λ j l h. box_least (y j) (row_low net n j) (row_high net n j) d (row_balance net n z j)
    positive (flows.low j l h) (flows.high j l h)) in
    let costs : AllByRecursion
    (λ i. (d *ℤ (scale *ℤ pos 0) +ℤ scale *ℤ (unit_cost net n i *ℤ z i))
    ≤ℤ (scale *ℤ (unit_cost net n i *ℤ z i))) (units net n)
    = All-listed
    (λ i. (d *ℤ (scale *ℤ pos 0) +ℤ scale *ℤ (unit_cost net n i *ℤ z i))
    ≤ℤ (scale *ℤ (unit_cost net n i *ℤ z i))) net.graph.units (stays n)
    (λ i l h. nothing_fixed d scale (unit_cost net n i) (z i)) in
    let weak =
    weak_duality (units net n) (rows net n) net.rate (unit_cost net n) z (λ i. pos 0)
    (unit_part net n scale y) (λ i. unit_cost net n i *ℤ z i) y (row_part net n y) scale d boxes
    ranges costs in
    with_fixed d scale (fixed_cost net n) (total (row_part net n y) (rows net n))
    (total (unit_part net n scale y) (units net n))
    (total (λ i. unit_cost net n i *ℤ z i) (units net n))
    (rw (total-constant_zero (units net n)) at weak)

pub relaxed_duality : RelaxedDuality
relaxed_duality p n z d flows scale nonneg y = duality_in (net_of p) n z d flows scale nonneg y

pub flows_are_relaxed : FlowsAreRelaxed
flows_are_relaxed p valid n s between z d flows =
    relaxed.flows_are_relaxed (net_of p) (net_of_valid p valid) n s between z d flows

pub relaxed_costs_less : RelaxedCostsLess
relaxed_costs_less p valid n s between z d flows =
    relaxed.relaxed_costs_less (net_of p) (net_of_valid p valid) n s between z d flows

pub weak_duality_holds : WeakDuality
weak_duality_holds p valid n s between z d flows scale nonneg y =
    le_trans_z (d *ℤ bound (net_of p) n scale y) (scale *ℤ relaxed_cost (net_of p) n z d)
    (scale *ℤ cost (net_of p) s z d)
    (duality_in (net_of p) n z d (flows_are_relaxed p valid n s between z d flows) scale nonneg y)
    (mul-le_left scale (relaxed_cost (net_of p) n z d) (cost (net_of p) s z d)
    (relaxed_costs_less p valid n s between z d flows) nonneg)

too_large : (d b c : ℤ) → pos 1 ≤ℤ d → pos 0 <ℤ b → (d *ℤ b) ≤ℤ (pos 0 *ℤ c) → ⊥
too_large d b c p q h =
    let a : (pos 1 *ℤ b) ≤ℤ (d *ℤ b) = mul-le_right (pos 1) d b p (omega (arith, ints)) in
    omega (arith, ints)

pub refuted_is_empty : RefutedIsEmpty
refuted_is_empty p n y refutes z d flows =
    too_large d (bound (net_of p) n (pos 0) y) (relaxed_cost (net_of p) n z d) flows.positive
    refutes (duality_in (net_of p) n z d flows (pos 0) (omega (arith, ints)) y)

pub refutation_holds : RefutationHolds
refutation_holds p valid n y refutes s between z d flows =
    refuted_is_empty p n y refutes z d (flows_are_relaxed p valid n s between z d flows)

pub slope_is_greatest : SlopeIsGreatest
slope_is_greatest p valid i l positive =
    let some : pos 0 ≤ℤ (net_of p).most i = omega (arith, ints) in
    let fix = (net_of_valid p valid).fix_not_negative i l in (
      relaxed.slope_below ((net_of p).most i) ((net_of p).fix i) some fix,
      λ k h. relaxed.slope_greatest ((net_of p).most i) ((net_of p).fix i) k positive fix h,
    )
