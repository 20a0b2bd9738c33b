-- A network that is optimal at two values is optimal between them. One whose cost rises as little
-- as any can stays so on that side.
use Rattle.std.proofs.Common.{◌≡◌, ℕ, Bool, ℤ, pos, ◌+ℤ◌, ◌-ℤ◌, ◌*ℤ◌, ◌≤ℤ◌, sym, ap, ◌∙◌, subst}
use Rattle.std.proofs.Common.{arith}
use Rattle.std.proofs.lemmas.Int.{ints}
use Rattle.report_rules.proofs.integer_laws.Cited.{ring_z, mul-le_left, mul-le_left_neg}
use Rattle.report_rules.proofs.integer_laws.Cited.{mul-le_right}
use Rattle.report_rules.specs.number_sets.Sets.{has}
use Rattle.report_rules.specs.problem_rules.Problem.{Problem}
use Rattle.report_rules.specs.problem_rules.Validity.{IsValid}
use Rattle.report_rules.specs.pns_rules.Shape.{Shape, shape_of}
use Rattle.report_rules.specs.pns_rules.Structure.{IsStructure, IsAllowed}
use Rattle.report_rules.specs.flow_rules.Net.{net_of}
use Rattle.report_rules.specs.flow_rules.Flows.{IsFlows, cost}
use Rattle.report_rules.specs.tree_rules.Claim.{Network, size_in, IsFeasible}
use Rattle.report_rules.specs.declared.spot.Spot.{Spot}
use Rattle.report_rules.specs.declared.side.Side.{Side}
use Rattle.report_rules.specs.declared.side.Side.TheVariants.{Below, Above}
use Rattle.report_rules.specs.Spot.{KnowsSpot, value_at, valued, value_on}
use Rattle.report_rules.specs.Range.{cost_at, IsBestAt}
use Rattle.report_rules.specs.Rise.{least_rise}
use Rattle.stability_laws.specs.Laws.{IsLine}
use Rattle.stability_laws.proofs.LineLemmas.{subtracted, by, not_below}
use Rattle.stability_laws.proofs.NetLemmas.{shape_stays, flows_from, flows_to, cost_is_a_line}
use Rattle.stability_laws.proofs.ValuedLemmas.{valued_is_same}
use Rattle.stability_laws.proofs.RiseLemmas.{rises_enough}

-- how much more the flows cost than the network
abbrev excess : Problem → Spot → Network → (ℕ → Bool) → (ℕ → ℤ) → ℤ → ℤ → ℤ
excess p spot w s z d v = cost (net_of (valued p spot v)) s z d *ℤ w.d -ℤ cost_at p spot w v *ℤ d

excess_line : (p : Problem) (spot : Spot) → KnowsSpot p spot
    → (w : Network) (s : ℕ → Bool) (z : ℕ → ℤ) (d : ℤ) → IsLine (excess p spot w s z d)
excess_line p spot h w s z d =
    subtracted (λ v. cost (net_of (valued p spot v)) s z d *ℤ w.d) (λ v. cost_at p spot w v *ℤ d)
    (by w.d (λ v. cost (net_of (valued p spot v)) s z d) (cost_is_a_line p spot h s z d))
    (by d (λ v. cost_at p spot w v) (cost_is_a_line p spot h (has w.units) (size_in w) w.d))

shape_between : (p : Problem) (spot : Spot) → KnowsSpot p spot → (v x : ℤ)
    → shape_of (valued p spot v) ≡ shape_of (valued p spot x)
shape_between p spot h v x = shape_stays p spot h v ∙ sym (shape_stays p spot h x)

-- no less at a value x at which the network is optimal
excess_at : (p : Problem) (spot : Spot) → KnowsSpot p spot → (w : Network) (v x : ℤ)
    → IsBestAt p spot w x
    → (s : ℕ → Bool) → IsStructure (shape_of (valued p spot v)) s
    → IsAllowed (shape_of (valued p spot v)) s
    → (z : ℕ → ℤ) (d : ℤ) → IsFlows (net_of (valued p spot v)) s z d
    → pos 0 ≤ℤ excess p spot w s z d x
excess_at p spot h w v x best s structure allowed z d flows =
    let same = shape_between p spot h v x in
    let st = subst (λ (g : Shape). IsStructure g s) same structure in
    let al = subst (λ (g : Shape). IsAllowed g s) same allowed in
    let fl = flows_to p spot h x s z d (flows_from p spot h v s z d flows) in
    let enough : (cost_at p spot w x *ℤ d) ≤ℤ (cost (net_of (valued p spot x)) s z d *ℤ w.d) =
    best s st al z d fl in
    omega (arith, ints, enough)

pub best_between : (p : Problem) (spot : Spot) → KnowsSpot p spot → (w : Network) (x y v : ℤ)
    → IsBestAt p spot w x → IsBestAt p spot w y
    → x ≤ℤ v → v ≤ℤ y → IsBestAt p spot w v
best_between p spot h w x y v at_x at_y l r = λ s structure allowed z d flows.
    let low = excess_at p spot h w v x at_x s structure allowed z d flows in
    let high = excess_at p spot h w v y at_y s structure allowed z d flows in
    let here : pos 0 ≤ℤ excess p spot w s z d v =
    not_below (excess p spot w s z d) (excess_line p spot h w s z d) x y v l r low high in
    omega (arith, ints, here)

-- ---- on one side

-- a line that does not fall with the first step falls with none
goes_on : (f : ℤ → ℤ) → IsLine f → (side : Side) (v : ℤ) → f v ≤ℤ f (value_on side v 1)
    → pos 0 ≤ℤ f v → (away : ℕ) → pos 0 ≤ℤ f (value_on side v away)
goes_on f a Below v first here away =
    let e = a.is_line v in
    let e1 = a.is_line (v -ℤ pos 1) in
    let en = a.is_line (v -ℤ pos away) in
    let down : a.slope ≤ℤ pos 0 =
    falling a.start a.slope v
    (subst (λ (y : ℤ). (a.start +ℤ a.slope *ℤ v) ≤ℤ y) e1
    (subst (λ (y : ℤ). y ≤ℤ f (v -ℤ pos 1)) e first)) in
    let k = mul-le_left_neg a.slope (v -ℤ pos away) v (omega (arith, ints)) down in
    omega (arith, ints, e, en, k, here)
  where
    falling : (s p v : ℤ) → (s +ℤ p *ℤ v) ≤ℤ (s +ℤ p *ℤ (v -ℤ pos 1)) → p ≤ℤ pos 0
    falling s p v h = omega (arith, ring_z, h)
goes_on f a Above v first here away =
    let e = a.is_line v in
    let e1 = a.is_line (v +ℤ pos 1) in
    let en = a.is_line (v +ℤ pos away) in
    let up : pos 0 ≤ℤ a.slope =
    rising a.start a.slope v
    (subst (λ (y : ℤ). (a.start +ℤ a.slope *ℤ v) ≤ℤ y) e1
    (subst (λ (y : ℤ). y ≤ℤ f (v +ℤ pos 1)) e first)) in
    let k = mul-le_left a.slope v (v +ℤ pos away) (omega (arith, ints)) up in
    omega (arith, ints, e, en, k, here)
  where
    rising : (s p v : ℤ) → (s +ℤ p *ℤ v) ≤ℤ (s +ℤ p *ℤ (v +ℤ pos 1)) → pos 0 ≤ℤ p
    rising s p v h = omega (arith, ring_z, h)

-- the excess over a network whose cost rises by no more than the least
excess_rises : (c c1 r d w w1 e : ℤ) → pos 0 ≤ℤ e → (c +ℤ r *ℤ d) ≤ℤ c1 → w1 ≡ w +ℤ r *ℤ e
    → (c *ℤ e -ℤ w *ℤ d) ≤ℤ (c1 *ℤ e -ℤ w1 *ℤ d)
excess_rises c c1 r d w w1 e he h at =
    subst (λ (y : ℤ). (c *ℤ e -ℤ w *ℤ d) ≤ℤ (c1 *ℤ e -ℤ y *ℤ d)) (sym at)
    (regrouped (mul-le_right (c +ℤ r *ℤ d) c1 e h he))
  where
    regrouped : ((c +ℤ r *ℤ d) *ℤ e) ≤ℤ (c1 *ℤ e)
        → (c *ℤ e -ℤ w *ℤ d) ≤ℤ (c1 *ℤ e -ℤ (w +ℤ r *ℤ e) *ℤ d)
    regrouped k = omega (arith, ring_z, k)

pub best_away : (p : Problem) → IsValid p → (spot : Spot) → KnowsSpot p spot → (w : Network)
    → IsFeasible p w → IsBestAt p spot w (value_at p spot) → (side : Side)
    → cost_at p spot w (value_on side (value_at p spot) 1) ≡ w.cost +ℤ least_rise p spot side *ℤ w.d
    → (away : ℕ) → IsBestAt p spot w (value_on side (value_at p spot) away)
best_away p valid spot h w feasible best side as_little away = λ s structure allowed z d flows.
    let v = value_at p spot in
    let far = value_on side v away in
    let positive = feasible.flows.positive in
    let size : pos 0 ≤ℤ w.d = omega (arith, ints) in
    let now : cost_at p spot w v ≡ w.cost =
    ap (λ (q : Problem). cost (net_of q) (has w.units) (size_in w) w.d) (valued_is_same p spot)
    ∙ feasible.cost_is in
    let st = subst (λ (g : Shape). IsStructure g s) (shape_stays p spot h far) structure in
    let here = excess_at p spot h w far v best s structure allowed z d flows in
    let rise = rises_enough p valid spot h s st z d (flows_from p spot h far s z d flows) side v in
    let little : cost_at p spot w (value_on side v 1)
    ≡ cost_at p spot w v +ℤ least_rise p spot side *ℤ w.d =
    as_little ∙ ap (λ (y : ℤ). y +ℤ least_rise p spot side *ℤ w.d) (sym now) in
    let first =
    excess_rises (cost (net_of (valued p spot v)) s z d)
    (cost (net_of (valued p spot (value_on side v 1))) s z d) (least_rise p spot side) d
    (cost_at p spot w v) (cost_at p spot w (value_on side v 1)) w.d size rise little in
    let there : pos 0 ≤ℤ excess p spot w s z d far =
    goes_on (excess p spot w s z d) (excess_line p spot h w s z d) side v first here away in
    omega (arith, ints, there)
