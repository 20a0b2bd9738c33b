-- The charge of a node is a bound: its rows, what is paid by sets, and its units, put together.
use Rattle.std.proofs.Common.{◌≡◌, ℕ, refl, sym, subst, ap, ◌∙◌, arith, pos, ℤ, ◌+ℤ◌, ◌-ℤ◌, ◌*ℤ◌}
use Rattle.std.proofs.Common.{◌≤ℤ◌, List, Bool, true, false, cond, map}
use Rattle.std.specs.Prelude.{int_lt, not, ◌&&◌, Option, Some, None, IfSome}
use Rattle.std.specs.List.{AllByRecursion}
use Rattle.std.proofs.lemmas.Int.{ints}
use Rattle.integer_laws.specs.Total.{total}
use Rattle.integer_laws.proofs.Cited.{ring_z, mul_nonneg, mul-le_left, le_trans_z, int_min-le_left}
use Rattle.integer_laws.proofs.Cited.{int_min-le_right, total-add, total-sub, total-mul}
use Rattle.integer_laws.proofs.Cited.{total-exchange, total-le, total-same, reduced_costs}
use Rattle.pns_rules.specs.number_sets.Sets.{listed, IsWithin}
use Rattle.pns_rules.specs.Structure.{mats, IsBetween}
use Rattle.pns_rules.specs.Nodes.{Node}
use Rattle.flow_rules.specs.Net.{Net, million, trillion, size_cost, units_of}
use Rattle.flow_rules.specs.Flows.{IsFlows, balance, cost}
use Rattle.flow_rules.specs.Relaxed.{stays, units, rows, row_low, row_high, row_part, row_balance}
use Rattle.flow_rules.proofs.ListedLemmas.{All-listed, total-sets, over_larger, within_larger}
use Rattle.flow_rules.proofs.NetLemmas.{IsNet}
use Rattle.flow_rules.proofs.RelaxedLemmas.{flows_are_relaxed}
use Rattle.flow_rules.specs.ChargeFacts.{Demand, Facts, AreFacts, use_rate, use_of, Fit}
use Rattle.flow_rules.specs.Cover.{Cover, paid, weights}
use Rattle.flow_rules.specs.Charge.{has_knee, knee_of, knees, demanded, demanded_by, owed}
use Rattle.flow_rules.specs.Charge.{unit_charge, or_none, unit_part, charge}
use Rattle.flow_rules.specs.ChargeLaws.{AreCovers}
use Rattle.flow_rules.proofs.KneeLemmas.{excess, least_owed_bent, total-sorted, total-map}
use Rattle.flow_rules.proofs.KneeLemmas.{All-sorted, All-map}
use Rattle.flow_rules.proofs.CoverLemmas.{weights_paid}
use Rattle.flow_rules.proofs.RowLemmas.{beyond, row_with_knees}

-- ---- the units of the structure stay

not_of_false : (b : Bool) → (b ≡ true → ⊥) → not b ≡ true
not_of_false true e = absurd (e refl)
not_of_false false e = refl

stays_within : (net : Net) (n : Node) (s : ℕ → Bool) → IsBetween net.graph n.inside n.outside s
    → IsWithin s (stays n)
stays_within net n s between i h = not_of_false (n.outside i) (between.avoids i h)

no_size : (r z : ℤ) → z ≡ pos 0 → r *ℤ z ≡ pos 0
no_size r z e = rw e (omega (arith, ints))

same_balance : (net : Net) (n : Node) (s : ℕ → Bool) → IsBetween net.graph n.inside n.outside s
    → (z : ℕ → ℤ) (d : ℤ) → IsFlows net s z d → (j : ℕ)
    → row_balance net n z j ≡ balance net s z j
same_balance net n s between z d flows j =
    total-sets (λ i. net.rate j i *ℤ z i) (λ i. net.rate j i *ℤ z i) (stays n) s net.graph.units
    (λ i l. over_larger (stays n i) (s i) (net.rate j i *ℤ z i) (stays_within net n s between i)
    (λ h. no_size (net.rate j i) (z i) (flows.no_others i l h)))

-- ---- one unit

-- a knee is at a row, and its worth is not below 0
knee_is_row : (m r a b : Bool) → (m && not r && a && b) ≡ true
    → (m ≡ true) × (a ≡ true) × (b ≡ true)
knee_is_row true false true true e = (refl, refl, refl)
knee_is_row true false true false e = cc
knee_is_row true false false b e = cc
knee_is_row true true a b e = cc
knee_is_row false r a b e = cc

worth_nonneg : (y rate : ℤ) → int_lt (pos 0) rate ≡ true → int_lt (pos 0) y ≡ true
    → pos 0 ≤ℤ (y *ℤ rate)
worth_nonneg y rate e g = mul_nonneg y rate (omega (arith, ints)) (omega (arith, ints))

pub all_worth : (net : Net) (n : Node) (f : Facts) (y : ℕ → ℤ) (i : ℕ)
    → AllByRecursion (λ k. pos 0 ≤ℤ k.worth) (knees net n f y i)
all_worth net n f y i =
    All-sorted (λ k. pos 0 ≤ℤ k.worth)
    (map (knee_of net n f y i) (listed net.graph.materials (has_knee net n y i)))
    (All-map (λ k. pos 0 ≤ℤ k.worth) (knee_of net n f y i)
    (listed net.graph.materials (has_knee net n y i))
    (All-listed (λ j. pos 0 ≤ℤ (y j *ℤ net.rate j i)) net.graph.materials (has_knee net n y i)
    (λ j l h. let k = knee_is_row (mats net.graph (stays n) j) (net.graph.raw j)
    (int_lt (pos 0) (net.rate j i)) (int_lt (pos 0) (y j)) h in
    worth_nonneg (y j) (net.rate j i) k.1 k.2)))

-- what is beyond the knees of a unit, as a sum over the rows
pub excess_over_rows : (net : Net) (n : Node) (f : Facts) (y z : ℕ → ℤ) (d : ℤ) (i : ℕ)
    → total (excess (z i) d) (knees net n f y i) ≡ total (beyond net n f y z d i) (rows net n)
excess_over_rows net n f y z d i =
    total-sorted (excess (z i) d)
    (map (knee_of net n f y i) (listed net.graph.materials (has_knee net n y i)))
    ∙ total-map (excess (z i) d) (knee_of net n f y i)
    (listed net.graph.materials (has_knee net n y i))
    ∙ sym (total-sets (beyond net n f y z d i) (λ j. excess (z i) d (knee_of net n f y i j))
    (mats net.graph (stays n)) (has_knee net n y i) net.graph.materials
    (λ j l. within_larger (mats net.graph (stays n) j) (has_knee net n y i j)
    (excess (z i) d (knee_of net n f y i j))
    (λ h. (knee_is_row (mats net.graph (stays n) j) (net.graph.raw j)
    (int_lt (pos 0) (net.rate j i)) (int_lt (pos 0) (y j)) h).0)))

unit_step : (d scale fix c t w p z u b : ℤ)
    → (d *ℤ u) ≤ℤ (d *ℤ (scale *ℤ fix -ℤ p) +ℤ (scale *ℤ c -ℤ t -ℤ w) *ℤ z +ℤ b)
    → (d *ℤ u +ℤ d *ℤ p)
    ≤ℤ (scale *ℤ (fix *ℤ d) +ℤ ((scale *ℤ c -ℤ t) *ℤ z -ℤ w *ℤ z) +ℤ b)
unit_step d scale fix c t w p z u b h = omega (arith, ring_z)

-- what a unit owes and is paid is at most its part of the cost, less what its rows pay and what its
-- use is worth, and what is beyond its knees
pub unit_least : (net : Net) (n : Node) (f : Facts) (y z : ℕ → ℤ) (scale d : ℤ)
    (covers : List Cover) (i : ℕ) → pos 0 ≤ℤ d
    → (f.least i *ℤ d) ≤ℤ z i → z i ≤ℤ (f.most i *ℤ d)
    → (d *ℤ unit_charge net n f scale y covers i +ℤ d *ℤ paid covers i)
    ≤ℤ (scale *ℤ ((net.fix i *ℤ trillion) *ℤ d)
    +ℤ ((scale *ℤ size_cost net i -ℤ total (λ j. y j *ℤ net.rate j i) (rows net n)) *ℤ z i
    -ℤ demanded_by net f.demand i *ℤ z i)
    +ℤ total (beyond net n f y z d i) (rows net n))
unit_least net n f y z scale d covers i nonneg lo hi =
    unit_step d scale (net.fix i *ℤ trillion) (size_cost net i)
    (total (λ j. y j *ℤ net.rate j i) (rows net n)) (demanded_by net f.demand i)
    (paid covers i) (z i) (unit_charge net n f scale y covers i)
    (total (beyond net n f y z d i) (rows net n))
    (rw (excess_over_rows net n f y z d i) at (least_owed_bent (f.least i) (f.most i) (z i) d
    (knees net n f y i) (owed net n f scale y covers i) nonneg lo hi (all_worth net n f y i)))

-- ---- the units of the program: b, it is taken in; t, it is in the structure

part_within : (b t : Bool) (x : ℤ) → (b ≡ true → t ≡ true) → or_none b x ≤ℤ cond t x (pos 0)
part_within true true x sub = omega (arith, ints)
part_within true false x sub = let e = sub refl in cc
part_within false true x sub = int_min-le_right (pos 0) x
part_within false false x sub = int_min-le_left (pos 0) x

pub parts_within : (net : Net) (n : Node) (s : ℕ → Bool) → IsBetween net.graph n.inside n.outside s
    → (f : Facts) (scale : ℤ) (y : ℕ → ℤ) (covers : List Cover)
    → total (unit_part net n f scale y covers) (units net n)
    ≤ℤ total (unit_charge net n f scale y covers) (units_of net s)
parts_within net n s between f scale y covers =
    let u : ℕ → ℤ = unit_charge net n f scale y covers in
    let same : total (λ i. cond (s i) (u i) (pos 0)) (units net n) ≡ total u (units_of net s)
    = total-sets (λ i. cond (s i) (u i) (pos 0)) u (stays n) s net.graph.units
    (λ i l. within_larger (stays n i) (s i) (u i) (stays_within net n s between i)) in
    let less = total-le (unit_part net n f scale y covers) (λ i. cond (s i) (u i) (pos 0))
    (units net n)
    (All-listed (λ i. unit_part net n f scale y covers i ≤ℤ cond (s i) (u i) (pos 0))
    net.graph.units (stays n)
    (λ i l h. part_within (n.inside i) (s i) (u i) (between.contains i))) in
    rw same at less

-- ---- the use that is asked for

worth_of_use : (d part amount worth used : ℤ) → pos 0 ≤ℤ worth → (part *ℤ amount *ℤ d) ≤ℤ used
    → (d *ℤ (worth *ℤ (part *ℤ amount))) ≤ℤ (worth *ℤ used)
worth_of_use d part amount worth used some h =
    let a = mul-le_left worth (part *ℤ amount *ℤ d) used h some in omega (arith, ring_z)

-- the sizes of a structure that uses as much are worth all that is asked for
demand_met : (net : Net) (q : Option Demand) (s : ℕ → Bool) (z : ℕ → ℤ) (d : ℤ)
    → IfSome q (λ v. pos 0 ≤ℤ v.worth)
    → IfSome q (λ v. (million *ℤ v.amount *ℤ d) ≤ℤ use_of net s z v.of)
    → (d *ℤ demanded q) ≤ℤ total (λ i. demanded_by net q i *ℤ z i) (units_of net s)
demand_met net None s z d some h =
    let none : total (λ i. pos 0 *ℤ z i) (units_of net s) ≡ pos 0 *ℤ total z (units_of net s)
    = total-mul (pos 0) z (units_of net s) in
    omega (arith, ints, none)
demand_met net (Some q) s z d some h =
    let same : total (λ i. q.worth *ℤ use_rate net q.of i *ℤ z i) (units_of net s)
    ≡ q.worth *ℤ use_of net s z q.of
    = total-same (λ i. q.worth *ℤ use_rate net q.of i *ℤ z i)
    (λ i. q.worth *ℤ (use_rate net q.of i *ℤ z i))
    (λ i. regrouped q.worth (use_rate net q.of i) (z i)) (units_of net s)
    ∙ total-mul q.worth (λ i. use_rate net q.of i *ℤ z i) (units_of net s) in
    subst (λ (v : ℤ). (d *ℤ (q.worth *ℤ (million *ℤ q.amount))) ≤ℤ v) (sym same)
    (worth_of_use d million q.amount q.worth (use_of net s z q.of) some h)
  where
    regrouped : (a b c : ℤ) → a *ℤ b *ℤ c ≡ a *ℤ (b *ℤ c)
    regrouped a b c = omega (arith, ring_z)

-- ---- the whole

put_together : (d scale r q p u k c y w x : ℤ)
    → (d *ℤ u +ℤ d *ℤ p) ≤ℤ (scale *ℤ k +ℤ ((scale *ℤ c -ℤ y) -ℤ w) +ℤ x)
    → (d *ℤ r) ≤ℤ (y -ℤ x) → (d *ℤ q) ≤ℤ w
    → (d *ℤ (r +ℤ q +ℤ p +ℤ u)) ≤ℤ (scale *ℤ (k +ℤ c))
put_together d scale r q p u k c y w x h g a = omega (arith, ring_z)

-- what the units of a structure owe and are paid, with the rows and the use that is asked for, is
-- at most the cost
pub structure_least : (net : Net) → IsNet net → (n : Node) (s : ℕ → Bool)
    → IsBetween net.graph n.inside n.outside s → (f : Facts) → AreFacts net f
    → (z : ℕ → ℤ) (d : ℤ) → IsFlows net s z d → Fit net f s z d
    → (covers : List Cover) (scale : ℤ) (y : ℕ → ℤ)
    → (d *ℤ (total (row_part net n y) (rows net n) +ℤ demanded f.demand
    +ℤ total (paid covers) (units_of net s)
    +ℤ total (unit_charge net n f scale y covers) (units_of net s)))
    ≤ℤ (scale *ℤ cost net s z d)
structure_least net valid n s between f facts z d flows fit covers scale y =
    let positive : pos 0 ≤ℤ d = let p = flows.positive in omega (arith, ints) in
    let relaxed = flows_are_relaxed net valid n s between z d flows in
    let js : List ℕ = rows net n in
    let is : List ℕ = units_of net s in
    let u : ℕ → ℤ = unit_charge net n f scale y covers in
    let k : ℕ → ℤ = λ i. (net.fix i *ℤ trillion) *ℤ d in
    let e : ℕ → ℤ = λ i. (scale *ℤ size_cost net i -ℤ total (λ j. y j *ℤ net.rate j i) js) *ℤ z i in
    let g : ℕ → ℤ = λ i. demanded_by net f.demand i *ℤ z i in
    let b : ℕ → ℤ = λ i. total (beyond net n f y z d i) js in
    let x : ℕ → ℤ = λ j. total (λ i. beyond net n f y z d i j) is in
    let each = total-le (λ i. d *ℤ u i +ℤ d *ℤ paid covers i)
    (λ i. scale *ℤ k i +ℤ (e i -ℤ g i) +ℤ b i) is
    (All-listed (λ i. (d *ℤ u i +ℤ d *ℤ paid covers i) ≤ℤ (scale *ℤ k i +ℤ (e i -ℤ g i) +ℤ b i))
    net.graph.units s
    (λ i l h. unit_least net n f y z scale d covers i positive (fit.at_least i l h)
    (fit.at_most i l h))) in
    let left : total (λ i. d *ℤ u i +ℤ d *ℤ paid covers i) is
    ≡ d *ℤ total u is +ℤ d *ℤ total (paid covers) is
    = total-add (λ i. d *ℤ u i) (λ i. d *ℤ paid covers i) is
    ∙ ap (λ v. v +ℤ total (λ i. d *ℤ paid covers i) is) (total-mul d u is)
    ∙ ap (λ v. d *ℤ total u is +ℤ v) (total-mul d (paid covers) is) in
    let kept : total e is
    ≡ scale *ℤ total (λ i. size_cost net i *ℤ z i) is -ℤ total (λ j. y j *ℤ balance net s z j) js
    = reduced_costs is js net.rate (size_cost net) z y scale in
    let right : total (λ i. scale *ℤ k i +ℤ (e i -ℤ g i) +ℤ b i) is
    ≡ scale *ℤ total k is
    +ℤ (scale *ℤ total (λ i. size_cost net i *ℤ z i) is -ℤ total (λ j. y j *ℤ balance net s z j) js
    -ℤ total g is)
    +ℤ total x js
    = total-add (λ i. scale *ℤ k i +ℤ (e i -ℤ g i)) b is
    ∙ ap (λ v. v +ℤ total b is) (total-add (λ i. scale *ℤ k i) (λ i. e i -ℤ g i) is)
    ∙ ap (λ v. v +ℤ total (λ i. e i -ℤ g i) is +ℤ total b is) (total-mul scale k is)
    ∙ ap (λ v. scale *ℤ total k is +ℤ v +ℤ total b is) (total-sub e g is)
    ∙ ap (λ v. scale *ℤ total k is +ℤ (v -ℤ total g is) +ℤ total b is) kept
    ∙ ap (λ v. scale *ℤ total k is
    +ℤ (scale *ℤ total (λ i. size_cost net i *ℤ z i) is -ℤ total (λ j. y j *ℤ balance net s z j) js
    -ℤ total g is)
    +ℤ v)
    (total-exchange (beyond net n f y z d) is js) in
    let ranges = total-le (λ j. d *ℤ row_part net n y j) (λ j. y j *ℤ balance net s z j -ℤ x j) js
    (All-listed (λ j. (d *ℤ row_part net n y j) ≤ℤ (y j *ℤ balance net s z j -ℤ x j))
    net.graph.materials (mats net.graph (stays n))
    (λ j l m. row_with_knees net valid n f s z d facts fit
    (stays_within net n s between) positive y j l m
    (subst (λ (v : ℤ). (row_low net n j *ℤ d) ≤ℤ v) (same_balance net n s between z d flows j)
    (relaxed.low j l m))
    (subst (λ (v : ℤ). v ≤ℤ (row_high net n j *ℤ d)) (same_balance net n s between z d flows j)
    (relaxed.high j l m)))) in
    let given = total-mul d (row_part net n y) js in
    let paid_for = total-sub (λ j. y j *ℤ balance net s z j) x js in
    let whole = put_together d scale (total (row_part net n y) js) (demanded f.demand)
    (total (paid covers) is) (total u is) (total k is) (total (λ i. size_cost net i *ℤ z i) is)
    (total (λ j. y j *ℤ balance net s z j) js) (total g is) (total x js)
    (rw (left, right) at each) (rw (given, paid_for) at ranges)
    (demand_met net f.demand s z d facts.some_worth fit.demand) in
    rw (← total-add k (λ i. size_cost net i *ℤ z i) is) at whole

-- with the units of the program, and the weights, which are at most what the units are paid
pub charge_least : (net : Net) → IsNet net → (n : Node) (s : ℕ → Bool)
    → IsBetween net.graph n.inside n.outside s → (f : Facts) → AreFacts net f
    → (z : ℕ → ℤ) (d : ℤ) → IsFlows net s z d → Fit net f s z d → (covers : List Cover)
    → AreCovers net.graph n covers → (scale : ℤ) (y : ℕ → ℤ)
    → (d *ℤ charge net n f scale y covers) ≤ℤ (scale *ℤ cost net s z d)
charge_least net valid n s between f facts z d flows fit covers are scale y =
    let positive : pos 0 ≤ℤ d = let p = flows.positive in omega (arith, ints) in
    let r : ℤ = total (row_part net n y) (rows net n) +ℤ demanded f.demand in
    let p : ℤ = total (paid covers) (units_of net s) in
    let u : ℤ = total (unit_charge net n f scale y covers) (units_of net s) in
    let v : ℤ = total (unit_part net n f scale y covers) (units net n) in
    le_trans_z (d *ℤ (r +ℤ weights covers +ℤ v)) (d *ℤ (r +ℤ p +ℤ u)) (scale *ℤ cost net s z d)
    (mul-le_left d (r +ℤ weights covers +ℤ v) (r +ℤ p +ℤ u)
    (sums r (weights covers) p v u (weights_paid net.graph n s between covers are)
    (parts_within net n s between f scale y covers)) positive)
    (structure_least net valid n s between f facts z d flows fit covers scale y)
  where
    sums : (r a b c e : ℤ) → a ≤ℤ b → c ≤ℤ e → (r +ℤ a +ℤ c) ≤ℤ (r +ℤ b +ℤ e)
    sums r a b c e h k = omega (arith, ints)
