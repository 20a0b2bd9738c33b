-- Plants without demands: at each node the start of the path is its last basis, and no number
-- overflows there.
use Rattle.std.proofs.Common.{◌≡◌, ℕ, ◌<◌, ◌^◌, Bool, true, false, ◌||◌, cond, List, length, get_or}
use Rattle.std.proofs.Common.{arith, refl, sym, ap, ◌∙◌, subst}
use Rattle.std.specs.Prelude.{ℤ, pos, ◌+ℤ◌, ◌*ℤ◌, ◌≤ℤ◌, ◌<ℤ◌, neg_ℤ}
use Rattle.std.specs.List.{AllByRecursion}
use Rattle.std.proofs.Math.Path.{fun_ext}
use Rattle.std.proofs.lemmas.Int.{ints}
use Rattle.std.proofs.lemmas.List.Elements.{All-get_or}
use Rattle.studio.specs.integer_laws.declared.which.Which.{Which}
use Rattle.studio.proofs.integer_laws.Cited.{mul_nonneg, ring_z}
use Rattle.studio.specs.number_sets.Sets.{has}
use Rattle.studio.proofs.number_sets.Cited.{has_below, AreBelow-listed}
use Rattle.studio.specs.problem_rules.Problem.{Problem}
use Rattle.studio.specs.problem_rules.Validity.{IsValid}
use Rattle.studio.proofs.problem_rules.Cited.{well_formed_from_valid}
use Rattle.studio.specs.pns_rules.Structure.{mats}
use Rattle.studio.specs.pns_rules.Nodes.{Node}
use Rattle.studio.specs.flow_rules.Net.{Net, net_of, million, beside, size_cost, units_of}
use Rattle.studio.specs.flow_rules.Relaxed.{stays, units, rows, lower_at, row_low, row_high}
use Rattle.studio.specs.flow_rules.Relaxed.{unit_low}
use Rattle.studio.specs.flow_rules.Relaxed.{unit_cost, slope}
use Rattle.studio.specs.flow_rules.Steps.{IsFirstPast}
use Rattle.studio.specs.flow_rules.BoundSteps.{bound_steps}
use Rattle.studio.specs.flow_rules.CostSteps.{cost_steps}
use Rattle.studio.specs.flow_rules.FeasibleSteps.{feasible_steps}
use Rattle.studio.specs.flow_rules.Program.{program_of, IsProgram, IsWithin}
use Rattle.studio.proofs.flow_rules.Cited.{not_both, IsNet, net_of_valid, slope_positive, all_had}
use Rattle.studio.proofs.flow_program.Cited.{program_is}
use Rattle.studio.specs.flow_rules.LinearProgram.{LinearProgram, linear}
use Rattle.studio.specs.flow_rules.Columns.{Basis, start, right_at}
use Rattle.studio.specs.flow_rules.Tableau.{IsTableau}
use Rattle.studio.specs.flow_rules.Pivots.{first_kind, second_kind}
use Rattle.studio.specs.flow_rules.Places.{Place, Entry, Flow, Cost, FlowSum, Bound, Refute}
use Rattle.studio.specs.flow_rules.Places.{IsPastPivot}
use Rattle.studio.specs.flow_rules.Places.{at_first, at_second, IsPastAt, IsPast}
use Rattle.studio.proofs.path_laws.Cited.{at-map, place_of, has_at}
use Rattle.call_laws.specs.NoDemands.{HasNoDemands}
use Rattle.call_laws.specs.Laws.{NothingIsPast, NothingStops}
use Rattle.call_laws.proofs.UnionLemmas.{not_below_limit}
use Rattle.call_laws.proofs.FirstBasis.{StartsFeasible, is_start, feasible, last_is_start, no_pivot}
use Rattle.call_laws.proofs.ZeroSizes.{AreZero, beside_zero, no_flow_is_past, sizes_are_zero}
use Rattle.call_laws.proofs.ZeroSizes.{denominator_is_one, multipliers_are_zero}
use Rattle.call_laws.proofs.ZeroSteps.{cost_in_range, feasible_in_range, StartsAtZero}
use Rattle.call_laws.proofs.ZeroSteps.{bound_in_range}

-- what holds of the numbers of such a plant
pub record WantsNothing (net : Net) : Type 0 where
  pub is_net : IsNet net
  pub no_lower : (j : ℕ) → j < net.graph.materials → net.lower j ≡ pos 0
  pub no_least : (i : ℕ) → i < net.graph.units → net.least i ≡ pos 0
  pub no_gain : (i : ℕ) → i < net.graph.units → pos 0 ≤ℤ size_cost net i

pub wants_nothing : (p : Problem) → IsValid p → HasNoDemands p → WantsNothing (net_of p)
wants_nothing p valid h =
    record {
      is_net = net_of_valid p valid;
      no_lower = h.no_flow;
      no_least = h.no_size;
      no_gain =
          h.no_gain;
    }

module _ (net : Net) (wants : WantsNothing net) (n : Node) where
  unit_known : (i : ℕ) → has (units net n) i ≡ true → i < net.graph.units
  unit_known i e =
      has_below net.graph.units (units net n) i (AreBelow-listed net.graph.units (stays n)) e

  row_known : (j : ℕ) → has (rows net n) j ≡ true → j < net.graph.materials
  row_known j e =
      has_below net.graph.materials (rows net n) j
      (AreBelow-listed net.graph.materials (mats net.graph (stays n))) e

  no_low : (i : ℕ) → i < net.graph.units → unit_low net n i ≡ pos 0
  no_low i h = at (n.inside i)
    where
      at : (b : Bool) → cond b (net.least i) (pos 0) ≡ pos 0
      at true = wants.no_least i h
      at false = refl

  most_not_negative : (i : ℕ) → i < net.graph.units → pos 0 ≤ℤ net.most i
  most_not_negative i h =
      up_to (net.least i) (net.most i) (wants.is_net.least_not_negative i h)
      (wants.is_net.least_within i h)
    where
      up_to : (a b : ℤ) → pos 0 ≤ℤ a → a ≤ℤ b → pos 0 ≤ℤ b
      up_to a b h k = omega (arith, ints)

  cost_not_negative : (i : ℕ) → i < net.graph.units → pos 0 ≤ℤ unit_cost net n i
  cost_not_negative i h =
      let s =
      mul_nonneg (slope net i) million
      (slope_positive (net.most i) (net.fix i) (most_not_negative i h)
      (wants.is_net.fix_not_negative i h)) (omega (arith, ints)) in
      at (n.inside i) (size_cost net i) (slope net i *ℤ million) (wants.no_gain i h) s
    where
      at : (b : Bool) (c s : ℤ) → pos 0 ≤ℤ c → pos 0 ≤ℤ s → pos 0 ≤ℤ (c +ℤ cond b (pos 0) s)
      at true c s h k = omega (arith, ints)
      at false c s h k = omega (arith, ints)

  no_lower_at : (j : ℕ) → j < net.graph.materials → lower_at net n j ≡ pos 0
  no_lower_at j h = at (net.graph.product j || mats net.graph n.inside j)
    where
      at : (b : Bool) → cond b (net.lower j) (pos 0) ≡ pos 0
      at true = wants.no_lower j h
      at false = refl

  upper_not_negative : (j : ℕ) → j < net.graph.materials → pos 0 ≤ℤ net.upper j
  upper_not_negative j h =
      up_to (net.lower j) (net.upper j) (wants.is_net.lower_not_negative j h)
      (wants.is_net.lower_within j h)
    where
      up_to : (a b : ℤ) → pos 0 ≤ℤ a → a ≤ℤ b → pos 0 ≤ℤ b
      up_to a b h k = omega (arith, ints)

  row_low_is : (j : ℕ) → j < net.graph.materials → row_low net n j ≤ℤ pos 0
  row_low_is j h =
      at (net.graph.raw j) (lower_at net n j) (net.upper j) (no_lower_at j h)
      (upper_not_negative j h)
    where
      at : (b : Bool) (low high : ℤ) → low ≡ pos 0 → pos 0 ≤ℤ high
          → (million *ℤ cond b (neg_ℤ high) low) ≤ℤ pos 0
      at true low high e h = omega (arith, ring_z)
      at false low high e h = omega (arith, ring_z)

  row_high_is : (j : ℕ) → j < net.graph.materials → pos 0 ≤ℤ row_high net n j
  row_high_is j h =
      at (net.graph.raw j) (lower_at net n j) (net.upper j) (no_lower_at j h)
      (upper_not_negative j h)
    where
      at : (b : Bool) (low high : ℤ) → low ≡ pos 0 → pos 0 ≤ℤ high
          → pos 0 ≤ℤ (million *ℤ cond b (neg_ℤ low) high)
      at true low high e h = omega (arith, ring_z)
      at false low high e h = omega (arith, ring_z)

  -- the program of the node
  abbrev P : LinearProgram
  P = linear net n

  abbrev unit : ℕ → ℕ
  unit i = get_or (units net n) i 0

  abbrev row : ℕ → ℕ
  row j = get_or (rows net n) j 0

  unit_below : (i : ℕ) → i < length (units net n) → unit i < net.graph.units
  unit_below i h = unit_known (unit i) (has_at (units net n) i h)

  row_below : (j : ℕ) → j < length (rows net n) → row j < net.graph.materials
  row_below j h = row_known (row j) (has_at (rows net n) j h)

  starts_feasible : StartsFeasible P
  starts_feasible = record {
    costs =
        λ i h. subst (λ z. pos 0 ≤ℤ z) (sym (at-map (unit_cost net n) (units net n) i h))
        (cost_not_negative (unit i) (unit_below i h));
    lows = λ i h. at-map (unit_low net n) (units net n) i h ∙ no_low (unit i) (unit_below i h);
    highs =
        λ i h. subst (λ z. pos 0 ≤ℤ z) (sym (at-map net.most (units net n) i h))
        (most_not_negative (unit i) (unit_below i h));
    floors =
        λ j h. subst (λ z. z ≤ℤ pos 0) (sym (at-map (row_low net n) (rows net n) j h))
        (row_low_is (row j) (row_below j h));
    ceilings =
        λ j h. subst (λ z. pos 0 ≤ℤ z) (sym (at-map (row_high net n) (rows net n) j h))
        (row_high_is (row j) (row_below j h));
  }

  module _ (T : ℕ → ℕ → ℤ) (t : IsTableau P (start P) T) where
    no_entry : (l e r k : ℕ) (which : Which) → IsPastPivot P (start P) T l e r k which → ⊥
    no_entry l e r k which (at_first u k' which' f q) =
        no_pivot P starts_feasible T t l e (T l) (first_kind u f)
    no_entry l e r k which (at_second l' e' c' k' which' f g h m q) =
        no_pivot P starts_feasible T t l e (λ i. neg_ℤ (T l i)) (second_kind l' e' f g)

    module _ (q : IsProgram (program_of net n)) where
      fixes : AllByRecursion (λ i. pos 0 ≤ℤ net.fix i) (units_of net n.inside)
      fixes = all_had (λ i. pos 0 ≤ℤ net.fix i) (units_of net n.inside)
          (λ i e. wants.is_net.fix_not_negative i
          (has_below net.graph.units (units_of net n.inside) i
          (AreBelow-listed net.graph.units n.inside) e))

      unit_starts : (i : ℕ) → has (units net n) i ≡ true → StartsAtZero net n i
      unit_starts i e =
          let l = unit_known i e in
          let (k, h, f) = place_of (units net n) i e in
          let c : IsWithin (10 ^ 36) (P.cost k) =
          All-get_or (IsWithin (10 ^ 36)) (program_of net n).costs k (pos 0)
          (subst (λ m. k < m) (sym q.one_cost) h) q.costs_small in
          record {
            low = no_low i l;
            high = most_not_negative i l;
            not_negative = cost_not_negative i l;
            small =
                subst (λ z. IsWithin (10 ^ 36) z)
                (at-map (unit_cost net n) (units net n) k h ∙ ap (unit_cost net n) f) c;
          }

      -- sizes of 0 over 1
      at_zero : (Of : (ℕ → ℤ) → ℤ → Type 0) (zs : List ℤ) (d : ℤ) → AreZero zs → d ≡ pos 1
          → Of (beside (units net n) zs) d → Of (λ i. pos 0) (pos 1)
      at_zero Of zs d z e o =
          subst (λ f. Of f (pos 1)) (fun_ext (beside_zero (units net n) zs z))
          (subst (λ m. Of (beside (units net n) zs) m) e o)

      no_place : (at : Place) → IsPastAt net n (start P) T at → ⊥
      no_place (Entry l e r k which) h = no_entry l e r k which h
      no_place (Flow u step) h = no_flow_is_past P starts_feasible.lows T u step h.2
      no_place (Cost at) h =
          let o =
          at_zero (λ z d. IsFirstPast (cost_steps net n.inside z d) at) h.zs h.d
          (sizes_are_zero P starts_feasible.lows T h.zs h.d h.read)
          (denominator_is_one P starts_feasible.lows T h.zs h.d h.read) h.of in
          not_both
          (cost_steps net n.inside (λ i. pos 0) (pos 1)) at (cost_in_range net n.inside fixes
          q.fixed_small) o
      no_place (FlowSum at) h =
          let o =
          at_zero (λ z d. IsFirstPast (feasible_steps net n.inside z d) at) h.zs h.d
          (sizes_are_zero P starts_feasible.lows T h.zs h.d h.read)
          (denominator_is_one P starts_feasible.lows T h.zs h.d h.read) h.of in
          not_both
          (feasible_steps net n.inside (λ i. pos 0) (pos 1)) at (feasible_in_range net n.inside)
          o
      no_place (Bound at) h =
          let m = multipliers_are_zero P T (is_start P T t) h.d h.ys h.are in
          let a : IsFirstPast (bound_steps net n (pos 1) (beside (rows net n) h.ys)) at =
          subst (λ d. IsFirstPast (bound_steps net n d (beside (rows net n) h.ys)) at) m.scale
          h.past in
          let b : IsFirstPast (bound_steps net n (pos 1) (λ j. pos 0)) at =
          subst (λ y. IsFirstPast (bound_steps net n (pos 1) y) at)
          (fun_ext (beside_zero (rows net n) h.ys m.none)) a in
          not_both
          (bound_steps net n (pos 1) (λ j. pos 0)) at (bound_in_range net n
          (all_had (StartsAtZero net n) (units net n) unit_starts) q.fixed_small) b
      no_place (Refute r at) h =
          below_and_not (T r (right_at P)) (h.refuting.leaving.negative)
          ((feasible P T (is_start P T t) starts_feasible).values r h.refuting.leaving.basic
          h.refuting.leaving.column)
        where
          below_and_not : (z : ℤ) → z <ℤ pos 0 → pos 0 ≤ℤ z → ⊥
          below_and_not z a b = omega (arith, ints)

  pub none_past : IsProgram (program_of net n) → (last : Basis) (at : Place) → IsPast net n last at
      → ⊥
  none_past q last at h =
      let e = last_is_start P starts_feasible last h.last in
      no_place h.tableau (subst (λ b. IsTableau P b h.tableau) e h.is_tableau)
      q at (subst (λ b. IsPastAt net n b h.tableau at) e h.here)

pub nothing_is_past : NothingIsPast
nothing_is_past p valid h n nonbasic place s =
    none_past (net_of p) (wants_nothing p valid h) n
    (program_is p (well_formed_from_valid p valid) n) s.last s.at s.past

pub nothing_stops : NothingStops
nothing_stops p valid h budget l =
    record {
      enough = not_below_limit p valid budget l;
      in_range =
          λ n nonbasic place sound r s. nothing_is_past p valid h n nonbasic place s;
    }
