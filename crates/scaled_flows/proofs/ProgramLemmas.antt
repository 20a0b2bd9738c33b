-- Sums over the units of a row and over the materials of a unit are those over the whole program,
-- and the check as a whole.
use Rattle.std.proofs.Common.{◌≡◌, ℕ, ◌<◌, Bool, true, false, not, ◌&&◌, cond, List, length, Option}
use Rattle.std.proofs.Common.{Some, None, refl, sym, ap, ◌∙◌, subst, arith, pos, ℤ, ◌+ℤ◌, ◌-ℤ◌}
use Rattle.std.proofs.Common.{◌*ℤ◌, ◌≤ℤ◌}
use Rattle.std.specs.Prelude.{int_div, IfSome, SomeIff}
use Rattle.std.specs.Ordering.{int_eq}
use Rattle.std.proofs.lemmas.Int.{ints}
use Rattle.std.proofs.lemmas.Bool.{lt-ltb}
use Rattle.tree_rules.specs.integer_laws.Total.{total}
use Rattle.tree_rules.proofs.integer_laws.Cited.{zero_of-mul, mul_comm_z, mul-zero_z, total-agree}
use Rattle.tree_rules.specs.number_sets.Sets.{has, listed, IsSet}
use Rattle.tree_rules.proofs.number_sets.Cited.{has-listed}
use Rattle.tree_rules.specs.problem_rules.Problem.{Problem}
use Rattle.tree_rules.specs.problem_rules.WellFormed.{IsWellFormed}
use Rattle.tree_rules.specs.pns_rules.Structure.{mats}
use Rattle.tree_rules.specs.pns_rules.Nodes.{Node}
use Rattle.tree_rules.specs.flow_rules.Net.{Net, net_of}
use Rattle.tree_rules.specs.flow_rules.Relaxed.{stays, units, rows, unit_cost, fixed_cost}
use Rattle.tree_rules.specs.flow_rules.FeasibleSteps.{units_at}
use Rattle.tree_rules.specs.flow_rules.BoundSteps.{rows_at}
use Rattle.tree_rules.proofs.flow_rules.Cited.{total-sets, all_had, zero_from}
use Rattle.flow_program.specs.Entry.{entry}
use Rattle.flow_program.specs.Rates.{AreRates}
use Rattle.flow_program.proofs.Cited.{materials_are_rows}
use Rattle.tree_rules.specs.Lean.{HasCheaper}
use Rattle.scaled_flows.specs.Divisors.{Divisors, Divides, rate_divisor, AreDivisors, HasDivisors}
use Rattle.scaled_flows.specs.Scaled.{scaled_rate, size_floor, size_ceiling, row_floor, row_ceiling}
use Rattle.scaled_flows.specs.Scaled.{scaled_balance, price, size_costs, value_over}
use Rattle.scaled_flows.specs.Settled.{IsSettled}
use Rattle.scaled_flows.specs.LeastCost.{IsLeastCost}
use Rattle.scaled_flows.proofs.OptimalLemmas.{settled_are_optimal, within_reached}

-- ---- what is known of an answer
pub some_weaker : {T : Type 0} (o : Option T) (P Q : T → Type 0) → ((x : T) → P x → Q x)
    → IfSome o P → IfSome o Q
some_weaker None P Q f h = tt
some_weaker (Some x) P Q f h = f x h

pub both_some : {T : Type 0} (o : Option T) (P Q : T → Type 0) → IfSome o P → IfSome o Q
    → IfSome o (λ x. P x × Q x)
both_some None P Q h k = tt
both_some (Some x) P Q h k = (h, k)

pub some_of : (o : Option ℤ) (P : Type 0) (v : ℤ) (Q : ℤ → Type 0) → ((x : ℤ) → x ≡ v → Q x)
    → SomeIff o P v → IfSome o Q
some_of None P v Q f h = tt
some_of (Some x) P v Q f h = f x h.1

pub settled_same : (low low' high high' d z z' p p' : ℤ) → low ≡ low' → high ≡ high' → z ≡ z'
    → p ≡ p' → IsSettled low high d z p → IsSettled low' high' d z' p'
settled_same low low' high high' d z z' p p' e f g h s =
    subst (λ (v : ℤ). IsSettled low' high' d z' v) h
    (subst (λ (v : ℤ). IsSettled low' high' d v p) g
    (subst (λ (v : ℤ). IsSettled low' v d z p) f (subst (λ (v : ℤ). IsSettled v high d z p) e s)))

pub divides_same : (g g' x x' : ℤ) → g ≡ g' → x ≡ x' → Divides g' x' → Divides g x
divides_same g g' x x' e f h =
    subst (λ (v : ℤ). Divides v x) (sym e) (subst (λ (v : ℤ). Divides g' v) (sym f) h)

-- ---- terms of 0 are left out
kept_term : (a b c : Bool) (x : ℤ) → a ≡ c → (b ≡ true → x ≡ pos 0)
    → cond (a && not b) x (pos 0) ≡ cond c x (pos 0)
kept_term true true true x e f = sym (f refl)
kept_term true true false x e f = cc
kept_term true false true x e f = refl
kept_term true false false x e f = cc
kept_term false b true x e f = cc
kept_term false b false x e f = refl

no_rate : (g x : ℤ) → pos 1 ≤ℤ g → Divides g x → x ≡ pos 0 → int_div x g ≡ pos 0
no_rate g x p h e = zero_of-mul g (int_div x g) (omega (arith, ints)) (h ∙ e)

zero_left : (a z : ℤ) → a ≡ pos 0 → a *ℤ z ≡ pos 0
zero_left a z e = ap (λ (x : ℤ). x *ℤ z) e ∙ mul_comm_z (pos 0) z ∙ mul-zero_z z

zero_right : (a z : ℤ) → a ≡ pos 0 → z *ℤ a ≡ pos 0
zero_right a z e = ap (λ (x : ℤ). z *ℤ x) e ∙ mul-zero_z z

module _ (net : Net) (s : Divisors) (divide : AreDivisors net s) (n : Node) where
  rate_none : (j i : ℕ) → j < net.graph.materials → i < net.graph.units
      → int_eq (net.rate j i) (pos 0) ≡ true → scaled_rate net s j i ≡ pos 0
  rate_none j i l k e =
      no_rate (rate_divisor s j) (net.rate j i) (divide.rates_positive j l) (divide.rate j i l k)
      (zero_from (net.rate j i) e)

  -- the units that have a rate of the material leave over what all do
  pub balance_at_units : (set : List ℕ) → set ≡ units net n → (z : ℕ → ℤ) (j : ℕ)
      → j < net.graph.materials
      → total (λ i. scaled_rate net s j i *ℤ z i) (units_at net (has set) j)
      ≡ scaled_balance net s n z j
  balance_at_units set e z j l =
      total-sets (λ i. scaled_rate net s j i *ℤ z i) (λ i. scaled_rate net s j i *ℤ z i)
      (λ i. has set i && not (int_eq (net.rate j i) (pos 0))) (stays n) net.graph.units
      (λ i k. kept_term (has set i) (int_eq (net.rate j i) (pos 0)) (stays n i)
      (scaled_rate net s j i *ℤ z i) (same i k)
      (λ f. zero_left (scaled_rate net s j i) (z i) (rate_none j i l k f)))
    where
      same : (i : ℕ) → i < net.graph.units → has set i ≡ stays n i
      same i k = ap (λ (xs : List ℕ). has xs i) e ∙ has-listed net.graph.units (stays n) i
          ∙ (λ v. lt-ltb i net.graph.units k v && stays n i)

  -- and the rows in which a unit has a rate pay what all do
  prices_at_rows : (y : ℕ → ℤ) (i : ℕ) → i < net.graph.units
      → total (λ j. y j *ℤ scaled_rate net s j i) (rows_at net n i)
      ≡ total (λ j. y j *ℤ scaled_rate net s j i) (rows net n)
  prices_at_rows y i k =
      total-sets (λ j. y j *ℤ scaled_rate net s j i) (λ j. y j *ℤ scaled_rate net s j i)
      (λ j. mats net.graph (stays n) j && not (int_eq (net.rate j i) (pos 0)))
      (mats net.graph (stays n)) net.graph.materials
      (λ j l. kept_term (mats net.graph (stays n) j) (int_eq (net.rate j i) (pos 0))
      (mats net.graph (stays n) j) (y j *ℤ scaled_rate net s j i) refl
      (λ f. zero_right (scaled_rate net s j i) (y j) (rate_none j i l k f)))

module _ (p : Problem) (s : Divisors) (divide : AreDivisors (net_of p) s) (n : Node) where
  pub has_divisors : (u : ℕ) (materials : List ℕ) (rates : List ℤ) → AreRates p u materials rates
      → HasDivisors s materials
  has_divisors u materials rates h j e = (
    let l = h.known j e in let c : length s.rates ≡ length p.materials =
        divide.count in omega arith,
    divide.rates_positive j (h.known j e),
  )

  -- what the rows pay for a unit, over its rates as a table has them
  pub prices_are : (formed : IsWellFormed p) (y : ℕ → ℤ) (u : ℕ) (materials : List ℕ)
      (rates : List ℤ) → IsSet 256 materials → AreRates p u materials rates → u < length p.units
      → stays n u ≡ true
      → total (λ j. y j *ℤ int_div (entry rates j) (rate_divisor s j)) materials
      ≡ total (λ j. y j *ℤ scaled_rate (net_of p) s j u) (rows (net_of p) n)
  prices_are formed y u materials rates set h l stay =
      total-agree (λ j. y j *ℤ int_div (entry rates j) (rate_divisor s j))
      (λ j. y j *ℤ scaled_rate (net_of p) s j u) materials
      (all_had
      (λ j. y j *ℤ int_div (entry rates j) (rate_divisor s j)
      ≡ y j *ℤ scaled_rate (net_of p) s j u) materials
      (λ j e. ap (λ (v : ℤ). y j *ℤ int_div v (rate_divisor s j)) (h.rate j e)))
      ∙ ap (λ (js : List ℕ). total (λ j. y j *ℤ scaled_rate (net_of p) s j u) js)
      (materials_are_rows p formed n u materials rates set h l stay)
      ∙ prices_at_rows (net_of p) s divide n y u l

  pub price_is : (formed : IsWellFormed p) (y : ℕ → ℤ) (u : ℕ) (materials : List ℕ) (rates : List ℤ)
      → IsSet 256 materials → AreRates p u materials rates → u < length p.units → stays n u ≡ true
      → (scale cost : ℤ) → cost ≡ int_div (unit_cost (net_of p) n u) s.costs
      → scale *ℤ cost -ℤ total (λ j. y j *ℤ int_div (entry rates j) (rate_divisor s j)) materials
      ≡ price (net_of p) s n scale y u
  price_is formed y u materials rates set h l stay scale cost c =
      λ k. scale *ℤ c k -ℤ prices_are formed y u materials rates set h l stay k

  listed_has : (m : ℕ) (t : ℕ → Bool) (set : List ℕ) → set ≡ listed m t → (i : ℕ) → i < m
      → t i ≡ true → has set i ≡ true
  listed_has m t set e i l h = ap (λ (xs : List ℕ). has xs i) e ∙ has-listed m t i
      ∙ (λ k. lt-ltb i m l k && h k)

  -- ---- the check as a whole
  --
  -- a fixed cost and a worth of the sizes make the value of the sizes
  value_from : (Q : ℤ → ℤ → Type 0) (z : ℕ → ℤ) (d fixed worth costs : ℤ)
      → fixed ≡ fixed_cost (net_of p) n → worth ≡ s.costs *ℤ s.sizes
      → costs ≡ size_costs (net_of p) s n z
      → (num den : ℤ) → num ≡ fixed *ℤ d +ℤ worth *ℤ costs → den ≡ d
      → Q (value_over (net_of p) s n z d) d → Q num den
  value_from Q z d fixed worth costs f w c num den over is q =
      subst (λ (v : ℤ). Q v den) (sym (over ∙ (λ k. f k *ℤ d +ℤ w k *ℤ c k)))
      (subst (λ (v : ℤ). Q (value_over (net_of p) s n z d) v) (sym is) q)

  pub least_from : (unit_list row_list : List ℕ) → unit_list ≡ units (net_of p) n
      → row_list ≡ rows (net_of p) n → (z : ℕ → ℤ) (d scale : ℤ) (y : ℕ → ℤ) → pos 1 ≤ℤ d
      → pos 1 ≤ℤ scale
      → ((j : ℕ) → has row_list j ≡ true
      → IsSettled (row_floor (net_of p) s n j) (row_ceiling (net_of p) s n j) d
      (scaled_balance (net_of p) s n z j) (y j))
      → ((i : ℕ) → has unit_list i ≡ true
      → IsSettled (size_floor (net_of p) s n i) (size_ceiling (net_of p) s i) d (z i)
      (price (net_of p) s n scale y i))
      → (fixed worth costs : ℤ) → fixed ≡ fixed_cost (net_of p) n → worth ≡ s.costs *ℤ s.sizes
      → costs ≡ size_costs (net_of p) s n z
      → (num den : ℤ) → num ≡ fixed *ℤ d +ℤ worth *ℤ costs → den ≡ d → IsLeastCost p n num den
  least_from unit_list row_list us rs z d scale y dp sp row_settled unit_settled fixed worth costs f
      w c num den over is =
      value_from (IsLeastCost p n) z d fixed worth costs f w c num den over is
      (settled_are_optimal p s divide n z d scale y
      (record {
        positive = dp;
        scale_positive = sp;
        sizes =
            λ i l h. unit_settled i
            (listed_has (net_of p).graph.units (stays n) unit_list us i l h);
        rows =
            λ j l h. row_settled j
            (listed_has (net_of p).graph.materials (mats (net_of p).graph (stays n)) row_list rs j l
            h);
      }))

  pub reached_from : (unit_list row_list : List ℕ) → unit_list ≡ units (net_of p) n
      → row_list ≡ rows (net_of p) n → (z : ℕ → ℤ) (d scale : ℤ) (y : ℕ → ℤ) → pos 1 ≤ℤ d
      → ((j : ℕ) → has row_list j ≡ true
      → IsSettled (row_floor (net_of p) s n j) (row_ceiling (net_of p) s n j) d
      (scaled_balance (net_of p) s n z j) (y j))
      → ((i : ℕ) → has unit_list i ≡ true
      → IsSettled (size_floor (net_of p) s n i) (size_ceiling (net_of p) s i) d (z i)
      (price (net_of p) s n scale y i))
      → (fixed worth costs : ℤ) → fixed ≡ fixed_cost (net_of p) n → worth ≡ s.costs *ℤ s.sizes
      → costs ≡ size_costs (net_of p) s n z
      → (num den : ℤ) → num ≡ fixed *ℤ d +ℤ worth *ℤ costs → den ≡ d → HasCheaper p n num den
  reached_from unit_list row_list us rs z d scale y dp row_settled unit_settled fixed worth costs f
      w c num den over is =
      value_from (HasCheaper p n) z d fixed worth costs f w c num den over is
      (within_reached p s divide n z d (price (net_of p) s n scale y) y dp
      (λ i l h. unit_settled i (listed_has (net_of p).graph.units (stays n) unit_list us i l h))
      (λ j l h. row_settled j
      (listed_has (net_of p).graph.materials (mats (net_of p).graph (stays n)) row_list rs j l
      h)))
