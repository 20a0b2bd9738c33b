-- The walk over the units of a network that sums its cost.
use Rattle.std.proofs.Common.{◌≡◌, ℕ, ◌+◌, ◌*◌, ◌-◌, ◌<◌, ◌≤◌, List, [], ◌++◌, length, true, sym}
use Rattle.std.proofs.Common.{ap, ◌∙◌, subst, arith, pos, ℤ, ◌+ℤ◌, ◌*ℤ◌}
use Rattle.std.proofs.lemmas.Int.{ints}
use Rattle.exact_numbers.specs.integer_laws.Range.{InRange}
use Rattle.exact_numbers.specs.integer_laws.Total.{total}
use Rattle.exact_numbers.proofs.integer_laws.Cited.{total-agree}
use Rattle.pgraph.specs.number_sets.Sets.{has, IsSet, IsWithin}
use Rattle.pgraph.proofs.number_sets.Cited.{listed-is, below_from}
use Rattle.pgraph.specs.flow_rules.Net.{Net, trillion, size_cost, units_of}
use Rattle.pgraph.specs.flow_rules.Flows.{cost}
use Rattle.pgraph.specs.flow_rules.Steps.{AreInRange, IsFirstPast}
use Rattle.pgraph.specs.flow_rules.CostSteps.{unit_steps, cost_steps_from, cost_steps}
use Rattle.pgraph.proofs.flow_rules.Cited.{Leads, leads_none, leads_part, leads_past_in, leads_all}
use Rattle.pgraph.proofs.flow_rules.Cited.{leads_same, Agree, all_had, costs-same}
use Rattle.flow_program.proofs.WalkLemmas.{IsNext, rest_within}

-- ---- one unit
pub third_past : (fixed each size d sum : ℤ) (at : ℕ) (a b : ℤ) → InRange (fixed *ℤ d)
    → a ≡ fixed *ℤ d → InRange (sum +ℤ a) → ¬ InRange (each *ℤ size)
    → IsFirstPast (unit_steps fixed each size d sum) (at + 2 - at)
third_past fixed each size d sum at a b i e j n =
    let second : at + 2 - at ≡ 2 = omega arith in
    rw second (i, (rw (← e) j, n))

pub fourth_past : (fixed each size d sum : ℤ) (at : ℕ) (a b c : ℤ) → InRange (fixed *ℤ d)
    → a ≡ fixed *ℤ d → InRange (sum +ℤ a) → b ≡ sum +ℤ a → InRange (each *ℤ size) → c ≡ each *ℤ size
    → ¬ InRange (b +ℤ c)
    → IsFirstPast (unit_steps fixed each size d sum) (at + 3 - at)
fourth_past fixed each size d sum at a b c i e j f k g n =
    let third : at + 3 - at ≡ 3 = omega arith in
    rw third (i, (rw (← e) j, (k, rw (← e, ← f, ← g) n)))

-- ---- the walk
abbrev part_of : Net → (ℕ → ℤ) → ℤ → ℕ → ℤ
part_of net z d i = (net.fix i *ℤ trillion) *ℤ d +ℤ size_cost net i *ℤ z i

pub record IsCostSum (net : Net) (z : ℕ → ℤ) (d : ℤ) (set : List ℕ) (sum : ℤ) (at : ℕ)
    (left : List ℕ) : Type 0 where
  pub within : IsWithin (has left) (has set)
  pub room : at + 4 * length left ≡ 4 * length set
  pub value : sum +ℤ total (part_of net z d) left ≡ total (part_of net z d) set
  pub steps : Leads (cost_steps_from net z d set (pos 0)) (cost_steps_from net z d left sum) 0 at

pub cost_sum_begins : (net : Net) (z : ℕ → ℤ) (d : ℤ) (set : List ℕ)
    → IsCostSum net z d set (pos 0) 0 set
cost_sum_begins net z d set =
    record {
      within = λ i h. h;
      room = omega arith;
      value = omega (arith, ints);
      steps =
          leads_none (cost_steps_from net z d set (pos 0)) 0;
    }

module _ (net : Net) (z : ℕ → ℤ) (d : ℤ) (set : List ℕ) (sum : ℤ) (at : ℕ) (left : List ℕ) (i : ℕ)
    (rest : List ℕ) (next : IsNext 128 left i rest)
    (fixed each size : ℤ) (f : fixed ≡ net.fix i *ℤ trillion) (e : each ≡ size_cost net i)
    (s : size ≡ z i) (so_far : IsCostSum net z d set sum at left) where
  lengths : length left ≡ 1 + length rest
  lengths = ap (λ (xs : List ℕ). length xs) next.is ∙ (omega arith)

  after : ℤ
  after = sum +ℤ fixed *ℤ d +ℤ each *ℤ size

  ahead : cost_steps_from net z d left sum ≡ unit_steps fixed each size d sum
      ++ cost_steps_from net z d rest (sum +ℤ fixed *ℤ d +ℤ each *ℤ size)
  ahead = ap (λ (xs : List ℕ). cost_steps_from net z d xs sum) next.is
      ∙ (λ k. unit_steps (sym f k) (sym e k) (sym s k) d sum
      ++ cost_steps_from net z d rest (sum +ℤ sym f k *ℤ d +ℤ sym e k *ℤ sym s k))

  leads : Leads (cost_steps_from net z d set (pos 0))
      (unit_steps fixed each size d sum
      ++ cost_steps_from net z d rest (sum +ℤ fixed *ℤ d +ℤ each *ℤ size)) 0 at
  leads = leads_same _ _ _ 0 at ahead so_far.steps

  pub cost_past : (n : ℕ) → at ≤ n → IsFirstPast (unit_steps fixed each size d sum) (n - at)
      → IsFirstPast (cost_steps_from net z d set (pos 0)) n
  cost_past n le p =
      leads_past_in (cost_steps_from net z d set (pos 0)) (unit_steps fixed each size d sum)
      (cost_steps_from net z d rest (sum +ℤ fixed *ℤ d +ℤ each *ℤ size)) 0 at (n - at) n leads p
      (omega arith)

  pub cost_sum_more : (total : ℤ) → total ≡ sum +ℤ fixed *ℤ d +ℤ each *ℤ size
      → AreInRange (unit_steps fixed each size d sum) → IsCostSum net z d set total (at + 4) rest
  cost_sum_more t is h = record {
    within = λ j k. so_far.within j (rest_within 128 left i rest next j k);
    room = let a = so_far.room in let b = lengths in omega arith;
    value = moved ∙ ap (λ (xs : List ℕ). sum +ℤ total (part_of net z d) xs) (sym next.is)
        ∙ so_far.value;
    steps =
        rw is
        (leads_part (cost_steps_from net z d set (pos 0)) (unit_steps fixed each size d sum)
        (cost_steps_from net z d rest (sum +ℤ fixed *ℤ d +ℤ each *ℤ size)) 0 at leads h);
  }
    where
      regroup : (a b c r : ℤ) → (a +ℤ b +ℤ c) +ℤ r ≡ a +ℤ ((b +ℤ c) +ℤ r)
      regroup a b c r = omega (arith, ints)

      moved : t +ℤ total (part_of net z d) rest
          ≡ sum +ℤ (part_of net z d i +ℤ total (part_of net z d) rest)
      moved = ap (λ w. w +ℤ total (part_of net z d) rest) is
          ∙ regroup sum (fixed *ℤ d) (each *ℤ size) (total (part_of net z d) rest)
          ∙ (λ k. sum +ℤ ((f k *ℤ d +ℤ e k *ℤ s k) +ℤ total (part_of net z d) rest))

pub cost_sum_room : (net : Net) (z : ℕ → ℤ) (d : ℤ) (set : List ℕ) (sum : ℤ) (at : ℕ)
    (left : List ℕ) → length set ≤ 128 → IsCostSum net z d set sum at left → at ≤ 512
cost_sum_room net z d set sum at left few so_far = let a = so_far.room in omega arith

-- ---- the sum over the set, and the definitions
module _ (net : Net) (set : List ℕ) (is : IsSet 128 set)
    (known : (i : ℕ) → has set i ≡ true → i < net.graph.units) (z y : ℕ → ℤ) (agree : Agree z y set)
    (d : ℤ) where
  pub same_units : units_of net (has set) ≡ set
  same_units =
      listed-is net.graph.units set
      (record { rising = is.rising; below = below_from net.graph.units set known })

  pub same_cost_steps : cost_steps_from net z d set (pos 0) ≡ cost_steps net (has set) y d
  same_cost_steps = costs-same net z y d set (pos 0) agree
      ∙ ap (λ (xs : List ℕ). cost_steps_from net y d xs (pos 0)) (sym same_units)

  pub same_cost : total (part_of net z d) set ≡ cost net (has set) y d
  same_cost =
      total-agree (part_of net z d) (part_of net y d) set
      (all_had (λ i. part_of net z d i ≡ part_of net y d i) set
      (λ i h. ap (λ w. (net.fix i *ℤ trillion) *ℤ d +ℤ size_cost net i *ℤ w) (agree i h)))
      ∙ ap (λ (xs : List ℕ). total (part_of net y d) xs) (sym same_units)

  pub cost_value : (sum : ℤ) (at : ℕ) (left : List ℕ) → left ≡ []
      → IsCostSum net z d set sum at left → sum ≡ cost net (has set) y d
  cost_value sum at left e so_far =
      sym (nothing sum (total (part_of net z d) left)
      (ap (λ (xs : List ℕ). total (part_of net z d) xs) e)) ∙ so_far.value ∙ same_cost
    where
      nothing : (a b : ℤ) → b ≡ pos 0 → a +ℤ b ≡ a
      nothing a b e = omega (arith, ints)

  pub cost_in_range : (sum : ℤ) (at : ℕ) (left : List ℕ) → left ≡ []
      → IsCostSum net z d set sum at left → AreInRange (cost_steps net (has set) y d)
  cost_in_range sum at left e so_far =
      subst AreInRange same_cost_steps
      (leads_all _
      0 at (leads_same _ _ _ 0 at (ap (λ (xs : List ℕ). cost_steps_from net z d xs sum) e)
      so_far.steps))

  pub cost_first_past : (n : ℕ) → IsFirstPast (cost_steps_from net z d set (pos 0)) n
      → IsFirstPast (cost_steps net (has set) y d) n
  cost_first_past n p = subst (λ (xs : List ℤ). IsFirstPast xs n) same_cost_steps p
