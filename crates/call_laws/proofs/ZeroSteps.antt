-- The sums at sizes of 0 over 1, and the bound of multipliers of 0: each of their steps is in
-- range.
use Rattle.std.proofs.Common.{◌≡◌, ℕ, ◌≤◌, ◌^◌, Bool, List, [], ◌∷◌, ◌++◌, arith, refl, sym, ap}
use Rattle.std.proofs.Common.{◌∙◌, subst}
use Rattle.std.specs.Prelude.{ℤ, pos, ◌+ℤ◌, ◌-ℤ◌, ◌*ℤ◌, ◌≤ℤ◌, unsigned_abs}
use Rattle.std.specs.List.{AllByRecursion}
use Rattle.std.specs.Int.{int_min}
use Rattle.std.proofs.lemmas.Int.{ints, clamps}
use Rattle.studio.specs.integer_laws.Range.{InRange}
use Rattle.studio.specs.integer_laws.Total.{total}
use Rattle.studio.proofs.integer_laws.Cited.{mul_nonneg, ring_z, total-same, total-constant_zero}
use Rattle.studio.specs.pns_rules.Nodes.{Node}
use Rattle.studio.specs.flow_rules.Net.{Net, trillion, size_cost, units_of, materials_of}
use Rattle.studio.specs.flow_rules.Relaxed.{units, rows, row_low, row_high, unit_low, unit_cost}
use Rattle.studio.specs.flow_rules.Relaxed.{fixed_cost, reduced_cost, row_part, unit_part}
use Rattle.studio.specs.flow_rules.Steps.{AreInRange}
use Rattle.studio.specs.flow_rules.BoundSteps.{rows_steps, rows_at, reduced_steps, units_steps}
use Rattle.studio.specs.flow_rules.BoundSteps.{bound_steps}
use Rattle.studio.specs.flow_rules.CostSteps.{cost_steps_from, cost_steps}
use Rattle.studio.specs.flow_rules.FeasibleSteps.{units_at, balance_steps, materials_steps}
use Rattle.studio.specs.flow_rules.FeasibleSteps.{feasible_steps}
use Rattle.studio.specs.flow_rules.Program.{IsWithin}
use Rattle.studio.proofs.flow_rules.Cited.{AreInRange-append}
use Rattle.call_laws.proofs.ZeroSizes.{zero_in_range}

abbrev limit : ℤ
limit = pos (10 ^ 33)

within : (z : ℤ) → IsWithin (10 ^ 36) z → InRange z
within z h = omega arith

between : (z : ℤ) → pos 0 ≤ℤ z → z ≤ℤ limit → InRange z
between z h k = omega (arith, ints)

-- ---- costs: the fixed costs are not below 0, so no sum of them is above that of all

module _ (net : Net) where
  costs_in : (is : List ℕ) (sum : ℤ) → AllByRecursion (λ i. pos 0 ≤ℤ net.fix i) is → pos 0 ≤ℤ sum
      → (sum +ℤ trillion *ℤ total net.fix is) ≤ℤ limit
      → AreInRange (cost_steps_from net (λ i. pos 0) (pos 1) is sum)
  costs_in [] sum h s l = tt
  costs_in (i ∷ is) sum h s l =
      let t = not_below is h.1 in
      let a : (net.fix i *ℤ trillion) *ℤ pos 1 ≡ trillion *ℤ net.fix i = omega (arith, ring_z) in
      let b : size_cost net i *ℤ pos 0 ≡ pos 0 = omega (arith, ring_z) in
      let c : trillion *ℤ (net.fix i +ℤ total net.fix is)
      ≡ trillion *ℤ net.fix i +ℤ trillion *ℤ total net.fix is = omega (arith, ring_z) in
      let f = mul_nonneg trillion (net.fix i) (omega (arith, ints)) h.0 in
      let u = mul_nonneg trillion (total net.fix is) (omega (arith, ints)) t in
      let g =
      one_unit sum (trillion *ℤ net.fix i) (trillion *ℤ total net.fix is)
      ((net.fix i *ℤ trillion) *ℤ pos 1) (size_cost net i *ℤ pos 0) a b s f u
      (subst (λ z. (sum +ℤ z) ≤ℤ limit) c l) in (
        g.0,
        (
          g.1,
          (
            g.2,
            (
              g.3,
              costs_in is (sum +ℤ (net.fix i *ℤ trillion) *ℤ pos 1 +ℤ size_cost net i *ℤ pos 0)
                  h.1 g.4
                  g.5,
            ),
          ),
        ),
      )
    where
      not_below : (is : List ℕ) → AllByRecursion (λ i. pos 0 ≤ℤ net.fix i) is
          → pos 0 ≤ℤ total net.fix is
      not_below [] h = omega (arith, ints)
      not_below (i ∷ is) h = let t = not_below is h.1 in let f = h.0 in omega (arith, ints)

      one_unit : (sum fixed rest a b : ℤ) → a ≡ fixed → b ≡ pos 0 → pos 0 ≤ℤ sum → pos 0 ≤ℤ fixed
          → pos 0 ≤ℤ rest → (sum +ℤ (fixed +ℤ rest)) ≤ℤ limit
          → InRange a × InRange (sum +ℤ a) × InRange b × InRange (sum +ℤ a +ℤ b)
          × (pos 0 ≤ℤ (sum +ℤ a +ℤ b)) × ((sum +ℤ a +ℤ b +ℤ rest) ≤ℤ limit)
      one_unit sum fixed rest a b e z s f r l = (
        omega (arith, ints),
        omega (arith, ints),
        omega (arith, ints),
        omega (arith, ints),
        omega (arith, ints),
        omega (arith, ints),
      )

  pub cost_in_range : (s : ℕ → Bool) → AllByRecursion (λ i. pos 0 ≤ℤ net.fix i) (units_of net s)
      → IsWithin (10 ^ 33) (trillion *ℤ total net.fix (units_of net s))
      → AreInRange (cost_steps net s (λ i. pos 0) (pos 1))
  cost_in_range s h l =
      costs_in (units_of net s) (pos 0) h (omega (arith, ints))
      (at_most (trillion *ℤ total net.fix (units_of net s)) l)
    where
      at_most : (z : ℤ) → unsigned_abs z ≤ 10 ^ 33 → (pos 0 +ℤ z) ≤ℤ limit
      at_most z h = omega (arith, ints)

  -- ---- flows

  balance_in : (j : ℕ) (is : List ℕ) (sum : ℤ) → sum ≡ pos 0
      → AreInRange (balance_steps net (λ i. pos 0) j is sum)
  balance_in j [] sum e = tt
  balance_in j (i ∷ is) sum e =
      let a : net.rate j i *ℤ pos 0 ≡ pos 0 = omega (arith, ring_z) in
      let b : sum +ℤ net.rate j i *ℤ pos 0 ≡ pos 0 = added sum (net.rate j i *ℤ pos 0) e a in (
        zero_in_range (net.rate j i *ℤ pos 0) a,
        (
          zero_in_range (sum +ℤ net.rate j i *ℤ pos 0) b,
          balance_in j is (sum +ℤ net.rate j i *ℤ pos 0) b,
        ),
      )
    where
      added : (x y : ℤ) → x ≡ pos 0 → y ≡ pos 0 → x +ℤ y ≡ pos 0
      added x y e f = omega (arith, ints)

  materials_in : (s : ℕ → Bool) (js : List ℕ) → AreInRange (materials_steps net s (λ i. pos 0) js)
  materials_in s [] = tt
  materials_in s (j ∷ js) =
      AreInRange-append (balance_steps net (λ i. pos 0) j (units_at net s j) (pos 0))
      (materials_steps net s (λ i. pos 0) js) (balance_in j (units_at net s j) (pos 0) refl)
      (materials_in s js)

  pub feasible_in_range : (s : ℕ → Bool) → AreInRange (feasible_steps net s (λ i. pos 0) (pos 1))
  feasible_in_range s = materials_in s (materials_of net s)

  -- ---- bounds

  module _ (n : Node) where
    abbrev y : ℕ → ℤ
    y j = pos 0

    no_part : (a b : ℤ) → int_min (pos 0 *ℤ a) (pos 0 *ℤ b) ≡ pos 0
    no_part a b = let u : pos 0 *ℤ a ≡ pos 0 =
        omega (arith, ring_z) in let v : pos 0 *ℤ b ≡ pos 0 =
        omega (arith, ring_z) in least (pos 0 *ℤ a) (pos 0 *ℤ b) u v
      where
        least : (u v : ℤ) → u ≡ pos 0 → v ≡ pos 0 → int_min u v ≡ pos 0
        least u v e f = omega (arith, ints, clamps)

    plus_none : (x z : ℤ) → z ≡ pos 0 → x +ℤ z ≡ x
    plus_none x z e = omega (arith, ints)

    rows_in : (js : List ℕ) (sum : ℤ) → InRange sum → AreInRange (rows_steps net n y js sum)
    rows_in [] sum h = tt
    rows_in (j ∷ js) sum h =
        let e = no_part (row_low net n j) (row_high net n j) in
        let f : sum +ℤ int_min (pos 0 *ℤ row_low net n j) (pos 0 *ℤ row_high net n j) ≡ sum =
        plus_none sum (int_min (pos 0 *ℤ row_low net n j) (pos 0 *ℤ row_high net n j)) e in (
          zero_in_range (int_min (pos 0 *ℤ row_low net n j) (pos 0 *ℤ row_high net n j)) e,
          (
            subst InRange (sym f) h,
            rows_in js (sum +ℤ row_part net n y j) (subst InRange (sym f) h),
          ),
        )

    reduced_in : (rate : ℕ → ℤ) (js : List ℕ) (left : ℤ) → InRange left
        → AreInRange (reduced_steps y rate js left)
    reduced_in rate [] left h = tt
    reduced_in rate (j ∷ js) left h =
        let e : pos 0 *ℤ rate j ≡ pos 0 = omega (arith, ring_z) in
        let f : left -ℤ pos 0 *ℤ rate j ≡ left = less_none left (pos 0 *ℤ rate j) e in (
          zero_in_range (pos 0 *ℤ rate j) e,
          (
            subst InRange (sym f) h,
            reduced_in rate js (left -ℤ pos 0 *ℤ rate j) (subst InRange (sym f) h),
          ),
        )
      where
        less_none : (x z : ℤ) → z ≡ pos 0 → x -ℤ z ≡ x
        less_none x z e = omega (arith, ints)

    -- what holds of the numbers of a unit
    pub record StartsAtZero (i : ℕ) : Type 0 where
      pub low : unit_low net n i ≡ pos 0
      pub high : pos 0 ≤ℤ net.most i
      pub not_negative : pos 0 ≤ℤ unit_cost net n i
      pub small : IsWithin (10 ^ 36) (unit_cost net n i)

    reduced_is : (i : ℕ) → reduced_cost net n (pos 1) y i ≡ unit_cost net n i
    reduced_is i =
        let e : total (λ j. pos 0 *ℤ net.rate j i) (rows net n) ≡ pos 0 =
        total-same (λ j. pos 0 *ℤ net.rate j i) (λ j. pos 0) (λ j. omega (arith, ring_z))
        (rows net n) ∙ total-constant_zero (rows net n) in
        less (unit_cost net n i) (total (λ j. pos 0 *ℤ net.rate j i) (rows net n)) e
      where
        less : (c t : ℤ) → t ≡ pos 0 → pos 1 *ℤ c -ℤ t ≡ c
        less c t e = omega (arith, ints)

    no_unit_part : (i : ℕ) → StartsAtZero i → unit_part net n (pos 1) y i ≡ pos 0
    no_unit_part i h =
        least (reduced_cost net n (pos 1) y i) (unit_low net n i) (net.most i) h.low
        (subst (λ z. pos 0 ≤ℤ z) (sym (reduced_is i)) h.not_negative) h.high
      where
        least : (c low high : ℤ) → low ≡ pos 0 → pos 0 ≤ℤ c → pos 0 ≤ℤ high
            → int_min (c *ℤ low) (c *ℤ high) ≡ pos 0
        least c low high e h k =
            let a : c *ℤ low ≡ pos 0 = ap (λ z. c *ℤ z) e ∙ nothing c in
            let b = mul_nonneg c high h k in
            first (c *ℤ low) (c *ℤ high) a b
          where
            nothing : (c : ℤ) → c *ℤ pos 0 ≡ pos 0
            nothing c = omega (arith, ring_z)

            first : (a b : ℤ) → a ≡ pos 0 → pos 0 ≤ℤ b → int_min a b ≡ pos 0
            first a b e h = omega (arith, ints, clamps)

    units_in : (is : List ℕ) (sum : ℤ) → AllByRecursion StartsAtZero is → InRange sum
        → AreInRange (units_steps net n (pos 1) y is sum)
    units_in [] sum h s = tt
    units_in (i ∷ is) sum h s =
        let c : InRange (pos 1 *ℤ unit_cost net n i) =
        subst InRange (sym (one_time (unit_cost net n i)))
        (within (unit_cost net n i) h.0.small) in
        let e = no_unit_part i h.0 in
        let part : ℤ = unit_part net n (pos 1) y i in
        let f : sum +ℤ unit_part net n (pos 1) y i ≡ sum =
        plus_none sum (unit_part net n (pos 1) y i) e in (
          c,
          AreInRange-append
              (reduced_steps y (λ j. net.rate j i) (rows_at net n i) (pos 1 *ℤ unit_cost net n i)
              ++ (unit_part net n (pos 1) y i ∷ (sum +ℤ unit_part net n (pos 1) y i) ∷ []))
              (units_steps net n (pos 1) y is (sum +ℤ unit_part net n (pos 1) y i))
              (AreInRange-append
              (reduced_steps y (λ j. net.rate j i) (rows_at net n i)
              (pos 1 *ℤ unit_cost net n i))
              (unit_part net n (pos 1) y i ∷ (sum +ℤ unit_part net n (pos 1) y i) ∷ [])
              (reduced_in (λ j. net.rate j i) (rows_at net n i) (pos 1 *ℤ unit_cost net n i) c)
              (zero_in_range (unit_part net n (pos 1) y i) e, (subst InRange (sym f) s, tt)))
              (units_in is (sum +ℤ unit_part net n (pos 1) y i) h.1 (subst InRange (sym f) s)),
        )
      where
        one_time : (c : ℤ) → pos 1 *ℤ c ≡ c
        one_time c = omega (arith, ints)

    pub bound_in_range : AllByRecursion StartsAtZero (units net n)
        → IsWithin (10 ^ 33) (fixed_cost net n)
        → AreInRange (bound_steps net n (pos 1) (λ j. pos 0))
    bound_in_range h l =
        let f : InRange (pos 1 *ℤ fixed_cost net n) = one_time (fixed_cost net n) l in
        let e : total (row_part net n y) (rows net n) ≡ pos 0 =
        total-same (row_part net n y) (λ j. pos 0)
        (λ j. no_part (row_low net n j) (row_high net n j)) (rows net n)
        ∙ total-constant_zero (rows net n) in
        let g : pos 1 *ℤ fixed_cost net n +ℤ total (row_part net n y) (rows net n)
        ≡ pos 1 *ℤ fixed_cost net n =
        plus_none (pos 1 *ℤ fixed_cost net n) (total (row_part net n y) (rows net n)) e in (
          f,
          AreInRange-append (rows_steps net n y (rows net n) (pos 1 *ℤ fixed_cost net n))
              (units_steps net n (pos 1) y (units net n)
              (pos 1 *ℤ fixed_cost net n +ℤ total (row_part net n y) (rows net n)))
              (rows_in (rows net n) (pos 1 *ℤ fixed_cost net n) f)
              (units_in (units net n)
              (pos 1 *ℤ fixed_cost net n +ℤ total (row_part net n y) (rows net n)) h
              (subst InRange (sym g) f)),
        )
      where
        one_time : (c : ℤ) → unsigned_abs c ≤ 10 ^ 33 → InRange (pos 1 *ℤ c)
        one_time c h = omega (arith, ints)
