-- What is read off at the start of the path: all sizes are 0 over 1, all multipliers are 0, and no
-- number overflows on the way to them.
use Rattle.std.proofs.Common.{◌≡◌, ℕ, zero, suc, ◌+◌, ◌<◌, ◌≤◌, ◌==◌, Bool, true, false, cond, List}
use Rattle.std.proofs.Common.{[], ◌∷◌, ◌++◌, arith, refl, sym, ap, ◌∙◌, subst}
use Rattle.std.specs.Prelude.{ℤ, pos, ◌+ℤ◌, ◌-ℤ◌, ◌*ℤ◌, ◌≤ℤ◌, int_div, unsigned_abs, map, max}
use Rattle.std.specs.Int.{◌∣◌}
use Rattle.std.specs.List.{AllByRecursion, range_with_len}
use Rattle.std.proofs.lemmas.Int.{ints}
use Rattle.std.proofs.lemmas.List.Elements.{All-get_or}
use Rattle.std.proofs.Math.Nat.{eq-one_of_dvd-one}
use Rattle.studio.specs.integer_laws.Range.{InRange}
use Rattle.studio.specs.integer_laws.Reduced.{scaled}
use Rattle.studio.proofs.integer_laws.Cited.{one_divides, V, ◌⊗◌, ring}
use Rattle.studio.specs.flow_rules.Net.{beside}
use Rattle.studio.specs.flow_rules.Steps.{AreInRange}
use Rattle.studio.proofs.flow_rules.Cited.{not_both}
use Rattle.studio.specs.flow_rules.LinearProgram.{LinearProgram}
use Rattle.studio.specs.flow_rules.Columns.{start, t_at, w_at, scale_at}
use Rattle.studio.specs.flow_rules.Start.{IsStart}
use Rattle.studio.specs.flow_rules.Multipliers.{multiplier, multipliers, AreMultipliers}
use Rattle.studio.specs.flow_rules.ReadFlows.{IsLcm, AreValues, FlowStep, Lcm, Shift, Scaled, Total}
use Rattle.studio.specs.flow_rules.ReadFlows.{size_above, size, formed, Formed, lcms, sizes, rounds}
use Rattle.studio.specs.flow_rules.ReadFlows.{numbers, AreRead, IsPastFlow}
use Rattle.call_laws.proofs.FirstBasis.{no_x, scale_one, no_cost}

-- all numbers of a list are 0
abbrev pub AreZero : List ℤ → Type 0
AreZero zs = AllByRecursion (λ z. z ≡ pos 0) zs

-- next to any number there is then 0
pub beside_zero : (xs : List ℕ) (zs : List ℤ) → AreZero zs → (u : ℕ) → beside xs zs u ≡ pos 0
beside_zero [] zs h u = refl
beside_zero (x ∷ xs) [] h u = refl
beside_zero (x ∷ xs) (z ∷ zs) h u = pick (x == u) (beside_zero xs zs h.1 u)
  where
    pick : (b : Bool) → beside xs zs u ≡ pos 0 → cond b z (beside xs zs u) ≡ pos 0
    pick true e = h.0
    pick false e = e

all_appended : {X : Type 0} (P : X → Type 0) (xs ys : List X) → AllByRecursion P xs
    → AllByRecursion P ys → AllByRecursion P (xs ++ ys)
all_appended P [] ys h k = k
all_appended P (x ∷ xs) ys h k = (h.0, all_appended P xs ys h.1 k)

-- the numbers below n are below n
range_below : (a n top : ℕ) → a + n ≤ top → AllByRecursion (λ i. i < top) (range_with_len a n)
range_below a zero top h = tt
range_below a (suc n) top h = (omega arith, range_below (a + 1) n top (omega arith))

zeros : (f : ℕ → ℤ) (top : ℕ) (is : List ℕ) → ((i : ℕ) → i < top → f i ≡ pos 0)
    → AllByRecursion (λ i. i < top) is → AreZero (map f is)
zeros f top [] h k = tt
zeros f top (i ∷ is) h k = (h i k.0, zeros f top is h k.1)

times_zero : (a b : ℤ) → b ≡ pos 0 → a *ℤ b ≡ pos 0
times_zero a b e = ap (λ z. a *ℤ z) e ∙ ring (V a ⊗ V (pos 0)) (V (pos 0)) (omega arith)

zero_times : (a b : ℤ) → a ≡ pos 0 → a *ℤ b ≡ pos 0
zero_times a b e = ap (λ z. z *ℤ b) e ∙ ring (V (pos 0) ⊗ V b) (V (pos 0)) (omega arith)

pub zero_in_range : (z : ℤ) → z ≡ pos 0 → InRange z
zero_in_range z e = omega (arith, ints)

one_in_range : (z : ℤ) → z ≡ pos 1 → InRange z
one_in_range z e = omega (arith, ints)

-- ---- sizes

module _ (p : LinearProgram) (lows : (i : ℕ) → i < p.units → p.low i ≡ pos 0) where
  module _ (T : ℕ → ℕ → ℤ) (own right den : ℕ → ℤ) (v : AreValues p (start p) T own right den) where
    den_one : (i : ℕ) → i ≤ p.units → den i ≡ pos 1
    den_one zero h = v.first
    den_one (suc i) h =
        let l : i < p.units = omega arith in
        let a : IsLcm (unsigned_abs (pos 1)) (unsigned_abs (own i)) (unsigned_abs (den (suc i))) =
        subst (λ z. IsLcm (unsigned_abs z) (unsigned_abs (own i)) (unsigned_abs (den (suc i))))
        (den_one i (omega arith)) (v.next i l) in
        let b : IsLcm 1 1 (unsigned_abs (den (suc i))) =
        subst (λ z. IsLcm 1 (unsigned_abs z) (unsigned_abs (den (suc i))))
        (v.outside-own i l (no_x p i l)) a in
        is_one (den (suc i)) (v.not_negative i l)
        (eq-one_of_dvd-one (b.least 1 (one_divides 1) (one_divides 1)))
      where
        is_one : (z : ℤ) → pos 0 ≤ℤ z → unsigned_abs z ≡ 1 → z ≡ pos 1
        is_one z h e = omega (arith, ints)

    above_zero : (i : ℕ) → i < p.units → size_above p own right den i ≡ pos 0
    above_zero i h =
        times_zero (int_div (den p.units) (own i)) (right i) (v.outside-right i h (no_x p i h))

    shift_zero : (i : ℕ) → i < p.units → p.low i *ℤ den p.units ≡ pos 0
    shift_zero i h = zero_times (p.low i) (den p.units) (lows i h)

    size_zero : (i : ℕ) → i < p.units → size p own right den i ≡ pos 0
    size_zero i h =
        sum (p.low i *ℤ den p.units) (size_above p own right den i) (shift_zero i h)
        (above_zero i h)
      where
        sum : (a b : ℤ) → a ≡ pos 0 → b ≡ pos 0 → a +ℤ b ≡ pos 0
        sum a b e f = omega (arith, ints)

    formed_in_range : (i : ℕ) (step : FlowStep) → i < p.units
        → InRange (formed p own right den i step)
    formed_in_range i Lcm h = one_in_range (den (suc i)) (den_one (suc i) (omega arith))
    formed_in_range i Shift h = zero_in_range (p.low i *ℤ den p.units) (shift_zero i h)
    formed_in_range i Scaled h = zero_in_range (size_above p own right den i) (above_zero i h)
    formed_in_range i Total h = zero_in_range (size p own right den i) (size_zero i h)

    all_in_range : (fs : List Formed) → AllByRecursion (λ (f : Formed). f.unit < p.units) fs
        → AreInRange (map (λ (f : Formed). formed p own right den f.unit f.step) fs)
    all_in_range [] h = tt
    all_in_range (f ∷ fs) h = (formed_in_range f.unit f.step h.0, all_in_range fs h.1)

    of_lcms : (is : List ℕ) → AllByRecursion (λ i. i < p.units) is
        → AllByRecursion (λ (f : Formed). f.unit < p.units) (lcms (start p) is)
    of_lcms [] h = tt
    of_lcms (i ∷ is) h = at (start p i) (of_lcms is h.1)
      where
        at : (b : Bool) → AllByRecursion (λ (f : Formed). f.unit < p.units) (lcms (start p) is)
            → AllByRecursion (λ (f : Formed). f.unit < p.units)
            (cond b (record { unit = i; step = Lcm } ∷ lcms (start p) is) (lcms (start p) is))
        at true k = (h.0, k)
        at false k = k

    of_sizes : (is : List ℕ) → AllByRecursion (λ i. i < p.units) is
        → AllByRecursion (λ (f : Formed). f.unit < p.units) (sizes is)
    of_sizes [] h = tt
    of_sizes (i ∷ is) h = (h.0, (h.0, (h.0, of_sizes is h.1)))

    in_range : AreInRange (numbers p (start p) own right den)
    in_range =
        let r = range_below 0 p.units p.units (omega arith) in
        all_in_range (rounds p (start p))
        (all_appended (λ (f : Formed). f.unit < p.units)
        (lcms (start p) (range_with_len 0 p.units)) (sizes (range_with_len 0 p.units))
        (of_lcms (range_with_len 0 p.units) r) (of_sizes (range_with_len 0 p.units) r))

  -- no number overflows as the flows are read, and they are 0 over 1
  pub no_flow_is_past : (T : ℕ → ℕ → ℤ) (unit : ℕ) (step : FlowStep)
      → IsPastFlow p (start p) T unit step → ⊥
  no_flow_is_past T unit step h =
      not_both (numbers p (start p) h.own h.right h.den) h.at
      (in_range T h.own h.right h.den h.values) h.past

  pub sizes_are_zero : (T : ℕ → ℕ → ℤ) (zs : List ℤ) (d : ℤ) → AreRead p (start p) T zs d
      → AreZero zs
  sizes_are_zero T zs d r =
      subst AreZero (sym r.sizes_are)
      (zeros (size p r.own r.right r.den) p.units (range_with_len 0 p.units)
      (size_zero T r.own r.right r.den r.values) (range_below 0 p.units p.units (omega arith)))

  pub denominator_is_one : (T : ℕ → ℕ → ℤ) (zs : List ℤ) (d : ℤ) → AreRead p (start p) T zs d
      → d ≡ pos 1
  denominator_is_one T zs d r =
      r.d_is ∙ den_one T r.own r.right r.den r.values p.units (omega arith)

-- ---- multipliers

-- a list of zeros that is another one times 1
zeros_from : (zs ys : List ℤ) → AreZero zs → zs ≡ scaled 1 ys → AreZero ys
zeros_from zs [] h e = tt
zeros_from [] (y ∷ ys) h e = absurd (let f : [] ≡ scaled 1 (y ∷ ys) = e in cc)
zeros_from (z ∷ zs) (y ∷ ys) h e =
    let a : z ≡ pos 1 *ℤ y = cc in
    let b : zs ≡ scaled 1 ys = cc in
    (one_time z y a h.0, zeros_from zs ys h.1 b)
  where
    one_time : (z y : ℤ) → z ≡ pos 1 *ℤ y → z ≡ pos 0 → y ≡ pos 0
    one_time z y a e = omega (arith, ints)

module _ (p : LinearProgram) (T : ℕ → ℕ → ℤ) (s : IsStart p T) where
  no_multipliers : AreZero (multipliers p (T (scale_at p)))
  no_multipliers =
      zeros (multiplier p (T (scale_at p))) p.rows (range_with_len 0 p.rows) none
      (range_below 0 p.rows p.rows (omega arith))
    where
      none : (j : ℕ) → j < p.rows → multiplier p (T (scale_at p)) j ≡ pos 0
      none j h =
          less (T (scale_at p) (t_at p j)) (T (scale_at p) (w_at p j))
          (no_cost p T s (t_at p j) (omega arith) (omega arith))
          (no_cost p T s (w_at p j) (omega arith) (omega arith))
        where
          less : (a b : ℤ) → a ≡ pos 0 → b ≡ pos 0 → a -ℤ b ≡ pos 0
          less a b e f = omega (arith, ints)

  pub record AreNoMultipliers (d : ℤ) (ys : List ℤ) : Type 0 where
    pub scale : d ≡ pos 1
    pub none : AreZero ys

  pub multipliers_are_zero : (d : ℤ) (ys : List ℤ) → AreMultipliers p (T (scale_at p)) d ys
      → AreNoMultipliers d ys
  multipliers_are_zero d ys r =
      let old : List ℤ = T (scale_at p) (scale_at p) ∷ multipliers p (T (scale_at p)) in
      let g : r.common ∣ unsigned_abs (T (scale_at p) (scale_at p)) =
      All-get_or (λ x. r.common ∣ unsigned_abs x) old 0 (pos 0) (omega arith)
      r.is_gcd.divides in
      let one : r.common ≡ 1 =
      eq-one_of_dvd-one (subst (λ z. r.common ∣ unsigned_abs z) (scale_one p T s) g) in
      let e : old ≡ scaled 1 (d ∷ ys) = r.old-is ∙ ap (λ k. scaled (max 1 k) (d ∷ ys)) one in
      let a : T (scale_at p) (scale_at p) ≡ pos 1 *ℤ d = cc in
      let b : multipliers p (T (scale_at p)) ≡ scaled 1 ys = cc in
      record {
        scale = one_time (T (scale_at p) (scale_at p)) d a (scale_one p T s);
        none = zeros_from (multipliers p (T (scale_at p))) ys no_multipliers b;
      }
    where
      one_time : (z y : ℤ) → z ≡ pos 1 *ℤ y → z ≡ pos 1 → y ≡ pos 1
      one_time z y a e = omega (arith, ints)
