-- What the multipliers of a refuted leaf leave of the cost of a unit. No number that is formed for
-- it is out of range.
use Rattle.std.proofs.Common.{◌≡◌, ℕ, ◌==◌, true, false, List, [], ◌∷◌, ◌++◌}
use Rattle.std.proofs.Common.{refl, sym, SFits, arith}
use Rattle.std.proofs.Common.{ap, subst, ◌∙◌, ◌<◌, length, pos, ℤ, ◌+ℤ◌, ◌-ℤ◌, ◌*ℤ◌, inl}
use Rattle.std.proofs.Common.{inr, eqb-true}
use Rattle.std.specs.Int.{w128}
use Rattle.std.proofs.lemmas.Bool.{or_cases}
use Rattle.std.proofs.lemmas.Int.{ints, fits_signed_from_abs}
use Rattle.cert_check.specs.integer_laws.Range.{InRange}
use Rattle.cert_check.specs.integer_laws.Total.{total}
use Rattle.cert_check.proofs.integer_laws.Cited.{mul-zero_z, mul_comm_z, total-agree}
use Rattle.text_lines.specs.number_sets.Sets.{has, IsSet}
use Rattle.text_lines.specs.problem_rules.Problem.{Problem, rate_of}
use Rattle.text_lines.specs.problem_rules.WellFormed.{IsWellFormed}
use Rattle.cert_check.specs.pns_rules.Nodes.{Node}
use Rattle.cert_check.specs.flow_rules.Net.{Net, net_of}
use Rattle.cert_check.specs.flow_rules.Relaxed.{stays, units, rows, unit_cost, unit_low, fixed_cost}
use Rattle.cert_check.specs.flow_rules.Relaxed.{reduced_cost, row_part, unit_part}
use Rattle.cert_check.specs.flow_rules.Steps.{AreInRange}
use Rattle.cert_check.specs.flow_rules.BoundSteps.{least_steps, rows_steps, rows_at, reduced_steps}
use Rattle.cert_check.specs.flow_rules.BoundSteps.{unit_steps}
use Rattle.cert_check.specs.flow_rules.BoundSteps.{units_steps, bound_steps}
use Rattle.cert_check.proofs.flow_rules.Cited.{Agree, all_had, reduced-same, bound_steps-same}
use Rattle.cert_check.specs.flow_program.Columns.{left_of}
use Rattle.cert_check.specs.flow_program.Entry.{entry}
use Rattle.cert_check.specs.flow_program.Rates.{AreRates}
use Rattle.cert_check.proofs.flow_program.Cited.{materials_are_rows, same_reduced}

nothing_times : (z : ℤ) → pos 0 *ℤ z ≡ pos 0
nothing_times z = mul_comm_z (pos 0) z ∙ mul-zero_z z

-- ---- in range

in_front : (a b : List ℤ) → AreInRange (a ++ b) → AreInRange a
in_front [] b h = tt
in_front (z ∷ a) b h = (h.0, in_front a b h.1)

in_back : (a b : List ℤ) → AreInRange (a ++ b) → AreInRange b
in_back [] b h = h
in_back (z ∷ a) b h = in_back a b h.1

module _ (net : Net) (n : Node) (y : ℕ → ℤ) where
  abbrev Formed : ℕ → Type 0
  Formed i = AreInRange (reduced_steps y (λ j. net.rate j i) (rows_at net n i) (pos 0))

  at_unit : (i : ℕ) (sum : ℤ) (rest : List ℤ)
      → AreInRange (unit_steps net n (pos 0) y i sum ++ rest) → Formed i
  at_unit i sum rest h =
      let paid =
      reduced_steps y (λ j. net.rate j i) (rows_at net n i)
      (pos 0 *ℤ unit_cost net n i) in
      let least =
      least_steps (reduced_cost net n (pos 0) y i) (unit_low net n i) (net.most i) sum in
      subst
      (λ (z : ℤ). AreInRange (reduced_steps y (λ j. net.rate j i) (rows_at net n i) z))
      (nothing_times (unit_cost net n i))
      (in_front paid least (in_front (unit_steps net n (pos 0) y i sum) rest h).1)

  at_units : (is : List ℕ) (sum : ℤ) → AreInRange (units_steps net n (pos 0) y is sum)
      → (i : ℕ)
      → has is i ≡ true → Formed i
  at_units [] sum h i e = let f : false ≡ true = e in cc
  at_units (u ∷ is) sum h i e =
      let next = sum +ℤ unit_part net n (pos 0) y u in
      let rest = units_steps net n (pos 0) y is next in
      elim (or_cases (u == i) (has is i) e) [
        | inl f ↦ subst Formed (eqb-true u i f) (at_unit u sum rest h)
        | inr g ↦ at_units is next (in_back (unit_steps net n (pos 0) y u sum) rest h) i g
      ]

  all_formed : AreInRange (bound_steps net n (pos 0) y) → (i : ℕ)
      → has (units net n) i ≡ true
      → Formed i
  all_formed h =
      let start = pos 0 *ℤ fixed_cost net n in
      let sum = start +ℤ total (row_part net n y) (rows net n) in
      at_units (units net n) sum
      (in_back (rows_steps net n y (rows net n) start)
      (units_steps net n (pos 0) y (units net n) sum) h.1)

-- the same by multipliers that agree with these on the rows
pub formed_by : (net : Net) (n : Node) (y y' : ℕ → ℤ) → Agree y y' (rows net n)
    → AreInRange (bound_steps net n (pos 0) y') → (i : ℕ) → has (units net n) i ≡ true
    → AreInRange (reduced_steps y (λ j. net.rate j i) (rows_at net n i) (pos 0))
formed_by net n y y' agree h =
    all_formed net n y
    (subst AreInRange (sym (bound_steps-same net n y y' agree (pos 0))) h)

pub reduced_by : (net : Net) (n : Node) (y y' : ℕ → ℤ) → Agree y y' (rows net n)
    → (scale : ℤ) (i : ℕ) → reduced_cost net n scale y i ≡ reduced_cost net n scale y' i
reduced_by net n y y' agree scale i =
    ap (λ z. scale *ℤ unit_cost net n i -ℤ z)
    (total-agree (λ j. y j *ℤ net.rate j i) (λ j. y' j *ℤ net.rate j i) (rows net n)
    (all_had (λ j. y j *ℤ net.rate j i ≡ y' j *ℤ net.rate j i) (rows net n)
    (λ j e. ap (λ z. z *ℤ net.rate j i) (agree j e))))

-- ---- one row after another
module _ (y rate : ℕ → ℤ) (left : List ℕ) (so_far : ℤ) (j : ℕ) (rest : List ℕ)
    (is : left ≡ j ∷ rest) where
  module _ (h : AreInRange (reduced_steps y rate left so_far)) where
    ahead : AreInRange (reduced_steps y rate (j ∷ rest) so_far)
    ahead = subst (λ (js : List ℕ). AreInRange (reduced_steps y rate js so_far)) is h

    pub product_in_range : InRange (y j *ℤ rate j)
    product_in_range = ahead.0

    pub difference_in_range : InRange (so_far -ℤ y j *ℤ rate j)
    difference_in_range = ahead.1.0

    pub rest_in_range : (new : ℤ) → new ≡ so_far -ℤ y j *ℤ rate j
        → AreInRange (reduced_steps y rate rest new)
    rest_in_range new e =
        subst (λ (z : ℤ). AreInRange (reduced_steps y rate rest z)) (sym e) ahead.1.1

  pub rest_left : (new : ℤ) → new ≡ so_far -ℤ y j *ℤ rate j
      → left_of y rate rest new ≡ left_of y rate left so_far
  rest_left new e =
      ap (λ (z : ℤ). left_of y rate rest z) e
      ∙ regroup so_far (y j *ℤ rate j) (total (λ j. y j *ℤ rate j) rest)
      ∙ ap (λ (js : List ℕ). left_of y rate js so_far) (sym is)
    where
      regroup : (l p r : ℤ) → (l -ℤ p) -ℤ r ≡ l -ℤ (p +ℤ r)
      regroup l p r = omega (arith, ints)

pub all_left : (y rate : ℕ → ℤ) (left : List ℕ) (so_far whole : ℤ) → left ≡ []
    → left_of y rate left so_far ≡ whole → so_far ≡ whole
all_left y rate left so_far whole e h =
    nothing so_far ∙ ap (λ (js : List ℕ). left_of y rate js so_far) (sym e) ∙ h
  where
    nothing : (a : ℤ) → a ≡ a -ℤ pos 0
    nothing a = omega (arith, ints)

pub fits_in_range : (z : ℤ) → InRange z → SFits w128 z
fits_in_range z h = fits_signed_from_abs w128 z (omega arith)

-- ---- over the rates of a unit in a table
module _ (p : Problem) (formed : IsWellFormed p) (n : Node) (y : ℕ → ℤ) (u : ℕ)
    (materials : List ℕ)
    (rates : List ℤ) (set : IsSet 256 materials) (h : AreRates p u materials rates)
    (l : u < length p.units) (stay : stays n u ≡ true) where
  pub rates_in_range : AreInRange
      (reduced_steps y (λ j. rate_of p j u) (rows_at (net_of p) n u) (pos 0))
      → AreInRange (reduced_steps y (entry rates) materials (pos 0))
  rates_in_range f =
      subst AreInRange
      (sym
      (reduced-same y y (entry rates) (λ j. rate_of p j u) materials (pos 0) (λ j e. refl)
      (λ j e. h.rate j e)
      ∙ ap (λ (js : List ℕ). reduced_steps y (λ j. rate_of p j u) js (pos 0))
      (materials_are_rows p formed n u materials rates set h l stay)))
      f

  pub left_is : left_of y (entry rates) materials (pos 0)
      ≡ reduced_cost (net_of p) n (pos 0) y u
  left_is =
      ap (λ z. left_of y (entry rates) materials z)
      (sym (nothing_times (unit_cost (net_of p) n u)))
      ∙ same_reduced p formed n (pos 0) y u materials rates set h l stay
      (unit_cost (net_of p) n u)
      (unit_low (net_of p) n u) ((net_of p).most u) refl refl refl
