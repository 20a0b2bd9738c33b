-- The faults of the parts of a problem, in the order in which they are judged, and the problems
-- that have none.
use Rattle.std.specs.Prelude.{◌≡◌, ℕ, ◌+◌, nat_lt, nat_le, Bool, true, false, not, ◌||◌, Option}
use Rattle.std.specs.Prelude.{Some, None, List, [], ◌∷◌, ◌++◌, length, ℤ, pos, int_lt, unsigned_abs}
use Rattle.std.specs.List.{list_any}
use Rattle.problem_rules.specs.Problem.{Problem, Material, Term, OperatingUnit, Exclusion}
use Rattle.problem_rules.specs.Problem.{is_product, rates_of, terms_have}
use Rattle.problem_rules.specs.Names.{is_name, is_among}

pub data FaultKind : Type 0 where
  too_many_materials too_many_units bad_name double_name out_of_range low_above_high
      sign : FaultKind
  no_material double_term both_sides empty_side no_product too_many_exclusions bad_exclusion
      bad_payout : FaultKind

-- a fault, with the number of the item that has it
pub record Refusal : Type 0 where
  pub kind : FaultKind
  pub at : ℕ

-- the first refusal of two
abbrev pub or_else : Option Refusal → Option Refusal → Option Refusal
or_else (Some r) rest = Some r
or_else None rest = rest

-- a refusal if the test passes, else the rest
abbrev pub refuse_if : ℕ → FaultKind → Bool → Option Refusal → Option Refusal
refuse_if at kind true rest = Some (record { kind = kind; at = at })
refuse_if at kind false rest = rest

-- items judged in order: `before` has the names of the items before, and `at` is the number of the
-- first
abbrev pub items_fault : {X : Type 0} → (X → List ℕ) → (List (List ℕ) → ℕ → X → Option Refusal)
    → List (List ℕ) → ℕ → List X → Option Refusal
items_fault name judge before at [] = None
items_fault name judge before at (x ∷ xs) =
    or_else (judge before at x) (items_fault name judge (before ++ name x ∷ []) (at + 1) xs)

-- ---- amounts

-- more than 10^9 in absolute value, in millionths
abbrev pub is_out_of_range : ℤ → Bool
is_out_of_range z = nat_lt 1000000000000000 (unsigned_abs z)

abbrev pub is_negative : ℤ → Bool
is_negative z = int_lt z (pos 0)

-- ---- materials

abbrev pub material_out_of_range : Material → Bool
material_out_of_range m =
    is_out_of_range m.price || is_out_of_range m.lower || is_out_of_range m.upper

abbrev pub material_negative : Material → Bool
material_negative m = is_negative m.lower || is_negative m.upper

-- `before` has the names of the materials before it
abbrev pub material_fault : List (List ℕ) → ℕ → Material → Option Refusal
material_fault before at m =
    refuse_if at bad_name (not (is_name m.name))
    (refuse_if at double_name (is_among before m.name)
    (refuse_if at out_of_range (material_out_of_range m)
    (refuse_if at low_above_high (int_lt m.upper m.lower)
    (refuse_if at sign (material_negative m) None))))

abbrev pub materials_fault : List (List ℕ) → ℕ → List Material → Option Refusal
materials_fault before at materials = items_fault (λ m. m.name) material_fault before at materials

-- ---- terms

abbrev pub any_out_of_range : List ℤ → Bool
any_out_of_range [] = false
any_out_of_range (rate ∷ rates) = is_out_of_range rate || any_out_of_range rates

abbrev pub any_below_one : List ℤ → Bool
any_below_one [] = false
any_below_one (rate ∷ rates) = int_lt rate (pos 1) || any_below_one rates

-- a term with a number that is none of so many materials
abbrev pub names_no_material : ℕ → List Term → Bool
names_no_material materials [] = false
names_no_material materials (t ∷ ts) = nat_le materials t.material || names_no_material materials ts

-- a material that is in the list twice
abbrev pub repeats_material : List Term → Bool
repeats_material [] = false
repeats_material (t ∷ ts) = terms_have ts t.material || repeats_material ts

-- a material of the second list that is in the first one too
abbrev pub shares_material : List Term → List Term → Bool
shares_material terms [] = false
shares_material terms (t ∷ ts) = terms_have terms t.material || shares_material terms ts

abbrev pub is_empty : List Term → Bool
is_empty [] = true
is_empty (t ∷ ts) = false

-- ---- operating units

abbrev pub bounds_out_of_range : OperatingUnit → Bool
bounds_out_of_range u = is_out_of_range u.lower || is_out_of_range u.upper

abbrev pub costs_out_of_range : OperatingUnit → Bool
costs_out_of_range u =
    is_out_of_range u.fix || is_out_of_range u.proportional || is_out_of_range u.investment_fix ||
    is_out_of_range u.investment_proportional

abbrev pub rates_out_of_range : OperatingUnit → Bool
rates_out_of_range u = any_out_of_range (rates_of u.inputs) || any_out_of_range (rates_of u.outputs)

abbrev pub unit_out_of_range : OperatingUnit → Bool
unit_out_of_range u = bounds_out_of_range u || costs_out_of_range u || rates_out_of_range u

-- a bound, a fixed cost or an investment fixed cost below 0, or a rate below one millionth
abbrev pub unit_negative : OperatingUnit → Bool
unit_negative u =
    is_negative u.lower || is_negative u.upper || is_negative u.fix || is_negative u.investment_fix
    || any_below_one (rates_of u.inputs) || any_below_one (rates_of u.outputs)

-- the fault of a unit of a problem with so many materials; `before` has the names of the units
-- before it
abbrev pub unit_fault : ℕ → List (List ℕ) → ℕ → OperatingUnit → Option Refusal
unit_fault materials before at u =
    refuse_if at bad_name (not (is_name u.name))
    (refuse_if at double_name (is_among before u.name)
    (refuse_if at out_of_range (unit_out_of_range u)
    (refuse_if at low_above_high (int_lt u.upper u.lower)
    (refuse_if at sign (unit_negative u)
    (refuse_if at no_material
    (names_no_material materials u.inputs || names_no_material materials u.outputs)
    (refuse_if at double_term (repeats_material u.inputs || repeats_material u.outputs)
    (refuse_if at both_sides (shares_material u.inputs u.outputs)
    (refuse_if at empty_side (is_empty u.inputs || is_empty u.outputs) None))))))))

abbrev pub units_fault : ℕ → List (List ℕ) → ℕ → List OperatingUnit → Option Refusal
units_fault materials before at units =
    items_fault (λ u. u.name) (unit_fault materials) before at units

-- ---- exclusions

-- the members do not rise from `least`, or some member is not below `units`
abbrev pub breaks_rise : ℕ → ℕ → List ℕ → Bool
breaks_rise units least [] = false
breaks_rise units least (u ∷ us) =
    (nat_lt u least || nat_le units u) || breaks_rise units (u + 1) us

-- fewer than two members, or members that are not units in rising order
abbrev pub bad_members : ℕ → Exclusion → Bool
bad_members units e = nat_lt (length e.units) 2 || breaks_rise units 0 e.units

-- the fault of an exclusion of a problem with so many units; `before` has the names of the
-- exclusions before it
abbrev pub exclusion_fault : ℕ → List (List ℕ) → ℕ → Exclusion → Option Refusal
exclusion_fault units before at e =
    refuse_if at bad_name (not (is_name e.name))
    (refuse_if at double_name (is_among before e.name)
    (refuse_if at bad_exclusion (bad_members units e) None))

abbrev pub exclusions_fault : ℕ → List (List ℕ) → ℕ → List Exclusion → Option Refusal
exclusions_fault units before at exclusions =
    items_fault (λ e. e.name) (exclusion_fault units) before at exclusions

-- ---- the problem

abbrev pub counts_fault : Problem → Option Refusal
counts_fault p =
    refuse_if 256 too_many_materials (nat_lt 256 (length p.materials))
    (refuse_if 128 too_many_units (nat_lt 128 (length p.units))
    (refuse_if 64 too_many_exclusions (nat_lt 64 (length p.exclusions)) None))

abbrev pub has_product : List Material → Bool
has_product materials = list_any (λ (m : Material). is_product m.kind) materials

abbrev pub is_bad_payout : ℤ → Bool
is_bad_payout years = int_lt years (pos 1) || int_lt (pos 100) years

abbrev pub whole_fault : Problem → Option Refusal
whole_fault p =
    refuse_if 0 no_product (not (has_product p.materials))
    (refuse_if 0 bad_payout (is_bad_payout p.payout) None)

-- the first fault of the problem
abbrev pub fault_of : Problem → Option Refusal
fault_of p =
    or_else (counts_fault p)
    (or_else (materials_fault [] 0 p.materials)
    (or_else (units_fault (length p.materials) [] 0 p.units)
    (or_else (exclusions_fault (length p.units) [] 0 p.exclusions) (whole_fault p))))

-- a problem is valid if it has none of the faults
abbrev pub IsValid : Problem → Type 0
IsValid p = fault_of p ≡ None
