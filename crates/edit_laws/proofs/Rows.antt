-- Worked edits of a small problem, by computation.
use Rattle.std.proofs.Common.{◌≡◌, ℕ, List, [], ◌∷◌, ◌++◌, ℤ, pos, Some, None, true, refl}
use Rattle.std.specs.Prelude.{codes}
use Rattle.edit_rules.specs.number_sets.Sets.{listed}
use Rattle.edit_rules.specs.problem_rules.Problem.{Problem, Kind, raw_material, intermediate}
use Rattle.edit_rules.specs.problem_rules.Problem.{product}
use Rattle.edit_rules.specs.problem_rules.Problem.{Material, Term, OperatingUnit}
use Rattle.edit_rules.specs.problem_rules.Validity.{IsValid}
use Rattle.edit_rules.specs.Edit.{NamedTerm, Edit, bounds, kind, fix, proportional, rename_unit}
use Rattle.edit_rules.specs.Edit.{add_material, remove_material, add_unit, remove_unit, exclude}
use Rattle.edit_rules.specs.Edit.{unexclude, investment, payout}
use Rattle.edit_rules.specs.Effect.{effect}
use Rattle.edit_rules.specs.Fault.{unknown_name, double_name, bad_place, low_above_high, in_use}
use Rattle.edit_rules.specs.Fault.{no_product, fault_of}
use Rattle.edit_rules.specs.Inverse.{inverse}
use Rattle.edit_rules.specs.Migration.{migration, has_payout}
use Rattle.edit_rules.specs.Script.{applied, undoing}

abbrev most : ℤ
most = pos 1000000000000000

abbrev whole : ℕ → Term
whole x = record { material = x; rate = pos 1000000 }

abbrev unit : List ℕ → ℤ → ℤ → ℤ → ℕ → ℕ → OperatingUnit
unit name upper yearly rate x y = record {
  name = name;
  lower = pos 0;
  upper = upper;
  fix = yearly;
  proportional = rate;
  investment_fix = pos 0;
  investment_proportional = pos 0;
  inputs = whole x ∷ [];
  outputs = whole y ∷ [];
}

abbrev material : List ℕ → Kind → ℤ → ℤ → ℤ → Material
material name of_kind at_price lower upper =
    record { name = name; kind = of_kind; price = at_price; lower = lower; upper = upper }

-- raw materials A and B, intermediates C, E and F, product P; U1: A => C, U2: B => C, U3: C => P,
-- U4: E => P, U5: B => F
abbrev sample : Problem
sample = record {
  materials =
      material (codes "A") raw_material (pos 2000000) (pos 0) most ∷
      material (codes "B") raw_material (pos 3000000) (pos 0) most ∷
      material (codes "C") intermediate (pos 0) (pos 0) most ∷
      material (codes "E") intermediate (pos 0) (pos 0) most ∷
      material (codes "F") intermediate (pos 0) (pos 0) most ∷
      material (codes "P") product (pos 0) (pos 20000000) (pos 20000000) ∷ [];
  units =
      unit (codes "U1") (pos 100000000) (pos 10000000) (pos 1000000) 0 2 ∷
      unit (codes "U2") (pos 100000000) (pos 1000000) (pos 1000000) 1 2 ∷
      unit (codes "U3") (pos 150000000) (pos 5000000) (pos 0) 2 5 ∷
      unit (codes "U4") most (pos 0) (pos 0) 3 5 ∷
      unit (codes "U5") most (pos 0) (pos 0) 1 4 ∷ [];
  exclusions = [];
  payout = pos 1;
}

-- the same with units that exclude each other
abbrev excluding : Problem
excluding = effect sample (exclude 0 (codes "X1") (codes "U2" ∷ codes "U1" ∷ []))

sample_valid : IsValid sample
sample_valid = refl

excluding_valid : IsValid excluding
unfolding listed
excluding_valid = refl

-- members are in file order
file_order : excluding.exclusions ≡ record { name = codes "X1"; units = 0 ∷ 1 ∷ [] } ∷ []
unfolding listed
file_order = refl

abbrev by_name : List ℕ → NamedTerm
by_name name = record { name = name; rate = pos 1000000 }

-- ---- faults of meaning

removed_product : fault_of sample (remove_material (codes "P")) ≡ Some in_use
removed_product = refl

no_product_left : fault_of sample (kind (codes "P") intermediate) ≡ Some no_product
no_product_left = refl

far_place : fault_of sample
    (add_unit 6 (codes "U6") (pos 0) (pos 1000000) (pos 0) (pos 0) (by_name (codes "A") ∷ [])
    (by_name (codes "C") ∷ [])) ≡ Some bad_place
far_place = refl

last_place : fault_of sample
    (add_unit 5 (codes "U6") (pos 0) (pos 1000000) (pos 0) (pos 0) (by_name (codes "A") ∷ [])
    (by_name (codes "C") ∷ [])) ≡ None
last_place = refl

crossed : fault_of sample (bounds (codes "C") (pos 5000000) (pos 4000000)) ≡ Some low_above_high
crossed = refl

same_name : fault_of sample (rename_unit (codes "U1") (codes "U1")) ≡ Some double_name
same_name = refl

no_such_unit : fault_of sample (remove_unit (codes "U9")) ≡ Some unknown_name
no_such_unit = refl

excluded : fault_of excluding (remove_unit (codes "U1")) ≡ Some in_use
unfolding listed
excluded = refl

-- of two faults of one edit the least is reported
both_faults : fault_of sample (bounds (codes "nosuch") (pos 5) (pos 4)) ≡ Some unknown_name
both_faults = refl

renamed_to_itself : fault_of sample (rename_unit (codes "nosuch") (codes "nosuch"))
    ≡ Some unknown_name
renamed_to_itself = refl

-- ---- inverses

unit_put_back : inverse sample (remove_unit (codes "U2"))
    ≡ add_unit 1 (codes "U2") (pos 0) (pos 100000000) (pos 1000000) (pos 1000000)
    (by_name (codes "B") ∷ []) (by_name (codes "C") ∷ []) ∷ []
unit_put_back = refl

back : applied (effect sample (remove_unit (codes "U2")))
    (inverse sample (remove_unit (codes "U2"))) ≡ sample
back = refl

abbrev two_lines : List Edit
two_lines = investment (codes "U2") (pos 100) (pos 10) ∷ remove_unit (codes "U2") ∷ []

-- the two edits of one inverse are in their own order, and before the inverses of earlier edits
invested_back : undoing sample two_lines ≡
    add_unit 1 (codes "U2") (pos 0) (pos 100000000) (pos 1000000) (pos 1000000)
    (by_name (codes "B") ∷ []) (by_name (codes "C") ∷ []) ∷
    investment (codes "U2") (pos 100) (pos 10) ∷ investment (codes "U2") (pos 0) (pos 0) ∷ []
invested_back = refl

abbrev many : List Edit
many =
    remove_unit (codes "U1") ∷ exclude 0 (codes "X1") (codes "U5" ∷ codes "U2" ∷ []) ∷
    add_unit 1 (codes "U6") (pos 0) (pos 1000000) (pos 0) (pos 0) (by_name (codes "A") ∷ [])
    (by_name (codes "C") ∷ []) ∷
    add_material 0 (codes "Z") intermediate (pos 0) (pos 0) most
    ∷ rename_unit (codes "U2") (codes "U1") ∷ unexclude (codes "X1") ∷
    remove_material (codes "Z") ∷ []

many_back : applied (applied sample many) (undoing sample many) ≡ sample
unfolding listed
many_back = refl

-- ---- migration

abbrev to_investment : List ℕ → ℤ → ℤ → List Edit
to_investment name once rate =
    fix name (pos 0) ∷ proportional name (pos 0) ∷ investment name once rate ∷ []

-- no lines for U4 and U5, which cost nothing
migrated : migration (pos 10) sample ≡
    payout (pos 10) ∷ to_investment (codes "U1") (pos 100000000) (pos 10000000)
    ++ to_investment (codes "U2") (pos 10000000) (pos 10000000)
    ++ to_investment (codes "U3") (pos 50000000) (pos 0)
migrated = refl

migrated_once : has_payout (applied sample (migration (pos 10) sample)) ≡ true
migrated_once = refl
