-- Four small problems, and their solution structures.
use Rattle.std.proofs.Common.{◌≡◌, ℕ, pos, Bool, true, false, List, [], ◌∷◌, refl, arith, None}
use Rattle.std.proofs.lemmas.Bool.{both_ways}
use Rattle.number_sets.specs.Sets.{has}
use Rattle.number_sets.proofs.Cited.{has_below}
use Rattle.problem_rules.specs.Problem.{Problem, Material, Term, OperatingUnit, Kind, raw_material}
use Rattle.problem_rules.specs.Problem.{intermediate, product}
use Rattle.problem_rules.specs.Validity.{IsValid}
use Rattle.pns_rules.specs.Shape.{shape_of}
use Rattle.pns_rules.specs.Structure.{HasPath, IsStructure}
use Rattle.pns_rules.specs.Listing.{IsListing}
use Rattle.pns_rules.proofs.ProperLemmas.{proper_if_valid}
use Rattle.pns_rules.proofs.PathLemmas.{path_found}
use Rattle.pns_rules.proofs.StructureList.{structures_of, listing_is}

-- items named by one letter, without costs and with wide bounds
abbrev material : ℕ → Kind → Material
material letter kind =
    record {
      name = letter ∷ [];
      kind = kind;
      price = pos 0;
      lower = pos 0;
      upper =
          pos 1000000000000000;
    }

abbrev terms : List ℕ → List Term
terms [] = []
terms (x ∷ xs) = record { material = x; rate = pos 1000000 } ∷ terms xs

abbrev unit : ℕ → List ℕ → List ℕ → OperatingUnit
unit letter inputs outputs = record {
  name = letter ∷ [];
  lower = pos 0;
  upper = pos 1000000000000000;
  fix = pos 0;
  proportional = pos 0;
  investment_fix = pos 0;
  investment_proportional = pos 0;
  inputs = terms inputs;
  outputs = terms outputs;
}

abbrev problem : List Material → List OperatingUnit → Problem
problem materials units =
    record { materials = materials; units = units; exclusions = []; payout = pos 1 }

abbrev none_taken : ℕ → Bool
none_taken u = false

-- ---- a cycle: X => Y, Y => X and Y => P have one structure, all three units, though no raw
-- material feeds it

abbrev cycle : Problem
cycle =
    problem (material 88 intermediate ∷ material 89 intermediate ∷ material 80 product ∷ [])
    (unit 97 (0 ∷ []) (1 ∷ []) ∷ unit 98 (1 ∷ []) (0 ∷ []) ∷ unit 99 (1 ∷ []) (2 ∷ []) ∷ [])

cycle_is_valid : IsValid cycle
cycle_is_valid = refl

cycle_structures : structures_of (shape_of cycle) ≡ ((0 ∷ 1 ∷ 2 ∷ []) ∷ [])
cycle_structures = refl

cycle_listing : IsListing (shape_of cycle) None ((0 ∷ 1 ∷ 2 ∷ []) ∷ [])
cycle_listing =
    listing_is (shape_of cycle) (proper_if_valid cycle cycle_is_valid) _ cycle_structures (tt, tt)

-- ---- a detached cycle: besides A => P there are X => Y and Y => X, without a path to a product

abbrev detached : Problem
detached =
    problem (material 65 raw_material ∷ material 80 product ∷ material 88 intermediate
    ∷ material 89 intermediate ∷ [])
    (unit 97 (0 ∷ []) (1 ∷ []) ∷ unit 98 (2 ∷ []) (3 ∷ []) ∷ unit 99 (3 ∷ []) (2 ∷ []) ∷ [])

detached_is_valid : IsValid detached
detached_is_valid = refl

detached_structures : structures_of (shape_of detached) ≡ ((0 ∷ []) ∷ [])
detached_structures = refl

-- with all units the second breaks the fourth axiom
detached_has_no_path : HasPath (shape_of detached) (has (0 ∷ 1 ∷ 2 ∷ [])) 1 → ⊥
detached_has_no_path p =
    both_ways false refl
    (path_found (shape_of detached) (has (0 ∷ 1 ∷ 2 ∷ []))
    (proper_if_valid detached detached_is_valid)
    (λ u e. has_below 3 (0 ∷ 1 ∷ 2 ∷ []) u (omega arith, (omega arith, (omega arith, tt))) e) 1 p)

-- ---- a raw by-product: A => P, and A => P + B with B raw

abbrev by_product : Problem
by_product =
    problem (material 65 raw_material ∷ material 66 raw_material ∷ material 80 product ∷ [])
    (unit 97 (0 ∷ []) (2 ∷ []) ∷ unit 98 (0 ∷ []) (2 ∷ 1 ∷ []) ∷ [])

by_product_is_valid : IsValid by_product
by_product_is_valid = refl

by_product_structures : structures_of (shape_of by_product) ≡ ((0 ∷ []) ∷ [])
by_product_structures = refl

-- the second unit alone breaks the second axiom at B, which is raw and made
raw_is_made : IsStructure (shape_of by_product) (has (1 ∷ [])) → ⊥
raw_is_made h = both_ways true ((h.s2 1 refl).1 refl) refl

-- ---- an input that nothing makes: E => P

abbrev starved : Problem
starved =
    problem (material 69 intermediate ∷ material 80 product ∷ []) (unit 97 (0 ∷ []) (1 ∷ []) ∷ [])

starved_is_valid : IsValid starved
starved_is_valid = refl

starved_structures : structures_of (shape_of starved) ≡ []
starved_structures = refl

starved_listing : IsListing (shape_of starved) None []
starved_listing =
    listing_is (shape_of starved) (proper_if_valid starved starved_is_valid) _ starved_structures tt
