-- The shape of a valid problem is proper.
use Rattle.std.proofs.Common.{◌≡◌, ⊎_elim, ℕ, ◌+◌, ◌<◌, ◌==◌, Bool, true, false, List, [], ◌∷◌}
use Rattle.std.proofs.Common.{length, refl, ap, ◌∙◌, subst, eqb-true}
use Rattle.std.proofs.lemmas.Bool.{cases_lt, both_ways, or_cases}
use Rattle.std.proofs.lemmas.List.{get_or_past}
use Rattle.number_sets.specs.Sets.{has}
use Rattle.problem_rules.specs.Problem.{Problem, Material, OperatingUnit, Exclusion, Kind}
use Rattle.problem_rules.specs.Problem.{raw_material, intermediate, product, is_raw_material}
use Rattle.problem_rules.specs.Problem.{is_product, terms_have, material_at, unit_at, exclusion_at}
use Rattle.problem_rules.specs.Problem.{no_material, no_unit, no_exclusion}
use Rattle.problem_rules.specs.Validity.{IsValid}
use Rattle.problem_rules.specs.WellFormed.{IsWellFormed, IsWellFormedUnit, IsWellFormedExclusion}
use Rattle.problem_rules.specs.WellFormed.{AreRisingFrom}
use Rattle.problem_rules.proofs.Cited.{Each-at, known_material, sides_apart, well_formed_from_valid}
use Rattle.pns_rules.specs.Shape.{shape_of, IsProper}

-- a raw material is no product
kinds_apart : (k : Kind) → is_raw_material k ≡ true → is_product k ≡ true → ⊥
kinds_apart raw_material r e = both_ways false refl e
kinds_apart intermediate r e = both_ways false refl e
kinds_apart product r e = both_ways false refl r

rising_below : (units least : ℕ) (us : List ℕ) (u : ℕ) → AreRisingFrom units least us
    → has us u ≡ true → u < units
rising_below units least [] u r e = absurd (both_ways false refl e)
rising_below units least (v ∷ vs) u r e =
    ⊎_elim (λ q. subst (λ w. w < units) (eqb-true v u q) r.1)
    (λ q. rising_below units (v + 1) vs u r.2 q) (or_cases (v == u) (has vs u) e)

module _ (p : Problem) (formed : IsWellFormed p) where
  -- a number without an item has no inputs, outputs or excluded units
  unit_known : (test : OperatingUnit → Bool) → test no_unit ≡ false → (u : ℕ)
      → test (unit_at p u) ≡ true → u < length p.units
  unit_known test none u e =
      ⊎_elim (λ lt. lt)
      (λ le. absurd
      (both_ways (test (unit_at p u)) (ap test (get_or_past p.units u no_unit le) ∙ none) e))
      (cases_lt u (length p.units))

  formed_unit : (u : ℕ) → u < length p.units → IsWellFormedUnit (length p.materials) (unit_at p u)
  formed_unit u lt =
      Each-at (IsWellFormedUnit (length p.materials)) p.units u no_unit lt formed.units_formed

  user : (u x : ℕ) → terms_have (unit_at p u).inputs x ≡ true → u < length p.units
  user u x e = unit_known (λ (i : OperatingUnit). terms_have i.inputs x) refl u e

  maker : (u x : ℕ) → terms_have (unit_at p u).outputs x ≡ true → u < length p.units
  maker u x e = unit_known (λ (i : OperatingUnit). terms_have i.outputs x) refl u e

  exclusion_known : (k u : ℕ) → has (exclusion_at p k).units u ≡ true → k < length p.exclusions
  exclusion_known k u e =
      ⊎_elim (λ lt. lt)
      (λ le. absurd
      (both_ways (has (exclusion_at p k).units u)
      (ap (λ (i : Exclusion). has i.units u) (get_or_past p.exclusions k no_exclusion le)) e))
      (cases_lt k (length p.exclusions))

  pub proper_if_formed : IsProper (shape_of p)
  proper_if_formed = record {
    product_known = λ x e.
        ⊎_elim (λ lt. lt)
        (λ le. absurd
        (both_ways (is_product (material_at p x).kind)
        (ap (λ (i : Material). is_product i.kind) (get_or_past p.materials x no_material le))
        e))
        (cases_lt x (length p.materials));
    input_known =
        λ u x e. known_material (length p.materials) (unit_at p u).inputs x
        (formed_unit u (user u x e)).inputs.terms_formed e;
    output_known =
        λ u x e. known_material (length p.materials) (unit_at p u).outputs x
        (formed_unit u (maker u x e)).outputs.terms_formed e;
    kinds_apart = λ x r e. kinds_apart (material_at p x).kind r e;
    user_known = user;
    maker_known = maker;
    excluded_known = λ k u e.
        let lt = exclusion_known k u e in
        let f =
        Each-at (IsWellFormedExclusion (length p.units)) p.exclusions k no_exclusion lt
        formed.exclusions_formed in
        (lt, rising_below (length p.units) 0 (exclusion_at p k).units u f.rising e);
    sides_apart =
        λ u x a b. sides_apart (unit_at p u).inputs (unit_at p u).outputs x
        (formed_unit u (user u x a)).sides_apart a b;
  }

pub proper_if_valid : (p : Problem) → IsValid p → IsProper (shape_of p)
proper_if_valid p valid = proper_if_formed p (well_formed_from_valid p valid)
