-- Each generated problem is valid.
use Rattle.std.proofs.Common.{◌≡◌, ℕ, zero, suc, ◌+◌, ◌-◌, ◌*◌, ◌<◌, ◌≤◌, true, false, ◌||◌, ◌==◌}
use Rattle.std.proofs.Common.{nat_lt, List, [], ◌∷◌, ◌++◌, map, length, refl, sym, subst, arith}
use Rattle.std.proofs.Common.{length-append}
use Rattle.std.specs.Prelude.{pos}
use Rattle.std.specs.List.{range_with_len}
use Rattle.std.proofs.lemmas.Bool.{or_from, le-ltb, lt-ltb, ne_eqb, eqb-false, cond_both}
use Rattle.std.proofs.lemmas.List.FromFn.{length-map-range_with_len}
use Rattle.std.proofs.Math.Nat.{mod-lt}
use Rattle.text_rules.specs.problem_rules.Problem.{Material, OperatingUnit, Exclusion}
use Rattle.text_rules.specs.problem_rules.Each.{Each}
use Rattle.text_rules.specs.problem_rules.Validity.{has_product, IsValid, shares_material}
use Rattle.text_rules.specs.problem_rules.WellFormed.{IsInRange, IsBound, AreBounds}
use Rattle.text_rules.specs.problem_rules.WellFormed.{IsWellFormedMaterial}
use Rattle.text_rules.specs.problem_rules.WellFormed.{IsWellFormedTerm, IsWellFormedSide}
use Rattle.text_rules.specs.problem_rules.WellFormed.{IsWellFormedUnit}
use Rattle.text_rules.specs.problem_rules.WellFormed.{IsWellFormed}
use Rattle.text_rules.specs.problem_rules.Draws.{first_state, state_after, drawn}
use Rattle.text_rules.specs.problem_rules.Generated.{whole, raw_of, intermediate_of, end_product}
use Rattle.text_rules.specs.problem_rules.Generated.{raw_materials, intermediates, materials_of}
use Rattle.text_rules.specs.problem_rules.Generated.{target, stage}
use Rattle.text_rules.specs.problem_rules.Generated.{input, term, unit, unit_in_turn, units_of}
use Rattle.text_rules.specs.problem_rules.Generated.{chain_length}
use Rattle.text_rules.specs.problem_rules.Generated.{generated}
use Rattle.pns_problem.proofs.DrawLemmas.{drawn-lt}
use Rattle.pns_problem.proofs.GeneratorNameLemmas.{intermediate_is_name, raw_is_name, unit_is_name}
use Rattle.pns_problem.proofs.GeneratorNameLemmas.{units_apart, materials_apart}

-- ---- items of a range

each_in_range : {X : Type 0} (P : X → Type 0) (f : ℕ → X) (a n : ℕ)
    → ((i : ℕ) → i < a + n → P (f i)) → Each P (map f (range_with_len a n))
each_in_range P f a zero h = tt
each_in_range P f a (suc n) h =
    (h a (omega arith), each_in_range P f (a + 1) n (λ i g. h i (omega arith)))

each-append : {X : Type 0} (P : X → Type 0) (xs ys : List X) → Each P xs → Each P ys
    → Each P (xs ++ ys)
each-append P [] ys h g = g
each-append P (x ∷ xs) ys h g = (h.0, each-append P xs ys h.1 g)

-- ---- amounts

in_range : (amount : ℕ) → amount ≤ 1000000000 → IsInRange (whole amount)
in_range amount h = omega arith

bound : (amount : ℕ) → amount ≤ 1000000000 → IsBound (whole amount)
bound amount h =
    record {
      in_range = in_range amount h;
      not_negative =
          le-ltb (amount * 1000000) 0 (omega arith);
    }

bounds : (upper : ℕ) → upper ≤ 1000000000 → AreBounds (pos 0) (whole upper)
bounds upper h =
    record {
      lower_bound = bound 0 (omega arith);
      upper_bound = bound upper h;
      ordered =
          le-ltb (upper * 1000000) 0 (omega arith);
    }

-- ---- materials

raw_formed : (state number : ℕ) → number < 3 → IsWellFormedMaterial (raw_of state number)
raw_formed state number h =
    let price : drawn number state 9 < 9 = drawn-lt number state 9 (omega arith) in
    record {
      named = raw_is_name number h;
      price_in_range =
          in_range (1 + drawn number state 9) (omega arith);
      bounds =
          bounds 1000000000 (omega arith);
    }

intermediate_formed : (number : ℕ) → number < 128 → IsWellFormedMaterial (intermediate_of number)
intermediate_formed number h =
    record {
      named = intermediate_is_name number h;
      price_in_range =
          in_range 0 (omega arith);
      bounds = bounds 1000000000 (omega arith);
    }

end_product_formed : IsWellFormedMaterial end_product
end_product_formed = record {
  named = refl;
  price_in_range = in_range 0 (omega arith);
  bounds =
      record {
        lower_bound = bound 10 (omega arith);
        upper_bound = bound 10 (omega arith);
        ordered =
            refl;
      };
}

materials_formed : (count state : ℕ) → count ≤ 128
    → Each IsWellFormedMaterial (materials_of count state)
materials_formed count state h =
    each-append IsWellFormedMaterial (raw_materials state) (intermediates count ++ end_product ∷ [])
    (each_in_range IsWellFormedMaterial (raw_of state) 0 3
    (λ i g. raw_formed state i (omega arith)))
    (each-append IsWellFormedMaterial (intermediates count) (end_product ∷ [])
    (each_in_range IsWellFormedMaterial intermediate_of 0 count
    (λ i g. intermediate_formed i (omega arith))) (end_product_formed, tt))

materials_counted : (count state : ℕ) → length (materials_of count state) ≡ count + 4
materials_counted count state =
    let n = length-map-range_with_len intermediate_of 0 count in
    let e = length-append (intermediates count) (end_product ∷ []) in
    omega arith

with_product : (a n : ℕ)
    → has_product (map intermediate_of (range_with_len a n) ++ end_product ∷ []) ≡ true
with_product a zero = refl
with_product a (suc n) = with_product (a + 1) n

-- ---- operating units

term_formed : (materials material rate : ℕ) → material < materials → 0 < rate → rate ≤ 1000000000
    → IsWellFormedTerm materials (term material rate)
term_formed materials material rate h g k =
    record {
      known = h;
      in_range = in_range rate k;
      positive =
          lt-ltb 0 (rate * 1000000) (omega arith);
    }

side_formed : (materials material rate : ℕ) → material < materials → 0 < rate → rate ≤ 1000000000
    → IsWellFormedSide materials (term material rate ∷ [])
side_formed materials material rate h g k =
    record {
      some = omega arith;
      terms_formed =
          (term_formed materials material rate h g k, tt);
      once = refl;
    }

-- the input of a unit comes before its target
input-lt : (at state : ℕ) → input at state < target at
input-lt at state =
    cond_both (at == 0) (drawn 0 state 3) _ (λ (v : ℕ). v < 3 + at)
    (λ e. let h : drawn 0 state 3 < 3 = drawn-lt 0 state 3 (omega arith) in omega arith)
    (λ e.
    cond_both (nat_lt (drawn 0 state 4) 3) (target (at - 1)) 2 (λ (v : ℕ). v < 3 + at)
    (λ less. let some : at ≡ 0 → ⊥ = eqb-false at 0 e in omega arith)
    (λ more. omega arith))

sides_apart : (i o ri ro : ℕ) → i < o → shares_material (term i ri ∷ []) (term o ro ∷ []) ≡ false
sides_apart i o ri ro h =
    or_from ((i == o) || false) false (or_from (i == o) false (ne_eqb i o (λ e. omega arith)) refl)
    refl

unit_formed : (count state number : ℕ) → number < 128
    → IsWellFormedUnit (count + 4) (unit count state number)
unit_formed count state number h =
    let below : stage count number < count + 1 = mod-lt number (omega arith) in
    let used = input-lt (stage count number) state in
    let rate : drawn 1 state 2 < 2 = drawn-lt 1 state 2 (omega arith) in
    let fix : drawn 2 state 50 < 50 = drawn-lt 2 state 50 (omega arith) in
    let proportional : drawn 3 state 5 < 5 = drawn-lt 3 state 5 (omega arith) in
    let upper : drawn 4 state 100 < 100 = drawn-lt 4 state 100 (omega arith) in
    record {
      named = unit_is_name number h;
      bounds = bounds (100 + drawn 4 state 100) (omega arith);
      fix = bound (1 + drawn 2 state 50) (omega arith);
      proportional = in_range (1 + drawn 3 state 5) (omega arith);
      investment_fix = bound 0 (omega arith);
      investment_proportional = in_range 0 (omega arith);
      inputs =
          side_formed (count + 4) (input (stage count number) state) 1 (omega arith) (omega arith)
          (omega arith);
      outputs =
          side_formed (count + 4) (target (stage count number)) (1 + drawn 1 state 2) (omega arith)
          (omega arith) (omega arith);
      sides_apart =
          sides_apart (input (stage count number) state) (target (stage count number)) 1
          (1 + drawn 1 state 2) used;
    }

-- ---- the problem

pub generated_is_well_formed : (number units : ℕ) → units ≤ 128
    → IsWellFormed (generated number units)
generated_is_well_formed number units h =
    let few : chain_length units ≤ 128 = omega arith in
    let counted = materials_counted (chain_length units) (first_state number) in
    let made =
    length-map-range_with_len
    (unit_in_turn (chain_length units) (state_after 3 (first_state number))) 0 units in
    let Formed : ℕ → Type 0 =
    λ n. Each (IsWellFormedUnit n)
    (units_of (chain_length units) (state_after 3 (first_state number)) units) in
    record {
      few_materials = omega arith;
      few_units = omega arith;
      few_exclusions = omega arith;
      materials_formed = materials_formed (chain_length units) (first_state number) few;
      units_formed =
          subst Formed (sym counted)
          (each_in_range (IsWellFormedUnit (chain_length units + 4))
          (unit_in_turn (chain_length units) (state_after 3 (first_state number))) 0 units
          (λ i g. unit_formed (chain_length units)
          (state_after (5 * i) (state_after 3 (first_state number))) i (omega arith)));
      exclusions_formed = tt;
      materials_apart = materials_apart (chain_length units) (first_state number) few;
      units_apart = units_apart (chain_length units) (state_after 3 (first_state number)) units h;
      exclusions_apart = refl;
      with_product = with_product 0 (chain_length units);
      payout_positive = refl;
      payout_limit = omega arith;
    }

-- parts that are those of a generated problem
pub valid_parts : (number units : ℕ) (ms : List Material) (us : List OperatingUnit)
    (xs : List Exclusion) → ms ≡ (generated number units).materials
    → us ≡ (generated number units).units → xs ≡ []
    → IsValid (generated number units)
    → IsValid (record { materials = ms; units = us; exclusions = xs; payout = pos 1 })
valid_parts number units ms us xs e f g valid =
    let WithMaterials : List Material → Type 0 =
    λ ms. IsValid (record { materials = ms; units = us; exclusions = xs; payout = pos 1 }) in
    let WithUnits : List OperatingUnit → Type 0 =
    λ us. IsValid
    (record {
      materials = (generated number units).materials;
      units = us;
      exclusions =
          xs;
      payout = pos 1;
    }) in
    let WithExclusions : List Exclusion → Type 0 =
    λ xs. IsValid
    (record {
      materials = (generated number units).materials;
      units =
          (generated number units).units;
      exclusions = xs;
      payout = pos 1;
    }) in
    subst WithMaterials (sym e) (subst WithUnits (sym f) (subst WithExclusions (sym g) valid))
