-- The sides of a unit, with their keys separated from their rates.
use Rattle.std.proofs.Common.{◌≡◌, ◌<◌, ◌==◌, ℕ, false, ◌||◌, List, [], ◌∷◌, pos, refl, sym, ap}
use Rattle.std.proofs.Common.{◌∙◌, subst, arith}
use Rattle.std.specs.List.{list_any}
use Rattle.std.specs.Str.{bytes_eq}
use Rattle.std.proofs.lemmas.List.{length-map}
use Rattle.std.proofs.lemmas.Bool.{or_parts, or_from}
use Rattle.edit_rules.specs.problem_rules.Problem.{Term, OperatingUnit, numbers_of, rates_of}
use Rattle.edit_rules.specs.problem_rules.Problem.{terms_have}
use Rattle.edit_rules.specs.problem_rules.Names.{is_among, has_double}
use Rattle.edit_rules.specs.problem_rules.Each.{Each}
use Rattle.edit_rules.specs.problem_rules.Validity.{repeats_material, shares_material}
use Rattle.edit_rules.specs.problem_rules.WellFormed.{IsBound, IsWellFormedTerm, IsWellFormedUnit}
use Rattle.edit_rules.specs.Edit.{NamedTerm}
use Rattle.edit_rules.specs.Formed.{term_names, IsFormedTerm, AreFormedSides}
use Rattle.edit_laws.proofs.Soundness.{IsSoundUnit, AreKnown}
use Rattle.edit_laws.proofs.Goodness.{same_number, among, double, both, IsRate, AreSides}
use Rattle.edit_laws.proofs.Goodness.{IsGoodUnit, named_rates, AreNames}
use Rattle.edit_laws.proofs.NameLemmas.{other_bytes}

pub no_cost : IsBound (pos 0)
no_cost = record { in_range = omega arith; not_negative = refl }

-- ---- keys that are names

pub among_is : (x : List ℕ) (xs : List (List ℕ)) → among bytes_eq x xs ≡ is_among xs x
among_is x [] = refl
among_is x (y ∷ ys) = ap (λ b. bytes_eq y x || b) (among_is x ys)

pub double_is : (xs : List (List ℕ)) → double bytes_eq xs ≡ has_double xs
double_is [] = refl
double_is (x ∷ xs) = λ i. among_is x xs i || double_is xs i

both_is : (ks js : List (List ℕ)) → both bytes_eq ks js ≡ list_any (is_among ks) js
both_is ks [] = refl
both_is ks (j ∷ js) = λ i. among_is j ks i || both_is ks js i

both_parts : (k : List ℕ) (ks js : List (List ℕ)) → both bytes_eq (k ∷ ks) js ≡ false
    → (among bytes_eq k js ≡ false) × (both bytes_eq ks js ≡ false)
both_parts k ks [] e = (refl, refl)
both_parts k ks (j ∷ js) e =
    let p = or_parts (among bytes_eq j (k ∷ ks)) (both bytes_eq (k ∷ ks) js) e in
    let q = or_parts (bytes_eq k j) (among bytes_eq j ks) p.0 in
    let r = both_parts k ks js p.1 in (
      or_from (bytes_eq j k) (among bytes_eq k js) (other_bytes k j q.0) r.0,
      or_from (among bytes_eq j ks) (both bytes_eq ks js) q.1 r.1,
    )

both_turned : (ks js : List (List ℕ)) → both bytes_eq ks js ≡ false → both bytes_eq js ks ≡ false
both_turned [] js e = refl
both_turned (k ∷ ks) js e =
    let p = both_parts k ks js e in
    or_from (among bytes_eq k js) (both bytes_eq js ks) p.0 (both_turned ks js p.1)

rates_of_named : (ts : List NamedTerm) → Each IsFormedTerm ts → Each IsRate (named_rates ts)
rates_of_named [] h = tt
rates_of_named (t ∷ ts) h =
    (record { in_range = h.0.in_range; positive = h.0.positive }, rates_of_named ts h.1)

named_of_rates : (ts : List NamedTerm) → Each IsRate (named_rates ts) → AreNames (term_names ts)
    → Each IsFormedTerm ts
named_of_rates [] h n = tt
named_of_rates (t ∷ ts) h n = (
  record { named = n.0; in_range = h.0.in_range; positive = h.0.positive },
  named_of_rates ts h.1 n.1,
)

pub sides_from : (ins outs : List NamedTerm) → AreFormedSides ins outs
    → AreSides bytes_eq (named_rates ins) (named_rates outs) (term_names ins) (term_names outs)
sides_from ins outs h = record {
  ins_rated = rates_of_named ins h.inputs_formed.terms_formed;
  outs_rated = rates_of_named outs h.outputs_formed.terms_formed;
  ins_once = double_is (term_names ins) ∙ h.inputs_formed.once;
  outs_once = double_is (term_names outs) ∙ h.outputs_formed.once;
  apart =
      both_turned (term_names outs) (term_names ins)
      (both_is (term_names outs) (term_names ins) ∙ h.apart);
  ins_some =
      subst (λ n. 0 < n) (sym (length-map ins (λ (t : NamedTerm). t.name))) h.inputs_formed.some;
  outs_some =
      subst (λ n. 0 < n) (sym (length-map outs (λ (t : NamedTerm). t.name))) h.outputs_formed.some;
}

pub from_sides : (ins outs : List NamedTerm) → AreNames (term_names ins)
    → AreNames (term_names outs)
    → AreSides bytes_eq (named_rates ins) (named_rates outs) (term_names ins) (term_names outs)
    → AreFormedSides ins outs
from_sides ins outs n m h = record {
  inputs_formed = record {
    some = subst (λ n. 0 < n) (length-map ins (λ (t : NamedTerm). t.name)) h.ins_some;
    terms_formed = named_of_rates ins h.ins_rated n;
    once = sym (double_is (term_names ins)) ∙ h.ins_once;
  };
  outputs_formed = record {
    some = subst (λ n. 0 < n) (length-map outs (λ (t : NamedTerm). t.name)) h.outs_some;
    terms_formed = named_of_rates outs h.outs_rated m;
    once = sym (double_is (term_names outs)) ∙ h.outs_once;
  };
  apart = sym (both_is (term_names outs) (term_names ins))
      ∙ both_turned (term_names ins) (term_names outs) h.apart;
}

-- ---- keys that are numbers

pub among_numbers : (x : ℕ) (ts : List Term) → among same_number x (numbers_of ts) ≡ terms_have ts x
among_numbers x [] = refl
among_numbers x (t ∷ ts) = ap (λ b. (t.material == x) || b) (among_numbers x ts)

double_numbers : (ts : List Term) → double same_number (numbers_of ts) ≡ repeats_material ts
double_numbers [] = refl
double_numbers (t ∷ ts) = λ i. among_numbers t.material ts i || double_numbers ts i

both_numbers : (ins outs : List Term)
    → both same_number (numbers_of ins) (numbers_of outs) ≡ shares_material ins outs
both_numbers ins [] = refl
both_numbers ins (t ∷ ts) = λ i. among_numbers t.material ins i || both_numbers ins ts i

rates_of_terms : (n : ℕ) (ts : List Term) → Each (IsWellFormedTerm n) ts → Each IsRate (rates_of ts)
rates_of_terms n [] h = tt
rates_of_terms n (t ∷ ts) h =
    (record { in_range = h.0.in_range; positive = h.0.positive }, rates_of_terms n ts h.1)

known_terms : (n : ℕ) (ts : List Term) → Each (IsWellFormedTerm n) ts → AreKnown n ts
known_terms n [] h = tt
known_terms n (t ∷ ts) h = (h.0.known, known_terms n ts h.1)

terms_of_rates : (n : ℕ) (ts : List Term) → Each IsRate (rates_of ts) → AreKnown n ts
    → Each (IsWellFormedTerm n) ts
terms_of_rates n [] h k = tt
terms_of_rates n (t ∷ ts) h k = (
  record { known = k.0; in_range = h.0.in_range; positive = h.0.positive },
  terms_of_rates n ts h.1 k.1,
)

-- ---- units

pub good_unit : (n : ℕ) (u : OperatingUnit) → IsWellFormedUnit n u → IsGoodUnit u
good_unit n u h = record {
  named = h.named;
  lower = h.bounds.lower_bound;
  upper = h.bounds.upper_bound;
  fix = h.fix;
  proportional = h.proportional;
  investment_fix = h.investment_fix;
  investment_proportional = h.investment_proportional;
  sides = record {
    ins_rated = rates_of_terms n u.inputs h.inputs.terms_formed;
    outs_rated = rates_of_terms n u.outputs h.outputs.terms_formed;
    ins_once = double_numbers u.inputs ∙ h.inputs.once;
    outs_once = double_numbers u.outputs ∙ h.outputs.once;
    apart = both_numbers u.inputs u.outputs ∙ h.sides_apart;
    ins_some =
        subst (λ n. 0 < n) (sym (length-map u.inputs (λ (t : Term). t.material))) h.inputs.some;
    outs_some =
        subst (λ n. 0 < n) (sym (length-map u.outputs (λ (t : Term). t.material))) h.outputs.some;
  };
}

pub sound_unit : (n : ℕ) (u : OperatingUnit) → IsWellFormedUnit n u → IsSoundUnit n u
sound_unit n u h = record {
  ordered = h.bounds.ordered;
  inputs_known = known_terms n u.inputs h.inputs.terms_formed;
  outputs_known = known_terms n u.outputs h.outputs.terms_formed;
}

pub well_formed_unit : (n : ℕ) (u : OperatingUnit) → IsGoodUnit u → IsSoundUnit n u
    → IsWellFormedUnit n u
well_formed_unit n u g s = record {
  named = g.named;
  bounds = record { lower_bound = g.lower; upper_bound = g.upper; ordered = s.ordered };
  fix = g.fix;
  proportional = g.proportional;
  investment_fix = g.investment_fix;
  investment_proportional = g.investment_proportional;
  inputs = record {
    some = subst (λ n. 0 < n) (length-map u.inputs (λ (t : Term). t.material)) g.sides.ins_some;
    terms_formed = terms_of_rates n u.inputs g.sides.ins_rated s.inputs_known;
    once = sym (double_numbers u.inputs) ∙ g.sides.ins_once;
  };
  outputs = record {
    some = subst (λ n. 0 < n) (length-map u.outputs (λ (t : Term). t.material)) g.sides.outs_some;
    terms_formed = terms_of_rates n u.outputs g.sides.outs_rated s.outputs_known;
    once = sym (double_numbers u.outputs) ∙ g.sides.outs_once;
  };
  sides_apart = sym (both_numbers u.inputs u.outputs) ∙ g.sides.apart;
}
