-- The numbers in a valid problem are those of its items.
use Rattle.std.proofs.Common.{◌≤◌, ◌+◌, ℕ, List, [], ◌∷◌, length, arith}
use Rattle.edit_laws.specs.problem_rules.Problem.{Problem, Term, OperatingUnit, Exclusion}
use Rattle.edit_laws.specs.problem_rules.Each.{Each}
use Rattle.edit_laws.specs.problem_rules.Validity.{IsValid}
use Rattle.edit_laws.specs.problem_rules.WellFormed.{IsWellFormed, IsWellFormedTerm}
use Rattle.edit_laws.specs.problem_rules.WellFormed.{IsWellFormedUnit}
use Rattle.edit_laws.specs.problem_rules.WellFormed.{IsWellFormedExclusion, AreRisingFrom}
use Rattle.edit_laws.proofs.problem_rules.Cited.{well_formed_from_valid}
use Rattle.pns_edits.specs.Terms.{AreTermsBelow, IsUnitBelow, AreNumbersBelow, IsExclusionBelow}
use Rattle.pns_edits.specs.Terms.{IsNumbered}

terms_below : (n limit : ℕ) (ts : List Term) → n ≤ limit → Each (IsWellFormedTerm n) ts
    → AreTermsBelow limit ts
terms_below n limit [] le h = tt
terms_below n limit (t ∷ ts) le h =
    (let k = h.0.known in omega arith, terms_below n limit ts le h.1)

units_below : (n limit : ℕ) (us : List OperatingUnit) → n ≤ limit → Each (IsWellFormedUnit n) us
    → Each (IsUnitBelow limit) us
units_below n limit [] le h = tt
units_below n limit (u ∷ us) le h = (
  record {
    inputs = terms_below n limit u.inputs le h.0.inputs.terms_formed;
    outputs =
        terms_below n limit u.outputs le h.0.outputs.terms_formed;
  },
  units_below n limit us le h.1,
)

numbers_below : (n least limit : ℕ) (us : List ℕ) → n ≤ limit → AreRisingFrom n least us
    → AreNumbersBelow limit us
numbers_below n least limit [] le h = tt
numbers_below n least limit (u ∷ us) le h =
    (let k = h.1 in omega arith, numbers_below n (u + 1) limit us le h.2)

exclusions_below : (n limit : ℕ) (es : List Exclusion) → n ≤ limit
    → Each (IsWellFormedExclusion n) es → Each (IsExclusionBelow limit) es
exclusions_below n limit [] le h = tt
exclusions_below n limit (e ∷ es) le h =
    (numbers_below n 0 limit e.units le h.0.rising, exclusions_below n limit es le h.1)

numbered_from_well_formed : (p : Problem) → IsWellFormed p → IsNumbered p
numbered_from_well_formed p h = record {
  few_materials = h.few_materials;
  few_units = h.few_units;
  few_exclusions = h.few_exclusions;
  units_known =
      units_below (length p.materials) (length p.materials) p.units (omega arith) h.units_formed;
  units_small = units_below (length p.materials) 256 p.units h.few_materials h.units_formed;
  exclusions_known =
      exclusions_below (length p.units) (length p.units) p.exclusions (omega arith)
      h.exclusions_formed;
  exclusions_small =
      exclusions_below (length p.units) 128 p.exclusions h.few_units h.exclusions_formed;
}

pub numbered_from_valid : (p : Problem) → IsValid p → IsNumbered p
numbered_from_valid p v = numbered_from_well_formed p (well_formed_from_valid p v)
