-- The units of names, one name after another.
use Rattle.std.proofs.Common.{◌≡◌, ◌<◌, ◌||◌, [], ◌∙◌, ℕ, List, Some, Bool, true, false, suc}
use Rattle.std.proofs.Common.{length, get_or, drop, ap, sym, refl, cond, drop-cons, eqb-true, ◌==◌}
use Rattle.std.proofs.Common.{inl, inr, arith}
use Rattle.std.specs.List.{list_any}
use Rattle.std.specs.Str.{bytes_eq}
use Rattle.std.proofs.lemmas.Bool.{or_cases}
use Rattle.std.proofs.lemmas.List.{length-map}
use Rattle.std.proofs.lemmas.List.Quantifiers.{position-Some}
use Rattle.text_lines.specs.number_sets.Sets.{has, with_number}
use Rattle.text_lines.proofs.number_sets.Cited.{has-with_number}
use Rattle.text_lines.specs.problem_rules.Problem.{Problem, OperatingUnit, unit_names}
use Rattle.command_files.specs.studio_rules.Axioms.{is_stranger, first_stranger, is_name_of}
use Rattle.command_files.specs.studio_rules.Axioms.{units_named}
use Rattle.command_files.specs.studio_rules.Axioms.{number_of}

module _ (p : Problem) (names : List (List ℕ)) (k : ℕ) (there : k < length names) where
  pub stranger_here : is_stranger p (get_or names k []) ≡ true
      → first_stranger p (drop k names) ≡ Some (get_or names k [])
  stranger_here e =
      ap (first_stranger p) (drop-cons names k [] there)
      ∙ ap (λ (b : Bool). cond b (Some (get_or names k [])) (first_stranger p (drop (suc k) names)))
      e

  pub stranger_later : is_stranger p (get_or names k []) ≡ false
      → first_stranger p (drop k names) ≡ first_stranger p (drop (suc k) names)
  stranger_later e =
      ap (first_stranger p) (drop-cons names k [] there)
      ∙ ap (λ (b : Bool). cond b (Some (get_or names k [])) (first_stranger p (drop (suc k) names)))
      e

  moved : (a b r : Bool) → ((a || b) || r) ≡ (b || (a || r))
  moved true true r = refl
  moved true false r = refl
  moved false true r = refl
  moved false false r = refl

  pub one_named : (u : ℕ) (had : Bool)
      → ((is_name_of p u (get_or names k []) || had) || units_named p (drop (suc k) names) u)
      ≡ (had || units_named p (drop k names) u)
  one_named u had =
      moved (is_name_of p u (get_or names k [])) had (units_named p (drop (suc k) names) u)
      ∙ ap (λ (b : Bool). had || b)
      (sym (ap (list_any (is_name_of p u)) (drop-cons names k [] there)))

pub named_known : (p : Problem) (name : List ℕ) (unit : ℕ) → Some unit ≡ number_of p name
    → unit < length p.units
named_known p name unit e =
    let inside =
    (position-Some (λ (word : List ℕ). bytes_eq word name) (unit_names p.units) unit []
    (sym e)).0 in
    let same = length-map p.units (λ (u : OperatingUnit). u.name) in
    omega arith

-- one more unit in a set of units of the problem
pub with_known : (n unit : ℕ) (set : List ℕ) → unit < n → ((u : ℕ) → has set u ≡ true → u < n)
    → (u : ℕ) → has (with_number unit set) u ≡ true → u < n
with_known n unit set here all u h =
    elim (or_cases (unit == u) (has set u) (sym (has-with_number unit set u) ∙ h)) [
      | inl q ↦ let same = eqb-true unit u q in omega arith
      | inr q ↦ all u q
    ]
