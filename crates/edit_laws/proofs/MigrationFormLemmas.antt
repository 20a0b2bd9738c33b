-- The edits of a migration have no fault of form.
use Rattle.std.proofs.Common.{◌≡◌, ◌*ℤ◌, ◌*◌, ℕ, ◌+◌, Bool, true, false, cond, Option, Some, None}
use Rattle.std.proofs.Common.{List, [], ◌∷◌, length, ℤ, pos, negsuc, refl, arith}
use Rattle.std.specs.Prelude.{flat_map, int_lt}
use Rattle.std.specs.List.{position_from}
use Rattle.std.proofs.lemmas.Bool.{or_parts, le-ltb}
use Rattle.edit_rules.specs.problem_rules.Problem.{Problem, OperatingUnit}
use Rattle.edit_rules.specs.problem_rules.Each.{Each}
use Rattle.text_laws.proofs.Cited.{each-append}
use Rattle.edit_rules.specs.problem_rules.Validity.{IsValid, is_out_of_range}
use Rattle.edit_rules.specs.problem_rules.WellFormed.{IsWellFormedUnit, IsInRange, IsBound}
use Rattle.edit_rules.proofs.problem_rules.Cited.{in_range, well_formed_from_valid}
use Rattle.edit_rules.specs.Edit.{fix, proportional, investment}
use Rattle.edit_rules.specs.Formed.{IsFormed, IsName, IsPayout}
use Rattle.edit_rules.specs.Migration.{costs_nothing_yearly, migrates_out_of_range, out_of_range_at}
use Rattle.edit_rules.specs.Migration.{unit_migration, migration}
use Rattle.edit_laws.proofs.SideLemmas.{no_cost}

not_negative : (y z : ℤ) → int_lt (pos 0) y ≡ true → int_lt z (pos 0) ≡ false
    → int_lt (y *ℤ z) (pos 0) ≡ false
not_negative (pos n) (pos m) e f = le-ltb (n * m) 0 (omega arith)
not_negative (pos n) (negsuc m) e f = cc
not_negative (negsuc n) z e f = cc

none_here : (b : Bool) (i : ℕ) (rest : Option ℕ) → cond b (Some i) rest ≡ None → (b ≡ false)
    × (rest ≡ None)
none_here true i rest e = cc
none_here false i rest e = (refl, e)

none_found : {X : Type 0} (t : X → Bool) (i : ℕ) (xs : List X) → position_from t i xs ≡ None
    → Each (λ x. t x ≡ false) xs
none_found t i [] e = tt
none_found t i (x ∷ xs) e = let h = none_here (t x) i (position_from t (i + 1) xs) e in
    (h.0, none_found t (i + 1) xs h.1)

three_formed : (b : Bool) (n : List ℕ) (f c : ℤ) → IsName n → IsBound f → IsInRange c
    → Each IsFormed (cond b [] (fix n (pos 0) ∷ proportional n (pos 0) ∷ investment n f c ∷ []))
three_formed true n f c g h l = tt
three_formed false n f c g h l = ((g, no_cost), ((g, no_cost.in_range), ((g, h, l), tt)))

unit_formed : (n : ℕ) (years : ℤ) (u : OperatingUnit) → IsPayout years → IsWellFormedUnit n u
    → migrates_out_of_range years u ≡ false → Each IsFormed (unit_migration years u)
unit_formed n years u y h e =
    let p =
    or_parts (is_out_of_range (years *ℤ u.fix)) (is_out_of_range (years *ℤ u.proportional)) e in
    three_formed (costs_nothing_yearly u) u.name (years *ℤ u.fix) (years *ℤ u.proportional) h.named
    (record {
      in_range = in_range (years *ℤ u.fix) p.0;
      not_negative =
          not_negative years u.fix y.positive h.fix.not_negative;
    })
    (in_range (years *ℤ u.proportional) p.1)

units_formed : (n : ℕ) (years : ℤ) (us : List OperatingUnit) → IsPayout years
    → Each (IsWellFormedUnit n) us
    → Each (λ (u : OperatingUnit). migrates_out_of_range years u ≡ false) us
    → Each IsFormed (flat_map (unit_migration years) us)
units_formed n years [] y h e = tt
units_formed n years (u ∷ us) y h e =
    each-append IsFormed (unit_migration years u) (flat_map (unit_migration years) us)
    (unit_formed n years u y h.0 e.0) (units_formed n years us y h.1 e.1)

pub migration_formed : (p : Problem) → IsValid p → (years : ℤ) → IsPayout years
    → out_of_range_at years p ≡ None → Each IsFormed (migration years p)
migration_formed p v years y e = (
  y,
  units_formed (length p.materials) years p.units y (well_formed_from_valid p v).units_formed
      (none_found (migrates_out_of_range years) 0 p.units e),
)
