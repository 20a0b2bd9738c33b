-- A migration has at most three edits for each unit.
use Rattle.std.proofs.Common.{◌≡◌, ◌<◌, ◌≤◌, ◌-◌, ◌*◌, ◌^◌, ◌*ℤ◌, Bool, true, false, cond, List, []}
use Rattle.std.proofs.Common.{◌∷◌, length, map, ℤ, pos, sym, ap, ◌∙◌, arith}
use Rattle.std.specs.Prelude.{flat_map}
use Rattle.std.proofs.lemmas.List.{length-append, length-map}
use Rattle.edit_laws.specs.problem_rules.Problem.{Problem, OperatingUnit}
use Rattle.edit_laws.specs.edit_rules.Edit as rules
use Rattle.edit_laws.specs.edit_rules.Edit.{fix, proportional, investment}
use Rattle.edit_laws.specs.edit_rules.Migration.{costs_nothing_yearly, unit_migration, migration}

three_at_most : (b : Bool) (x y z : rules.Edit) → length (cond b [] (x ∷ y ∷ z ∷ [])) ≤ 3
three_at_most true x y z = omega arith
three_at_most false x y z = omega arith

units_short : (years : ℤ) (us : List OperatingUnit)
    → length (flat_map (unit_migration years) us) ≤ 3 * length us
units_short years [] = omega arith
units_short years (u ∷ us) =
    let more = units_short years us in
    let three =
    three_at_most (costs_nothing_yearly u) (fix u.name (pos 0)) (proportional u.name (pos 0))
    (investment u.name (years *ℤ u.fix) (years *ℤ u.proportional)) in
    let long = length-append (unit_migration years u) (flat_map (unit_migration years) us) in
    omega arith

pub few_edits : {X : Type 0} (view : X → rules.Edit) (years : ℤ) (p : Problem) (edits : List X)
    → length p.units ≤ 128 → map view edits ≡ migration years p → length edits < 2 ^ 32 - 1
few_edits view years p edits few same =
    let long : length edits ≡ length (migration years p) =
    sym (length-map edits view) ∙ ap length same in
    let short = units_short years p.units in
    omega arith
