-- From yearly costs to investment costs. If the payout period is so many years, an investment of
-- years times the old yearly cost counts as the yearly cost did.
use Rattle.std.specs.Prelude.{◌≡◌, ◌*ℤ◌, ℕ, ◌<◌, ◌==◌, Bool, true, false, cond, not, ◌&&◌, ◌||◌}
use Rattle.std.specs.Prelude.{List, [], ◌∷◌, length, flat_map, Option, ℤ, pos, unsigned_abs}
use Rattle.std.specs.List.{list_any, position_from}
use Rattle.std.specs.Ordering.{int_eq}
use Rattle.text_rules.specs.problem_rules.Problem.{Problem, OperatingUnit}
use Rattle.text_rules.specs.problem_rules.Validity.{is_out_of_range}
use Rattle.edit_rules.specs.Edit.{Edit, fix, proportional, investment, payout}
use Rattle.edit_rules.specs.Inverse.{costs_no_investment}

-- a payout period other than 1, or an investment cost other than 0
abbrev pub has_payout : Problem → Bool
has_payout p =
    not (int_eq p.payout (pos 1)) || list_any (λ (u : OperatingUnit). not (costs_no_investment u))
    p.units

abbrev pub costs_nothing_yearly : OperatingUnit → Bool
costs_nothing_yearly u = (unsigned_abs u.fix == 0) && (unsigned_abs u.proportional == 0)

-- years times a yearly cost is out of range
abbrev pub migrates_out_of_range : ℤ → OperatingUnit → Bool
migrates_out_of_range years u =
    is_out_of_range (years *ℤ u.fix) || is_out_of_range (years *ℤ u.proportional)

-- the number of the first unit with such a cost
abbrev pub out_of_range_at : ℤ → Problem → Option ℕ
out_of_range_at years p = position_from (migrates_out_of_range years) 0 p.units

-- the edits that migrate a unit; there are none for a unit without yearly costs
abbrev pub unit_migration : ℤ → OperatingUnit → List Edit
unit_migration years u =
    cond (costs_nothing_yearly u) []
    (fix u.name (pos 0) ∷ proportional u.name (pos 0)
    ∷ investment u.name (years *ℤ u.fix) (years *ℤ u.proportional) ∷ [])

abbrev pub migration : ℤ → Problem → List Edit
migration years p = payout years ∷ flat_map (unit_migration years) p.units
