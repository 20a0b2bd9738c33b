-- The edits that lead from the problem after an edit back to the problem before it.
use Rattle.std.specs.Prelude.{ℕ, Bool, cond, ◌&&◌, ◌==◌, List, [], ◌∷◌, unsigned_abs}
use Rattle.text_rules.specs.problem_rules.Problem.{Problem, OperatingUnit, material_at, unit_at}
use Rattle.text_rules.specs.problem_rules.Problem.{exclusion_at}
use Rattle.edit_rules.specs.Edit.{Edit, price, bounds, kind, capacity, fix, proportional}
use Rattle.edit_rules.specs.Edit.{rename_material, rename_unit, add_material, remove_material}
use Rattle.edit_rules.specs.Edit.{add_unit, remove_unit, exclude, unexclude, investment, payout}
use Rattle.edit_rules.specs.Place.{material_place, unit_place, exclusion_place, named_terms}
use Rattle.edit_rules.specs.Place.{member_names}

abbrev pub costs_no_investment : OperatingUnit → Bool
costs_no_investment u =
    (unsigned_abs u.investment_fix == 0) && (unsigned_abs u.investment_proportional == 0)

-- the edit that gives a unit its investment costs, if it has some
abbrev pub investment_of : OperatingUnit → List ℕ → List Edit
investment_of u name =
    cond (costs_no_investment u) []
    (investment name u.investment_fix u.investment_proportional ∷ [])

abbrev pub inverse : Problem → Edit → List Edit
inverse p (price name value) = price name (material_at p (material_place p name)).price ∷ []
inverse p (bounds name lower upper) =
    let m = material_at p (material_place p name) in bounds name m.lower m.upper ∷ []
inverse p (kind name new) = kind name (material_at p (material_place p name)).kind ∷ []
inverse p (capacity name lower upper) = let u =
    unit_at p (unit_place p name) in capacity name u.lower u.upper ∷ []
inverse p (fix name value) = fix name (unit_at p (unit_place p name)).fix ∷ []
inverse p (proportional name value) =
    proportional name (unit_at p (unit_place p name)).proportional ∷ []
inverse p (rename_material old new) = rename_material new old ∷ []
inverse p (rename_unit old new) = rename_unit new old ∷ []
inverse p (add_material at name new value lower upper) = remove_material name ∷ []
inverse p (remove_material name) =
    let m = material_at p (material_place p name) in
    add_material (material_place p name) name m.kind m.price m.lower m.upper ∷ []
inverse p (add_unit at name lower upper yearly rate inputs outputs) = remove_unit name ∷ []
inverse p (remove_unit name) =
    let u = unit_at p (unit_place p name) in
    add_unit (unit_place p name) name u.lower u.upper u.fix u.proportional (named_terms p u.inputs)
    (named_terms p u.outputs) ∷
    investment_of u name
inverse p (exclude at name units) = unexclude name ∷ []
inverse p (unexclude name) =
    exclude (exclusion_place p name) name
    (member_names p (exclusion_at p (exclusion_place p name)).units) ∷ []
inverse p (investment name once rate) =
    let u = unit_at p (unit_place p name) in
    investment name u.investment_fix u.investment_proportional ∷ []
inverse p (payout years) = payout p.payout ∷ []
