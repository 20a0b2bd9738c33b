-- The problem after an edit.
use Rattle.std.specs.Prelude.{ℕ, ℤ, List, map, slice_set, pos}
use Rattle.std.specs.List.{insert, remove}
use Rattle.text_rules.specs.problem_rules.Problem.{Problem, Material, OperatingUnit, material_at}
use Rattle.text_rules.specs.problem_rules.Problem.{unit_at}
use Rattle.edit_rules.specs.Edit.{Edit, NamedTerm, price, bounds, kind, capacity, fix, proportional}
use Rattle.edit_rules.specs.Edit.{rename_material, rename_unit, add_material, remove_material}
use Rattle.edit_rules.specs.Edit.{add_unit, remove_unit, exclude, unexclude, investment, payout}
use Rattle.edit_rules.specs.Numbering.{up, down, in_unit, in_exclusion}
use Rattle.edit_rules.specs.Place.{material_place, unit_place, exclusion_place, numbered_terms}
use Rattle.edit_rules.specs.Place.{members}

-- the problem with the material, or the unit, of this name changed
abbrev pub with_material : Problem → List ℕ → (Material → Material) → Problem
with_material p name change =
    let k = material_place p name in
    record p { materials = slice_set p.materials k (change (material_at p k)) }

abbrev pub with_unit : Problem → List ℕ → (OperatingUnit → OperatingUnit) → Problem
with_unit p name change =
    let k = unit_place p name in record p { units = slice_set p.units k (change (unit_at p k)) }

-- the problem with an item inserted at a place, or removed there; the numbers of the items after it
-- change
abbrev pub material_put_in : Problem → ℕ → Material → Problem
material_put_in p at m =
    record p { materials = insert p.materials at m; units = map (in_unit (up at)) p.units }

abbrev pub material_taken_out : Problem → ℕ → Problem
material_taken_out p k =
    record p { materials = remove p.materials k; units = map (in_unit (down k)) p.units }

abbrev pub unit_put_in : Problem → ℕ → OperatingUnit → Problem
unit_put_in p at u =
    record p { units = insert p.units at u; exclusions = map (in_exclusion (up at)) p.exclusions }

abbrev pub unit_taken_out : Problem → ℕ → Problem
unit_taken_out p k =
    record p { units = remove p.units k; exclusions = map (in_exclusion (down k)) p.exclusions }

-- a unit that is added costs nothing to build
abbrev pub added_unit : Problem → List ℕ → ℤ → ℤ → ℤ → ℤ → List NamedTerm → List NamedTerm
    → OperatingUnit
added_unit p name lower upper yearly rate inputs outputs = record {
  name = name;
  lower = lower;
  upper = upper;
  fix = yearly;
  proportional = rate;
  investment_fix = pos 0;
  investment_proportional = pos 0;
  inputs = numbered_terms p inputs;
  outputs = numbered_terms p outputs;
}

abbrev pub effect : Problem → Edit → Problem
effect p (price name value) = with_material p name (λ m. record m { price = value })
effect p (bounds name lower upper) =
    with_material p name (λ m. record m { lower = lower; upper = upper })
effect p (kind name new) = with_material p name (λ m. record m { kind = new })
effect p (capacity name lower upper) =
    with_unit p name (λ u. record u { lower = lower; upper = upper })
effect p (fix name value) = with_unit p name (λ u. record u { fix = value })
effect p (proportional name value) = with_unit p name (λ u. record u { proportional = value })
effect p (rename_material old new) = with_material p old (λ m. record m { name = new })
effect p (rename_unit old new) = with_unit p old (λ u. record u { name = new })
effect p (add_material at name new value lower upper) =
    material_put_in
    p at (record { name = name; kind = new; price = value; lower = lower; upper = upper })
effect p (remove_material name) = material_taken_out p (material_place p name)
effect p (add_unit at name lower upper yearly rate inputs outputs) =
    unit_put_in p at (added_unit p name lower upper yearly rate inputs outputs)
effect p (remove_unit name) = unit_taken_out p (unit_place p name)
effect p (exclude at name units) = record p {
  exclusions = insert p.exclusions at (record { name = name; units = members p units });
}
effect p (unexclude name) = record p { exclusions = remove p.exclusions (exclusion_place p name) }
effect p (investment name once rate) =
    with_unit p name (λ u. record u { investment_fix = once; investment_proportional = rate })
effect p (payout years) = record p { payout = years }
