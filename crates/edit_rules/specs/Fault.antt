-- The faults of meaning of an edit: why a problem does not take it. They are judged in the order in
-- which they are listed here, and the first is reported.
use Rattle.std.specs.Prelude.{◌≡◌, nat_lt, nat_le, Bool, false, cond, not, ◌||◌, Option, Some, None}
use Rattle.std.specs.Prelude.{List, [], ◌∷◌, length, int_lt}
use Rattle.std.specs.List.{remove}
use Rattle.text_rules.specs.problem_rules.Problem.{Problem}
use Rattle.text_rules.specs.problem_rules.Validity.{has_product}
use Rattle.edit_rules.specs.Edit.{Edit, price, bounds, kind, capacity, fix, proportional}
use Rattle.edit_rules.specs.Edit.{rename_material, rename_unit, add_material, remove_material}
use Rattle.edit_rules.specs.Edit.{add_unit, remove_unit, exclude, unexclude, investment, payout}
use Rattle.edit_rules.specs.Numbering.{any_unit_has, any_excludes}
use Rattle.edit_rules.specs.Place.{material_place, unit_place, has_material, has_unit}
use Rattle.edit_rules.specs.Place.{has_exclusion, lacks_material, lacks_unit}
use Rattle.edit_rules.specs.Effect.{effect}

pub data Fault : Type 0 where
  -- a name that is not in the problem
  unknown_name : Fault
  -- a new name that is in the problem already; renaming to the same name is such a fault
  double_name : Fault
  -- a place beyond the count of items
  bad_place : Fault
  low_above_high : Fault
  -- a removed material that a unit has, or a removed unit that an exclusion has
  in_use : Fault
  -- no product would be left
  no_product : Fault
  -- more than 256 materials, 128 units or 64 exclusions
  too_many : Fault

-- a test, and the fault if it passes
pub record Check : Type 0 where
  pub fault : Fault
  pub fails : Bool

abbrev pub check : Fault → Bool → Check
check fault fails = record { fault = fault; fails = fails }

-- the tests of an edit that adds an item to a problem, in the order of their faults
abbrev pub adding_checks : Problem → Edit → List Check
adding_checks p (add_material at name new value lower upper) =
    check double_name (has_material p name) ∷
    check bad_place (nat_lt (length p.materials) at) ∷
    check low_above_high (int_lt upper lower) ∷
    check too_many (nat_le 256 (length p.materials)) ∷ []
adding_checks p (add_unit at name lower upper yearly rate inputs outputs) =
    check unknown_name (lacks_material p inputs || lacks_material p outputs) ∷
    check double_name (has_unit p name) ∷
    check bad_place (nat_lt (length p.units) at) ∷
    check low_above_high (int_lt upper lower) ∷
    check too_many (nat_le 128 (length p.units)) ∷ []
adding_checks p (exclude at name units) =
    check unknown_name (lacks_unit p units) ∷
    check double_name (has_exclusion p name) ∷
    check bad_place (nat_lt (length p.exclusions) at) ∷
    check too_many (nat_le 64 (length p.exclusions)) ∷ []
adding_checks p e = []

-- the tests of an edit on a problem, in the order of their faults
abbrev pub checks : Problem → Edit → List Check
checks p (price name value) = check unknown_name (not (has_material p name)) ∷ []
checks p (bounds name lower upper) =
    check unknown_name (not (has_material p name)) ∷ check low_above_high (int_lt upper lower) ∷ []
checks p (kind name new) =
    check unknown_name (not (has_material p name))
    ∷ check no_product (not (has_product (effect p (kind name new)).materials)) ∷ []
checks p (capacity name lower upper) =
    check unknown_name (not (has_unit p name)) ∷ check low_above_high (int_lt upper lower) ∷ []
checks p (fix name value) = check unknown_name (not (has_unit p name)) ∷ []
checks p (proportional name value) = check unknown_name (not (has_unit p name)) ∷ []
checks p (rename_material old new) =
    check unknown_name (not (has_material p old)) ∷ check double_name (has_material p new) ∷ []
checks p (rename_unit old new) =
    check unknown_name (not (has_unit p old)) ∷ check double_name (has_unit p new) ∷ []
checks p (remove_material name) =
    check unknown_name (not (has_material p name)) ∷
    check in_use (any_unit_has p.units (material_place p name)) ∷
    check no_product (not (has_product (remove p.materials (material_place p name)))) ∷ []
checks p (remove_unit name) =
    check unknown_name (not (has_unit p name))
    ∷ check in_use (any_excludes p.exclusions (unit_place p name)) ∷ []
checks p (unexclude name) = check unknown_name (not (has_exclusion p name)) ∷ []
checks p (investment name once rate) = check unknown_name (not (has_unit p name)) ∷ []
checks p (payout years) = []
checks p e = adding_checks p e

abbrev pub first_fault : List Check → Option Fault
first_fault [] = None
first_fault (c ∷ cs) = cond c.fails (Some c.fault) (first_fault cs)

-- the first fault of an edit on a problem
abbrev pub fault_of : Problem → Edit → Option Fault
fault_of p e = first_fault (checks p e)

-- no test finds its fault
abbrev pub AreClear : List Check → Type 0
AreClear [] = Unit {0}
AreClear (c ∷ cs) = (c.fails ≡ false) × AreClear cs
