-- Items are numbered by their places, so an item inserted or removed at a place renumbers those
-- after it.
use Rattle.std.specs.Prelude.{ℕ, suc, pred, nat_lt, Bool, cond, ◌||◌, List, map}
use Rattle.std.specs.List.{list_any}
use Rattle.number_sets.specs.Sets.{has}
use Rattle.text_rules.specs.problem_rules.Problem.{Term, OperatingUnit, Exclusion, terms_have}

-- the new number of item x, after an item was inserted at place k
abbrev pub up : ℕ → ℕ → ℕ
up k x = cond (nat_lt x k) x (suc x)

-- the new number of item x, which is not k, after item k was removed
abbrev pub down : ℕ → ℕ → ℕ
down k x = cond (nat_lt k x) (pred x) x

-- the materials of a term and of a unit, and the units of an exclusion, by their new numbers
abbrev pub in_term : (ℕ → ℕ) → Term → Term
in_term new t = record t { material = new t.material }

abbrev pub in_unit : (ℕ → ℕ) → OperatingUnit → OperatingUnit
in_unit new u =
    record u { inputs = map (in_term new) u.inputs; outputs = map (in_term new) u.outputs }

abbrev pub in_exclusion : (ℕ → ℕ) → Exclusion → Exclusion
in_exclusion new e = record e { units = map new e.units }

-- whether a unit has the material, whether some unit has it, and whether some exclusion has the
-- unit
abbrev pub unit_has : OperatingUnit → ℕ → Bool
unit_has u x = terms_have u.inputs x || terms_have u.outputs x

abbrev pub any_unit_has : List OperatingUnit → ℕ → Bool
any_unit_has units x = list_any (λ (u : OperatingUnit). unit_has u x) units

abbrev pub any_excludes : List Exclusion → ℕ → Bool
any_excludes exclusions u = list_any (λ (e : Exclusion). has e.units u) exclusions
