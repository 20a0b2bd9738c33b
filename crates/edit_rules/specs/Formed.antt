-- What each edit of a script has whatever the problem. Names are names, amounts are within 10^9,
-- and bounds, fixed costs and rates have their signs. A new unit has terms on both sides and no
-- material twice; an exclusion has two units or more. The reader of scripts refuses every other
-- edit.
use Rattle.std.specs.Prelude.{◌≡◌, ◌<◌, ◌≤◌, ◌+◌, ◌^◌, ℕ, true, false, List, [], ◌∷◌, length, map}
use Rattle.std.specs.Prelude.{ℤ, pos, int_lt, unsigned_abs}
use Rattle.std.specs.List.{list_any}
use Rattle.text_rules.specs.problem_rules.Each.{Each}
use Rattle.text_rules.specs.problem_rules.Names.{is_name, is_among, has_double}
use Rattle.text_rules.specs.problem_rules.WellFormed.{IsInRange, IsBound}
use Rattle.edit_rules.specs.Edit.{NamedTerm, Edit, price, bounds, kind, capacity, fix, proportional}
use Rattle.edit_rules.specs.Edit.{rename_material, rename_unit, add_material, remove_material}
use Rattle.edit_rules.specs.Edit.{add_unit, remove_unit, exclude, unexclude, investment, payout}
use Rattle.edit_rules.specs.Edit.{Script}

abbrev pub IsName : List ℕ → Type 0
IsName name = is_name name ≡ true

-- a place that a script can name
abbrev pub IsPlace : ℕ → Type 0
IsPlace at = at < 2 ^ 32

pub record AreSignedBounds (lower upper : ℤ) : Type 0 where
  pub lower_bound : IsBound lower
  pub upper_bound : IsBound upper

pub record IsFormedMaterial (at : ℕ) (name : List ℕ) (price lower upper : ℤ) : Type 0 where
  pub place : IsPlace at
  pub named : IsName name
  pub price_in_range : IsInRange price
  pub bounds : AreSignedBounds lower upper

abbrev pub term_names : List NamedTerm → List (List ℕ)
term_names terms = map (λ (t : NamedTerm). t.name) terms

pub record IsFormedTerm (t : NamedTerm) : Type 0 where
  pub named : IsName t.name
  pub in_range : IsInRange t.rate
  pub positive : int_lt (pos 0) t.rate ≡ true

-- one side of a unit: at least one term, and no material twice
pub record IsFormedSide (terms : List NamedTerm) : Type 0 where
  pub some : 0 < length terms
  pub terms_formed : Each IsFormedTerm terms
  pub once : has_double (term_names terms) ≡ false

-- in addition, no material is on both sides
pub record AreFormedSides (inputs outputs : List NamedTerm) : Type 0 where
  pub inputs_formed : IsFormedSide inputs
  pub outputs_formed : IsFormedSide outputs
  pub apart : list_any (is_among (term_names outputs)) (term_names inputs) ≡ false

pub record IsFormedUnit (at : ℕ) (name : List ℕ) (lower upper fix proportional : ℤ)
    (inputs outputs : List NamedTerm) : Type 0 where
  pub place : IsPlace at
  pub named : IsName name
  pub bounds : AreSignedBounds lower upper
  pub fix_bound : IsBound fix
  pub proportional_in_range : IsInRange proportional
  pub sides : AreFormedSides inputs outputs

pub record IsFormedExclusion (at : ℕ) (name : List ℕ) (units : List (List ℕ)) : Type 0 where
  pub place : IsPlace at
  pub named : IsName name
  pub members_named : Each IsName units
  pub enough : 2 ≤ length units
  pub once : has_double units ≡ false

-- a number of whole years from 1 to 100
pub record IsPayout (years : ℤ) : Type 0 where
  pub positive : int_lt (pos 0) years ≡ true
  pub limit : unsigned_abs years ≤ 100

-- the edit has no fault of form
abbrev pub IsFormed : Edit → Type 0
IsFormed (price material value) = IsName material × IsInRange value
IsFormed (bounds material lower upper) = IsName material × AreSignedBounds lower upper
IsFormed (kind material k) = IsName material
IsFormed (capacity unit lower upper) = IsName unit × AreSignedBounds lower upper
IsFormed (fix unit value) = IsName unit × IsBound value
IsFormed (proportional unit value) = IsName unit × IsInRange value
IsFormed (rename_material old new) = IsName old × IsName new
IsFormed (rename_unit old new) = IsName old × IsName new
IsFormed (add_material at name k value lower upper) = IsFormedMaterial at name value lower upper
IsFormed (remove_material material) = IsName material
IsFormed (add_unit at name lower upper fixed per_size inputs outputs) =
    IsFormedUnit at name lower upper fixed per_size inputs outputs
IsFormed (remove_unit unit) = IsName unit
IsFormed (exclude at name units) = IsFormedExclusion at name units
IsFormed (unexclude name) = IsName name
IsFormed (investment unit fixed per_size) = IsName unit × IsBound fixed × IsInRange per_size
IsFormed (payout years) = IsPayout years

-- numbers that rise, all above the first
abbrev pub AreRising : ℕ → List ℕ → Type 0
AreRising low [] = Unit {0}
AreRising low (n ∷ ns) = (low < n) × AreRising n ns

-- No edit has a fault of form. Each edit has a line of its own, after the first line, which says
-- what the text is.
pub record IsFormedScript (s : Script) : Type 0 where
  pub edits_formed : Each IsFormed s.edits
  pub one_line_each : length s.lines ≡ length s.edits
  pub rising : AreRising 1 s.lines

-- the numbers of the edits' lines if these follow one another from the given line on
abbrev pub lines_from : ℕ → List Edit → List ℕ
lines_from line [] = []
lines_from line (edit ∷ edits) = line ∷ lines_from (line + 1) edits

-- edits that are at lines 2, 3 and so on
abbrev pub script_of : List Edit → Script
script_of edits = record { edits = edits; lines = lines_from 2 edits }
