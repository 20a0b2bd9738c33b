-- The kinds of faults of meaning, and the first fault of meaning of a script.
use Rattle.std.specs.Prelude.{◌≡◌, ℕ}
use Rattle.text_rules.specs.problem_rules.Problem.{Problem}
use Rattle.edit_rules.specs.Edit.{Script}
use Rattle.edit_rules.specs.Fault.{Fault, unknown_name, double_name, bad_place, low_above_high}
use Rattle.edit_rules.specs.Fault.{in_use, no_product, too_many}
use Rattle.edit_rules.specs.Script.{IsFaultAt}
use Rattle.edit_rules.specs.declared.EditKind.{EditKind}
use Rattle.edit_rules.specs.declared.EditKind.TheVariants.{UnknownName, DoubleName, BadPlace}
use Rattle.edit_rules.specs.declared.EditKind.TheVariants.{LowAboveHigh, InUse, NoProduct}
use Rattle.edit_rules.specs.declared.EditKind.TheVariants.{TooMany}

abbrev pub kind_of : Fault → EditKind
kind_of unknown_name = UnknownName
kind_of double_name = DoubleName
kind_of bad_place = BadPlace
kind_of low_above_high = LowAboveHigh
kind_of in_use = InUse
kind_of no_product = NoProduct
kind_of too_many = TooMany

-- the first fault of meaning of a script is at this line and is of this kind
pub record HasFaultAt (p : Problem) (s : Script) (line : ℕ) (kind : EditKind) : Type 0 where
  pub fault : Fault
  pub stands : IsFaultAt p s line fault
  pub kind_is : kind ≡ kind_of fault
