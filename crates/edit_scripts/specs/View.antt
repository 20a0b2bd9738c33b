-- Edits, as the rules have them.
use Rattle.std.specs.Prelude.{map, string_bytes}
use Rattle.text_lines.specs.edit_rules.Edit as rules
use Rattle.pns_problem.specs.Kind.{kind_of}
use Rattle.edit_scripts.specs.declared.edit.Edit.{Edit}
use Rattle.edit_scripts.specs.declared.edit.Edit.TheVariants.{Price, Bounds, Kind, Capacity, Fix}
use Rattle.edit_scripts.specs.declared.edit.Edit.TheVariants.{Proportional, RenameMaterial}
use Rattle.edit_scripts.specs.declared.edit.Edit.TheVariants.{RenameUnit, AddMaterial}
use Rattle.edit_scripts.specs.declared.edit.Edit.TheVariants.{RemoveMaterial, AddUnit, RemoveUnit}
use Rattle.edit_scripts.specs.declared.edit.Edit.TheVariants.{Exclude, Unexclude, Investment}
use Rattle.edit_scripts.specs.declared.edit.Edit.TheVariants.{Payout}

abbrev pub edit_of : Edit → rules.Edit
edit_of (Price material value) = rules.price (string_bytes material) value
edit_of (Bounds material lower upper) = rules.bounds (string_bytes material) lower upper
edit_of (Kind material kind) = rules.kind (string_bytes material) (kind_of kind)
edit_of (Capacity unit lower upper) = rules.capacity (string_bytes unit) lower upper
edit_of (Fix unit value) = rules.fix (string_bytes unit) value
edit_of (Proportional unit value) = rules.proportional (string_bytes unit) value
edit_of (RenameMaterial old new) = rules.rename_material (string_bytes old) (string_bytes new)
edit_of (RenameUnit old new) = rules.rename_unit (string_bytes old) (string_bytes new)
edit_of (AddMaterial at name kind price lower upper) =
    rules.add_material at (string_bytes name) (kind_of kind) price lower upper
edit_of (RemoveMaterial material) = rules.remove_material (string_bytes material)
edit_of (AddUnit at name lower upper fix proportional inputs outputs) =
    rules.add_unit at (string_bytes name) lower upper fix proportional inputs.items outputs.items
edit_of (RemoveUnit unit) = rules.remove_unit (string_bytes unit)
edit_of (Exclude at name units) =
    rules.exclude at (string_bytes name) (map string_bytes units.items)
edit_of (Unexclude name) = rules.unexclude (string_bytes name)
edit_of (Investment unit fix proportional) = rules.investment (string_bytes unit) fix proportional
edit_of (Payout years) = rules.payout years
