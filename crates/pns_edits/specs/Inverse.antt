-- The edits that undo one edit, as they are returned.
use Rattle.std.specs.Prelude.{List, [], ◌∷◌, Option, Some, None}
use Rattle.edit_laws.specs.edit_rules.Edit as rules
use Rattle.edit_scripts.specs.View.{edit_of}
use Rattle.edit_scripts.specs.declared.edit.Edit.{Edit}
use Rattle.pns_edits.specs.declared.inverse.Inverse.{Inverse}

abbrev pub listed_of : Option Edit → List rules.Edit
listed_of None = []
listed_of (Some edit) = edit_of edit ∷ []

abbrev pub edits_of : Inverse → List rules.Edit
edits_of i = edit_of i.edit ∷ listed_of i.investment
