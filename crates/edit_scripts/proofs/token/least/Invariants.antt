use Rattle.std.proofs.Common.{◌≡◌, drop}
use Rattle.text_lines.specs.edit_rules.ScriptFault.{lesser, least}
use Rattle.edit_scripts.proofs.token.least.Given as goal

-- the least so far and that of the rest
abbrev pub invariant-looking : goal.invariant-looking
invariant-looking l = lesser l.found (least (drop l.kind-index l.kinds)) ≡ least l.kinds
