use Rattle.std.proofs.Common.{◌≡◌, drop}
use Rattle.text_lines.specs.View.{texts}
use Rattle.text_lines.specs.edit_rules.ScriptFault.{lesser, names_fault}
use Rattle.edit_scripts.proofs.token.names_fault.Given as goal

abbrev pub invariant-looking : goal.invariant-looking
invariant-looking l = lesser l.found (names_fault
    (texts (drop l.token-index l.tokens))) ≡ names_fault (texts l.tokens)
