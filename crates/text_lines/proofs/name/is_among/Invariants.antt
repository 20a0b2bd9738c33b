use Rattle.std.proofs.Common.{◌≡◌, drop}
use Rattle.edit_rules.specs.problem_rules.Names.{is_among}
use Rattle.text_lines.specs.View.{texts}
use Rattle.text_lines.proofs.name.is_among.Given as goal

abbrev pub invariant-loop-name : goal.invariant-loop-name
invariant-loop-name l = is_among (texts (drop l.name-index l.names)) l.text ≡ is_among (texts
    l.names) l.text
