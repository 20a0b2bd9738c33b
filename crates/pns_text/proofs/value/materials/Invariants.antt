use Rattle.std.proofs.Common.{◌≡◌, take}
use Rattle.text_lines.specs.text_rules.Value.{materials_from}
use Rattle.pns_text.proofs.value.materials.Given as goal

abbrev pub invariant-loop-line : goal.invariant-loop-line
invariant-loop-line l = l.materials.items ≡ materials_from l.settings (take l.line-index l.lines)
