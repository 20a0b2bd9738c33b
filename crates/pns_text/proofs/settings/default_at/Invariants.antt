use Rattle.std.proofs.Common.{◌≡◌, drop}
use Rattle.text_lines.specs.text_rules.Value.{value_at, default_fields}
use Rattle.pns_text.proofs.settings.default_at.Given as goal

abbrev pub invariant-loop-line : goal.invariant-loop-line
invariant-loop-line l = value_at l.key (default_fields
    (drop l.line-index l.lines)) ≡ value_at l.key (default_fields l.lines)
