use Rattle.std.proofs.Common.{◌≡◌, not, drop}
use Rattle.std.specs.List.{list_any}
use Rattle.text_lines.specs.text_rules.Value.{is_unit}
use Rattle.text_lines.specs.View.{texts}
use Rattle.pns_text.proofs.meaning.some_no_unit.Given as goal

abbrev pub invariant-loop-item : goal.invariant-loop-item
invariant-loop-item l = list_any (λ item. not (is_unit l.names item)) (texts
    (drop l.item-index l.items)) ≡ list_any (λ item. not (is_unit l.names item)) (texts l.items)
