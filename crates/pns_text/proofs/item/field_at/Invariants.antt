use Rattle.std.proofs.Common.{◌≡◌, drop}
use Rattle.text_lines.specs.text_rules.Value.{value_at, item_fields}
use Rattle.pns_text.proofs.item.field_at.Given as goal

abbrev pub invariant-loop-item : goal.invariant-loop-item
invariant-loop-item l = value_at l.key (item_fields
    (drop l.item-index l.items)) ≡ value_at l.key (item_fields l.items)
