use Rattle.std.proofs.Common.{◌≡◌, drop, ◌==◌, length}
use Rattle.std.specs.List.{list_any}
use Rattle.text_lines.specs.View.{texts}
use Rattle.pns_text.proofs.exclusion_line.some_empty.Given as goal

abbrev pub invariant-loop-item : goal.invariant-loop-item
invariant-loop-item l = list_any (λ item. length item == 0) (texts
    (drop l.item-index l.items)) ≡ list_any (λ item. length item == 0) (texts l.items)
