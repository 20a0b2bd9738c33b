use Rattle.std.proofs.Common.{◌≡◌, drop, not}
use Rattle.std.specs.List.{list_any}
use Rattle.text_lines.specs.problem_rules.Names.{is_name}
use Rattle.text_lines.specs.View.{texts}
use Rattle.pns_text.proofs.exclusion_line.some_bad_name.Given as goal

abbrev pub invariant-loop-item : goal.invariant-loop-item
invariant-loop-item l = list_any (λ item. not (is_name item)) (texts
    (drop l.item-index l.items)) ≡ list_any (λ item. not (is_name item)) (texts l.items)
