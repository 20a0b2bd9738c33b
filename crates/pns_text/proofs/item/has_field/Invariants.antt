use Rattle.std.proofs.Common.{◌≡◌, drop}
use Rattle.text_lines.specs.problem_rules.Names.{is_among}
use Rattle.text_lines.specs.text_rules.Fault.{keys_in}
use Rattle.pns_text.proofs.item.has_field.Given as goal

abbrev pub invariant-loop-item : goal.invariant-loop-item
invariant-loop-item l = is_among (keys_in (drop l.item-index l.items)) l.key ≡ is_among (keys_in
    l.items) l.key
