use Rattle.std.proofs.Common.{◌≡◌, drop}
use Rattle.text_lines.specs.problem_rules.Names.{has_double}
use Rattle.text_lines.specs.text_rules.Fault.{keys_in}
use Rattle.pns_text.proofs.item.some_double_key.Given as goal

abbrev pub invariant-loop-i : goal.invariant-loop-i
invariant-loop-i l = has_double (keys_in (drop l.i l.items)) ≡ has_double (keys_in l.items)
