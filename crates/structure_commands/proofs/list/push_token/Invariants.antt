use Rattle.std.proofs.Common.{◌≡◌, ◌++◌, ◌-◌, ◌*◌, ◌/◌, ◌^◌}
use Rattle.cert_check.specs.pns_rules.Tokens.{digits}
use Rattle.structure_commands.proofs.list.push_token.Given as goal

abbrev pub invariant-loop-i : goal.invariant-loop-i
invariant-loop-i l = l.bytes.items ≡ l.fn.bytes.items ++ digits l.i (l.bits / 2 ^ (128 - 4 * l.i))
