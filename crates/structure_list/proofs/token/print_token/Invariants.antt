use Rattle.std.proofs.Common.{◌≡◌, ◌-◌, ◌*◌, ◌/◌, ◌^◌, string_bytes}
use Rattle.pgraph.specs.pns_rules.Tokens.{digits}
use Rattle.structure_list.proofs.token.print_token.Given as goal

abbrev pub invariant-loop-i : goal.invariant-loop-i
invariant-loop-i l = string_bytes l.text ≡ digits l.i (l.bits / 2 ^ (128 - 4 * l.i))
