use Rattle.std.proofs.Common.{◌≡◌, ◌*◌, ◌<◌, ◌^◌, take}
use Rattle.pgraph.specs.pns_rules.Tokens.{digits}
use Rattle.structure_list.proofs.token.read_token.Given as goal

abbrev pub invariant-loop-i : goal.invariant-loop-i
invariant-loop-i l = record {
  same : take l.i l.bytes ≡ digits l.i l.value;
  below : l.value < 2 ^ (4 * l.i);
}
