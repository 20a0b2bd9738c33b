use Rattle.std.proofs.Common.{◌<◌, ◌^◌}
use Rattle.text_lines.proofs.Fronts.{AreRead}
use Rattle.text_lines.proofs.amount.short_digits.Given as goal

abbrev pub invariant-loop-i : goal.invariant-loop-i
invariant-loop-i l = record {
  read : AreRead l.start l.most l.text l.i l.number;
  bound : l.number < 10 ^ 18;
}
