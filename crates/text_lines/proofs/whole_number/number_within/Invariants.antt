use Rattle.std.proofs.Common.{◌≡◌, ◌≤◌, drop}
use Rattle.edit_rules.specs.text_rules.Amount.{number_from, number_of}
use Rattle.text_lines.proofs.whole_number.number_within.Given as goal

-- the digits that remain complete the number
abbrev pub invariant-reading : goal.invariant-reading
invariant-reading l = record {
  value : number_from l.number (drop l.c-index l.digits) ≡ number_of l.digits;
  within : l.number ≤ l.limit;
}
