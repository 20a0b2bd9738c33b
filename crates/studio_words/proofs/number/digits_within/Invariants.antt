use Rattle.std.proofs.Common.{◌≡◌, ◌≤◌, drop}
use Rattle.std.specs.List.{list_all}
use Rattle.std.specs.Char.{is_ascii_digit}
use Rattle.studio_rules.specs.text_rules.Amount.{number_from, number_of}
use Rattle.studio_words.proofs.number.digits_within.Given as goal

-- the bytes before the index are digits, whose number those to come finish
abbrev pub invariant-reading : goal.invariant-reading
invariant-reading l = record {
  digits : list_all is_ascii_digit (drop l.c-index l.bytes) ≡ list_all is_ascii_digit l.bytes;
  number : number_from l.number (drop l.c-index l.bytes) ≡ number_of l.bytes;
  small : l.number ≤ l.most;
}
