use Rattle.std.proofs.Common.{◌≡◌, ◌<◌, ◌+◌, ◌-◌, ◌*◌, ◌^◌}
use Rattle.report_rules.specs.Value.{places_from}
use Rattle.json_text.proofs.digits.decimal_of.Given as goal

-- the number has these places, and rest / den of the last one is left
abbrev pub invariant-loop-places : goal.invariant-loop-places
invariant-loop-places l = record {
  division : l.fn.num * 10 ^ l.places ≡ l.number * l.fn.den + l.rest;
  rest : l.rest < l.fn.den;
  room : l.number < 2 ^ 127;
  found : places_from (55 - l.places) l.places l.fn.num l.fn.den
      ≡ places_from 55 0 l.fn.num l.fn.den;
}
