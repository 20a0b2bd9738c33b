use Rattle.std.proofs.Common.{◌≡◌, ◌==◌, [], length, IsUtf8}
use Rattle.std.specs.List.{slice_split}
use Rattle.std.specs.Str.{byte}
use Rattle.studio_words.specs.Gathering.{gathered}
use Rattle.studio_words.proofs.unit_names.UnitNames.gather.Given as goal

-- what is left finishes what was gathered
abbrev pub invariant-gathering : goal.invariant-gathering
invariant-gathering l = record {
  text : IsUtf8 l.rest;
  same : gathered l.names (slice_split (λ c. c == byte ",") l.rest)
      ≡ gathered [] (slice_split (λ c. c == byte ",") l.fn.word);
}

abbrev pub decreases-gathering : goal.decreases-gathering
decreases-gathering l = length l.rest
