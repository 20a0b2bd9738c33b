-- Laws over what `rank`, `alternatives` and `rankcheck` print.
use Rattle.std.specs.Prelude.{◌≡◌, ℕ, List, Some}
use Rattle.structure_commands.specs.text_rules.Outside.{Told}
use Rattle.structure_commands.specs.studio_rules.Lines.{text_of}
use Rattle.structure_commands.specs.studio_rules.declared.status.Status.{Status}
use Rattle.structure_commands.specs.studio_rules.declared.status.Status.TheVariants.{Done}
use Rattle.structure_commands.specs.studio_rules.Command.{Ranking, Alternatives, RankChecking}
use Rattle.structure_commands.specs.studio_rules.Answers.{CommandAnswers}
use Rattle.studio.specs.SolveLaws.{IsAcceptedOrLong}

-- What `rank` prints with status 0 is accepted by `rankcheck` with the same problem file, or it is
-- too long.
abbrev pub RankedIsAccepted : Type 0
RankedIsAccepted =
    (held : List ℕ → Told) (file rank bytes : List ℕ) (count budget : ℕ) (ranked : List (List ℕ))
    → held file ≡ Some (Some bytes)
    → CommandAnswers held (Ranking file count budget) Done ranked
    → held rank ≡ Some (Some (text_of ranked))
    → (status : Status) (checked : List (List ℕ))
    → CommandAnswers held (RankChecking file rank) status checked
    → IsAcceptedOrLong rank (text_of ranked) status checked

-- and so is what `alternatives` prints with it
abbrev pub AlternativesAreAccepted : Type 0
AlternativesAreAccepted =
    (held : List ℕ → Told) (file rank bytes : List ℕ) (count budget : ℕ) (listed : List (List ℕ))
    → held file ≡ Some (Some bytes)
    → CommandAnswers held (Alternatives file count budget) Done listed
    → held rank ≡ Some (Some (text_of listed))
    → (status : Status) (checked : List (List ℕ))
    → CommandAnswers held (RankChecking file rank) status checked
    → IsAcceptedOrLong rank (text_of listed) status checked
