-- The part that a search found, and its text.
use Rattle.std.specs.Prelude.{◌≡◌, ℕ, List, Some, Ok}
use Rattle.network_commands.specs.problem_rules.Problem.{Problem}
use Rattle.network_commands.specs.tree_text_rules.Read.{Certificate}
use Rattle.network_commands.specs.tree_text_rules.Part.{Part}
use Rattle.network_commands.specs.tree_text_rules.PartRead.{PartReads}
use Rattle.network_commands.specs.tree_text_rules.PartSpelling.{part_text, part_text_lines}
use Rattle.network_commands.specs.studio_rules.Lines.{text_of}
use Rattle.network_commands.specs.studio_rules.Part.{part_from}
use Rattle.searches.specs.abb_search.declared.outcome.Found.{Found}
use Rattle.network_commands.specs.studio_rules.Solve.{status_of}
use Rattle.searches.specs.Found.{certificate_of}
use Rattle.network_commands.specs.studio_rules.Printed.{spelled}
use Rattle.network_commands.specs.studio_rules.declared.status.Status.{Status}

-- the text of the part reads as it
abbrev pub ReadsBack : Problem → Part → Type 0
ReadsBack p part = PartReads p (part_text p part) (Ok part)

-- the text of a part, which reads back as it, with the status of its tail, which says why the
-- search stopped
abbrev pub TextSays : Problem → Part → Status → List (List ℕ) → Type 0
TextSays p part status lines =
    (status ≡ status_of part.tail) × (lines ≡ spelled (part_text_lines p part))
    × PartReads p (text_of lines) (Ok part)

abbrev pub FoundSays : Problem → List ℕ → List ℕ → Found → Status → List (List ℕ) → Type 0
FoundSays p inside outside found status lines =
    (c : Certificate) × (certificate_of found ≡ Some c)
    × TextSays p (part_from inside outside c) status lines
