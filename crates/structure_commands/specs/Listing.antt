-- The lines of a listing from the place that the code has reached.
use Rattle.std.specs.Prelude.{◌≡◌, ℕ, List}
use Rattle.text_lines.specs.problem_rules.Problem.{Problem}
use Rattle.command_files.specs.studio_rules.Listing.{listing_lines}
use Rattle.cert_check.specs.structure_list.Rest.{Rest, IsToCome}
use Rattle.command_files.specs.studio_rules.declared.status.Status.{Status}
use Rattle.command_files.specs.studio_rules.declared.status.Status.TheVariants.{Done}

-- what is printed of a listing from this place on
abbrev pub RestSays : Problem → ℕ → Rest → Status → List (List ℕ) → Type 0
RestSays p count rest status lines =
    (status ≡ Done)
    × ((all : List (List ℕ)) × IsToCome rest all × (lines ≡ listing_lines p count all))
