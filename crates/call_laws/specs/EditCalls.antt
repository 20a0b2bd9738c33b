-- The law of undo over calls of `studio`: an edit of the edited plant by the script of `undo`.
use Rattle.std.specs.Prelude.{◌⊎◌, ◌<◌, ◌++◌, ℕ, List, length, codes}
use Rattle.studio.specs.problem_rules.Problem.{Problem}
use Rattle.studio.specs.text_rules.Canonical.{canonical}
use Rattle.studio.specs.studio_rules.Lines.{line}
use Rattle.studio.specs.studio_rules.declared.status.Status.TheVariants.{Done, TooLong}
use Rattle.studio.specs.studio_rules.Reading.{GivesProblem, file_limit}
use Rattle.studio.specs.studio_rules.Command.{Editing, Undoing}
use Rattle.studio.specs.Calls.{Call, Calls, Puts, Holds, EndsWith, HasFailed}
use Rattle.call_laws.specs.EditLaws.{File, IsShort}

-- the call says that the file is above the limit
abbrev pub EndsTooLong : Call → File → Type 0
EndsTooLong c file =
    (file_limit < length file.bytes) × EndsWith c TooLong (line (codes "too long " ++ file.name))

-- it puts out the canonical text of the plant, or that the script is too long
abbrev pub GivesBack : Call → Problem → File → Type 0
GivesBack c p script = (IsShort script × EndsWith c Done (canonical p)) ⊎ EndsTooLong c script

-- If what `edit` and `undo` put out for one plant and one script is kept, a call of `edit` with
-- these files gives the plant back.
abbrev pub CallGivesBack : Type 0
CallGivesBack =
    (editing undoing again : Call) (file script bytes steps : List ℕ) (p : Problem)
    (plant back : File) → GivesProblem bytes p
    → Holds editing file bytes → Holds editing script steps
    → Calls editing (Editing file script) → Puts editing plant.bytes
    → Holds undoing file bytes → Holds undoing script steps
    → Calls undoing (Undoing file script) → Puts undoing back.bytes
    → Holds again plant.name plant.bytes → Holds again back.name back.bytes
    → Calls again (Editing plant.name back.name)
    → GivesBack again p back ⊎ HasFailed again
