-- Readings that go on line by line.
use Rattle.std.specs.Prelude.{◌≡◌, ℕ, List, Option, Result}
use Rattle.tree_text_laws.specs.tree_text_rules.Read.{Fault}
use Rattle.tree_text_laws.specs.tree_text_rules.declared.TreeKind.{TreeKind}
use Rattle.rank_check.specs.rank_rules.Marked.{Mark}
use Rattle.rank_check.specs.rank_rules.Opened.{mark_before, so_far}

-- after a line of which this is read, these marks and this fault stand for the ones before it,
-- whatever follows
abbrev pub TakesMark : List Mark → Option Fault → ℕ → Option (Result Mark TreeKind) → List Mark
    → Option Fault → Type 0
TakesMark old before number read new after = (rest : Result (List Mark) Fault)
    → so_far new after rest ≡ so_far old before (mark_before number read rest)
