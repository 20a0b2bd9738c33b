-- What is read of a text from a place on.
use Rattle.std.specs.Prelude.{suc, ℕ, List, Result, Ok}
use Rattle.tree_text_rules.specs.Line.{Line}
use Rattle.tree_text_rules.specs.Read.{Fault, Taken, first_line}
use Rattle.tree_text_rules.specs.declared.TreeKind.{TreeKind}
use Rattle.tree_reading.specs.Place.{lines_at}
use Rattle.tree_reading.specs.declared.cut.Cut.{Cut}

-- what was read up to a place
abbrev pub taken : {A : Type 0} → A → List ℕ → Cut → Taken A
taken what bytes cut = record { what = what; number = cut.line; behind = lines_at bytes cut }

-- one line
abbrev pub line_taken : {A : Type 0} → (Line → Result A TreeKind) → ℕ → List Line
    → Result (Taken A) Fault
line_taken judge number lines =
    first_line judge number lines
    (λ a lines. Ok (record { what = a; number = suc number; behind = lines }))
