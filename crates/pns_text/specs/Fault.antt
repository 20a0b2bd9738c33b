-- What the reader says of the fault of form of a line.
use Rattle.std.specs.Prelude.{◌≡◌, ℕ, Bool, Option, Some, not, pos, int_lt}
use Rattle.text_lines.specs.text_rules.declared.TextKind.{TextKind}
use Rattle.text_lines.specs.text_rules.Term.{Pair}
use Rattle.text_lines.specs.text_rules.Fault.{millionths}
use Rattle.text_lines.specs.declared.fault.TextFault.{TextFault}
use Rattle.text_lines.specs.declared.fault.TextFault.TheVariants.{At, Memory}

-- what a fault of the reader says of the kind of fault of the line of a number; out of memory says
-- nothing
abbrev pub TellsKind : ℕ → Option TextKind → TextFault TextKind → Type 0
TellsKind number stands Memory = Unit {0}
TellsKind number stands (At line kind) = (line ≡ number) × (stands ≡ Some kind)

-- a number that is not above 0: only such a rate can have a fault
abbrev pub is_faulty : Pair → Bool
is_faulty term = not (int_lt (pos 0) (millionths term.0))
