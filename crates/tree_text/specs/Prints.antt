-- What is printed by a call that prints lines. It is all of them. After a fault of the sink, whose
-- count then rose, it is a front of their text. If there is no memory, it is the first of them,
-- each whole.
use Rattle.std.specs.Prelude.{◌≡◌, ◌≤◌, ◌++◌, List, Result, Ok, Err}
use Rattle.std.specs.Io.KnownBytes.{Appends}
use Rattle.tree_text_rules.specs.text_rules.Outside.{HasRisen, AppendsFront}
use Rattle.tree_text_rules.specs.text_rules.State.{SinkState}
use Rattle.tree_text_rules.specs.Line.{Token}
use Rattle.tree_text_rules.specs.Spelling.{text_of}
use Rattle.tree_text.specs.declared.fault.PrintFault.{PrintFault}
use Rattle.tree_text.specs.declared.fault.PrintFault.TheVariants.{WriteFault, Memory}

-- first lines of these are printed
abbrev pub FirstLines : List (List Token) → SinkState → SinkState → Type 0
FirstLines lines old new =
    (front : List (List Token)) × (rest : List (List Token)) × (lines ≡ front ++ rest)
    × Appends old.written new.written (text_of front)

abbrev pub Outcome : List (List Token) → SinkState → SinkState → Result (Unit {0}) PrintFault
    → Type 0
Outcome lines old new (Ok done) = Appends old.written new.written (text_of lines)
Outcome lines old new (Err WriteFault) =
    HasRisen old.faults new.faults × AppendsFront old.written new.written (text_of lines)
Outcome lines old new (Err Memory) = FirstLines lines old new

-- old and new are the state of the sink before and after
pub record Prints (lines : List (List Token)) (old new : SinkState)
    (result : Result (Unit {0}) PrintFault) : Type 0 where
  pub outcome : Outcome lines old new result

-- the same, and the count of faults is not below what it was
pub record Puts (lines : List (List Token)) (old new : SinkState)
    (result : Result (Unit {0}) PrintFault) : Type 0 where
  pub prints : Prints lines old new result
  pub later : old.faults ≤ new.faults
