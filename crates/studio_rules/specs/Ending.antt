-- How a call ends: with the whole text of its status, or with a front of such a text if an output
-- failed.
use Rattle.std.specs.Prelude.{◌≡◌, ◌⊎◌, ◌++◌, ℕ, List, [], ◌∷◌, codes}
use Rattle.std.specs.Io.KnownBytes.{Appends}
use Rattle.report_rules.specs.text_rules.Outside.{HasRisen, AppendsFront}
use Rattle.report_rules.specs.text_rules.State.{ShelfState, SinkState, OutputsState}
use Rattle.studio_rules.specs.Lines.{line, text_of}
use Rattle.studio_rules.specs.Seconds.{AreSeconds}
use Rattle.studio_rules.specs.declared.status.Status.{Status}
use Rattle.studio_rules.specs.declared.status.Status.TheVariants.{Done, Refused, NotBest}
use Rattle.studio_rules.specs.declared.status.Status.TheVariants.{Past}
use Rattle.studio_rules.specs.declared.status.Status.TheVariants.{Spent, ReadFault}
use Rattle.studio_rules.specs.declared.status.Status.TheVariants.{WriteFault}
use Rattle.studio_rules.specs.declared.status.Status.TheVariants.{Memory}

-- no lines, or the first ones of an answer
abbrev pub IsFrontOfAnswer : (Status → List (List ℕ) → Type 0) → List (List ℕ) → Type 0
IsFrontOfAnswer answers lines =
    (lines ≡ [])
    ⊎ ((status : Status) × (all : List (List ℕ)) × (rest : List (List ℕ))
    × answers status all
    × (all ≡ lines ++ rest))

-- The text that may be written with a status, if answers are the statuses and lines of what is said
-- while neither shelf, sink nor memory fails. If memory ran out, it is the first lines of an answer
-- and the line `memory`.
abbrev pub Tells : (Status → List (List ℕ) → Type 0) → Status → List ℕ → Type 0
Tells answers ReadFault text = ⊥
Tells answers WriteFault text = ⊥
Tells answers Memory text = (lines : List (List ℕ)) × IsFrontOfAnswer answers lines
    × (text ≡ text_of lines ++ line (codes "memory"))
Tells answers status text = (lines : List (List ℕ)) × answers status lines
    × (text ≡ text_of lines)

-- The same of a call that reads files of a shelf, old before it and new after it. A fault of
-- reading has the name of one of the files, whose count of faults rose.
abbrev pub Says : (Status → List (List ℕ) → Type 0) → (List ℕ → Type 0) → ShelfState
    → ShelfState
    → Status → List ℕ → Type 0
Says answers is_file old new ReadFault text =
    (name : List ℕ) × is_file name × HasRisen (old.faults name) (new.faults name)
    × (text ≡ line (codes "read fault " ++ name))
Says answers is_file old new status text = Tells answers status text

-- Which part of a text goes to standard output and which to standard error, by its status. An
-- answer goes to standard output. If it is not finished, second lines on standard error may say so.
-- If memory ran out, the first lines of an answer go to standard output, and the line `memory` goes
-- to standard error. The line of each other status says why there is no answer: it goes to standard
-- error, and second lines may follow it.
abbrev pub IsShared : Status → (text on_out on_err : List ℕ) → Type 0
IsShared Done text on_out on_err = (on_out ≡ text) × (on_err ≡ [])
IsShared Refused text on_out on_err = (on_out ≡ text) × (on_err ≡ [])
IsShared NotBest text on_out on_err = (on_out ≡ text) × (on_err ≡ [])
IsShared Past text on_out on_err = (on_out ≡ text) × AreSeconds on_err
IsShared Spent text on_out on_err = (on_out ≡ text) × AreSeconds on_err
IsShared Memory text on_out on_err = (text ≡ on_out ++ on_err)
    × (on_err ≡ line (codes "memory"))
IsShared status text on_out on_err = (on_out ≡ [])
    × ((seconds : List ℕ) × AreSeconds seconds × (on_err ≡ text ++ seconds))

-- the outputs, old before and new after, took the text of the status, each its part
abbrev pub Writes : (old new : OutputsState) → Status → List ℕ → Type 0
Writes old new status text =
    (on_out : List ℕ) × (on_err : List ℕ) × IsShared status text on_out on_err
    × Appends old.out.written new.out.written on_out
    × Appends old.err.written new.err.written on_err

-- they took a front of it, each a front of its part
abbrev pub WritesFront : (old new : OutputsState) → Status → List ℕ → Type 0
WritesFront old new status text =
    (on_out : List ℕ) × (on_err : List ℕ) × IsShared status text on_out on_err
    × AppendsFront old.out.written new.out.written on_out
    × AppendsFront old.err.written new.err.written on_err

-- the count of faults of an output rose
abbrev pub HasFault : (old new : OutputsState) → Type 0
HasFault old new = HasRisen old.out.faults new.out.faults
    ⊎ HasRisen old.err.faults new.err.faults

-- What the outputs, old before a call and new after it, have taken in the call is a text that P
-- allows with the status. After a fault of an output, whose count then rose, it is a front of such
-- a text.
abbrev pub Ends : (Status → List ℕ → Type 0) → (old new : OutputsState) → Status → Type 0
Ends P old new WriteFault = HasFault old new × (status : Status) × (whole : List ℕ)
    × P status whole
    × WritesFront old new status whole
Ends P old new status = (text : List ℕ) × P status text × Writes old new status text

-- What standard error took of the line `write fault`: all of it, or a front if its own count of
-- faults rose.
abbrev pub TakesFault : (old new : SinkState) → Type 0
TakesFault old new =
    Appends old.written new.written (line (codes "write fault"))
    ⊎ (HasRisen old.faults new.faults
    × AppendsFront old.written new.written (line (codes "write fault")))

-- How a call of the program ends: as its command ends. If an output failed, the line `write fault`
-- follows on standard error.
abbrev pub Finishes : (Status → List ℕ → Type 0) → (old new : OutputsState) → Status → Type 0
Finishes P old new WriteFault =
    (mid : OutputsState) × Ends P old mid WriteFault × (new.out ≡ mid.out)
    × TakesFault mid.err new.err
Finishes P old new status = Ends P old new status

-- The statuses of an answer that is finished, of one that is not, and of a line that says why there
-- is none.
abbrev pub IsAnswer : Status → Type 0
IsAnswer Done = Unit {0}
IsAnswer Refused = Unit {0}
IsAnswer NotBest = Unit {0}
IsAnswer status = ⊥

abbrev pub IsUnfinished : Status → Type 0
IsUnfinished Past = Unit {0}
IsUnfinished Spent = Unit {0}
IsUnfinished status = ⊥

abbrev pub IsRefusal : Status → Type 0
IsRefusal Done = ⊥
IsRefusal Refused = ⊥
IsRefusal NotBest = ⊥
IsRefusal Past = ⊥
IsRefusal Spent = ⊥
IsRefusal Memory = ⊥
IsRefusal WriteFault = ⊥
IsRefusal status = Unit {0}

-- one text with one status
abbrev pub Only : Status → List ℕ → Status → List ℕ → Type 0
Only status text status' text' = (status' ≡ status) × (text' ≡ text)

-- what P allows, or the line `memory`
abbrev pub OrMemory : (Status → List ℕ → Type 0) → Status → List ℕ → Type 0
OrMemory P status text = P status text ⊎ Only Memory (line (codes "memory")) status text

-- the status is in the list
abbrev pub IsOneOf : List Status → Status → Type 0
IsOneOf [] status = ⊥
IsOneOf (one ∷ more) status = (status ≡ one) ⊎ IsOneOf more status
