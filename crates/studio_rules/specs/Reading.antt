-- FILE is read and judged, which all commands on a problem share.
use Rattle.std.specs.Prelude.{◌≡◌, ◌<◌, ◌≤◌, ◌⊎◌, ◌++◌, ℕ, List, [], ◌∷◌, Result, Ok, Err, length}
use Rattle.std.specs.Prelude.{codes, decimal}
use Rattle.report_rules.specs.text_rules.Outside.{Told, IfTold}
use Rattle.report_rules.specs.problem_rules.Problem.{Problem}
use Rattle.report_rules.specs.problem_rules.Validity.{IsValid}
use Rattle.report_rules.specs.text_rules.declared.TextKind.{TextKind}
use Rattle.report_rules.specs.text_rules.declared.TextKind.TheVariants.{FileType, UnknownSection}
use Rattle.report_rules.specs.text_rules.declared.TextKind.TheVariants.{DoubleSection}
use Rattle.report_rules.specs.text_rules.declared.TextKind.TheVariants.{BadLine, BadName}
use Rattle.report_rules.specs.text_rules.declared.TextKind.TheVariants.{UnknownKey, DoubleKey}
use Rattle.report_rules.specs.text_rules.declared.TextKind.TheVariants.{BadNumber, TooFine}
use Rattle.report_rules.specs.text_rules.declared.TextKind.TheVariants.{TooLarge, Negative}
use Rattle.report_rules.specs.text_rules.declared.TextKind.TheVariants.{UnknownKind, ZeroRate}
use Rattle.report_rules.specs.text_rules.declared.TextKind.TheVariants.{DoubleTerm}
use Rattle.report_rules.specs.text_rules.declared.TextKind.TheVariants.{BothSides}
use Rattle.report_rules.specs.text_rules.declared.TextKind.TheVariants.{EmptySide, DoubleMaterial}
use Rattle.report_rules.specs.text_rules.declared.TextKind.TheVariants.{DoubleUnit}
use Rattle.report_rules.specs.text_rules.declared.TextKind.TheVariants.{DoubleRates, TooMany}
use Rattle.report_rules.specs.text_rules.declared.TextKind.TheVariants.{LowAboveHigh}
use Rattle.report_rules.specs.text_rules.declared.TextKind.TheVariants.{UnknownMaterial, NoRates}
use Rattle.report_rules.specs.text_rules.declared.TextKind.TheVariants.{NoProduct}
use Rattle.report_rules.specs.text_rules.declared.TextKind.TheVariants.{DoubleExclusion}
use Rattle.report_rules.specs.text_rules.declared.TextKind.TheVariants.{DoubleMember}
use Rattle.report_rules.specs.text_rules.declared.TextKind.TheVariants.{FewMembers, UnknownUnit}
use Rattle.report_rules.specs.text_rules.declared.TextKind.TheVariants.{BadPayout}
use Rattle.report_rules.specs.text_rules.Fault.{Fault}
use Rattle.report_rules.specs.text_rules.Value.{read_text}
use Rattle.report_rules.specs.text_rules.State.{ShelfState}
use Rattle.studio_rules.specs.Ending.{Says}
use Rattle.studio_rules.specs.declared.status.Status.{Status}
use Rattle.studio_rules.specs.declared.status.Status.TheVariants.{BadProblem, TooLong}

-- the most bytes of a problem file
abbrev pub file_limit : ℕ
file_limit = 4194304

-- What the bytes of a file stand for by the grammar of the problem text: a problem, or the first
-- fault.
abbrev pub Reads : List ℕ → Result Problem Fault → Type 0
Reads file outcome = read_text file ≡ outcome

-- The bytes are those of the file, if the shelf knows them. If it knows that there is no such file,
-- no bytes are.
abbrev pub AreHeld : Told → List ℕ → Type 0
AreHeld held file = IfTold held (λ told. file ≡ told)

-- The word for a kind of fault that is an item given twice. Other kinds have none here.
abbrev pub double_word : TextKind → List ℕ
double_word DoubleSection = codes "DoubleSection"
double_word DoubleKey = codes "DoubleKey"
double_word DoubleTerm = codes "DoubleTerm"
double_word DoubleMaterial = codes "DoubleMaterial"
double_word DoubleUnit = codes "DoubleUnit"
double_word DoubleRates = codes "DoubleRates"
double_word DoubleExclusion = codes "DoubleExclusion"
double_word DoubleMember = codes "DoubleMember"
double_word kind = []

-- the word for a kind of fault
abbrev pub kind_word : TextKind → List ℕ
kind_word FileType = codes "FileType"
kind_word UnknownSection = codes "UnknownSection"
kind_word BadLine = codes "BadLine"
kind_word BadName = codes "BadName"
kind_word UnknownKey = codes "UnknownKey"
kind_word BadNumber = codes "BadNumber"
kind_word TooFine = codes "TooFine"
kind_word TooLarge = codes "TooLarge"
kind_word Negative = codes "Negative"
kind_word UnknownKind = codes "UnknownKind"
kind_word ZeroRate = codes "ZeroRate"
kind_word BothSides = codes "BothSides"
kind_word EmptySide = codes "EmptySide"
kind_word TooMany = codes "TooMany"
kind_word LowAboveHigh = codes "LowAboveHigh"
kind_word UnknownMaterial = codes "UnknownMaterial"
kind_word NoRates = codes "NoRates"
kind_word NoProduct = codes "NoProduct"
kind_word FewMembers = codes "FewMembers"
kind_word UnknownUnit = codes "UnknownUnit"
kind_word BadPayout = codes "BadPayout"
kind_word kind = double_word kind

abbrev pub fault_line : ℕ → TextKind → List ℕ
fault_line line kind = codes "problem line " ++ decimal line ++ 32 ∷ kind_word kind

-- the line for a file above its limit
abbrev pub IsLong : List ℕ → ℕ → List ℕ → List (List ℕ) → Type 0
IsLong name limit file lines = (limit < length file) × (lines ≡ (codes "too long " ++ name) ∷ [])

abbrev pub LongFile : (List ℕ → Told) → List ℕ → ℕ → Status → List (List ℕ) → Type 0
LongFile held name limit status lines =
    (status ≡ TooLong) × ((file : List ℕ) × AreHeld (held name) file × IsLong name limit file lines)

-- A file that gives no problem: it is above the limit, or its text has a fault, which is reported
-- with its line and kind.
abbrev pub FileFault : List ℕ → List ℕ → Status → List (List ℕ) → Type 0
FileFault name file TooLong lines = IsLong name file_limit file lines
FileFault name file BadProblem lines =
    (length file ≤ file_limit)
    × ((line : ℕ) × (kind : TextKind) × Reads file (Err (line, kind))
    × (lines ≡ fault_line line kind ∷ []))
FileFault name file status lines = ⊥

-- a file within the limit, whose text stands for the problem, which is valid
pub record GivesProblem (file : List ℕ) (p : Problem) : Type 0 where
  pub within : length file ≤ file_limit
  pub reads : Reads file (Ok p)
  pub valid : IsValid p

-- what reading the named file says if it gives no problem
abbrev pub FileFaults : (List ℕ → Told) → List ℕ → Status → List (List ℕ) → Type 0
FileFaults held name status lines = (file : List ℕ) × AreHeld (held name) file
    × FileFault name file status lines

-- The status and lines of a command on the named file: those of a file that gives no problem, else
-- those of its work on the problem.
abbrev pub OnFile : (Problem → Status → List (List ℕ) → Type 0) → (List ℕ → Told) → List ℕ → Status
    → List (List ℕ) → Type 0
OnFile work held name status lines =
    (file : List ℕ) × AreHeld (held name) file
    × (FileFault name file status lines
    ⊎ ((p : Problem) × GivesProblem file p × work p status lines))

-- the same of a command whose work also goes by the bytes of the file
abbrev pub OnText : (List ℕ → Problem → Status → List (List ℕ) → Type 0) → (List ℕ → Told) → List ℕ
    → Status → List (List ℕ) → Type 0
OnText work held name status lines =
    (file : List ℕ) × AreHeld (held name) file
    × (FileFault name file status lines
    ⊎ ((p : Problem) × GivesProblem file p × work file p status lines))

-- What a command on the named file may write with a status, over a shelf that is old before it and
-- new after it.
abbrev pub FileSays : (Problem → Status → List (List ℕ) → Type 0) → List ℕ → ShelfState → ShelfState
    → Status → List ℕ → Type 0
FileSays work name old new = Says (OnFile work old.held name) (λ other. other ≡ name) old new

abbrev pub TextSays : (List ℕ → Problem → Status → List (List ℕ) → Type 0) → List ℕ → ShelfState
    → ShelfState → Status → List ℕ → Type 0
TextSays work name old new = Says (OnText work old.held name) (λ other. other ≡ name) old new

-- the same of a command that also reads a second file, over what the shelf holds
abbrev pub TwoFilesSay : ((List ℕ → Told) → List ℕ → Problem → Status → List (List ℕ) → Type 0)
    → List ℕ → List ℕ → ShelfState → ShelfState → Status → List ℕ → Type 0
TwoFilesSay work file second old new =
    Says (OnFile (work old.held second) old.held file) (λ other. (other ≡ file) ⊎ (other ≡ second))
    old new

-- the same of one whose work also goes by the bytes of the first
abbrev pub TwoTextsSay : ((List ℕ → Told) → List ℕ → List ℕ → Problem → Status → List (List ℕ)
    → Type 0) → List ℕ → List ℕ → ShelfState → ShelfState → Status → List ℕ → Type 0
TwoTextsSay work file second old new =
    Says (OnText (work old.held second) old.held file) (λ other. (other ≡ file) ⊎ (other ≡ second))
    old new

-- The status and lines of a command on a problem and a second file, of whose bytes `judged` speaks.
abbrev pub OnSecond : (Problem → List ℕ → Status → List (List ℕ) → Type 0) → (List ℕ → Told)
    → List ℕ → Problem → Status → List (List ℕ) → Type 0
OnSecond judged held name p status lines =
    (file : List ℕ) × AreHeld (held name) file × judged p file status lines
