-- The lines of a plan, and what is wrong with one line alone. Lines, tokens, names and amounts are
-- as in an edit script. A carriage return before a line feed is dropped, and the last line feed may
-- be missing. A remark becomes an empty line, nothing else is dropped, and there is one space
-- before each token but the first.
use Rattle.std.specs.Prelude.{ℕ, ℤ, List, [], ◌∷◌, codes, Option, Some, None, Result, Ok, Err}
use Rattle.std.specs.Prelude.{if◌then◌else◌}
use Rattle.std.specs.Str.{bytes_eq}
use Rattle.edit_rules.specs.declared.EditKind.{EditKind}
use Rattle.edit_rules.specs.declared.EditKind.TheVariants as script
use Rattle.edit_rules.specs.Line.{tokens_of}
use Rattle.edit_rules.specs.Read.{amount_read, bounds_read}
use Rattle.plan_rules.specs.declared.PlanKind.{PlanKind}
use Rattle.plan_rules.specs.declared.PlanKind.TheVariants.{BadLine, BadName, BadNumber, TooFine}
use Rattle.plan_rules.specs.declared.PlanKind.TheVariants.{TooLarge, Sign}
use Rattle.plan_rules.specs.declared.PlanWord.{PlanWord}
use Rattle.plan_rules.specs.declared.PlanWord.TheVariants as words

-- the whole first line
abbrev pub file_type : List ℕ
file_type = codes "file_type=PNS_plan_v1"

-- what a line says
pub data Entry : Type 0 where
  -- a period begins
  begins : Entry
  -- material, price
  price : List ℕ → ℤ → Entry
  -- material, lower and upper bound
  bounds : List ℕ → ℤ → ℤ → Entry

-- the first token of a line
abbrev pub word_text : PlanWord → List ℕ
word_text words.Period = codes "period"
word_text words.Price = codes "price"
word_text words.Bounds = codes "bounds"

abbrev pub word_named : List ℕ → Option PlanWord
word_named text =
    if bytes_eq text (word_text words.Period) then Some words.Period
    else if bytes_eq text (word_text words.Price) then Some words.Price
    else if bytes_eq text (word_text words.Bounds) then Some words.Bounds
    else None

-- A fault of a name or an amount has the same kind as in a script, and the kinds have the same
-- order. A name or an amount has no other kinds.
abbrev pub kind_of : EditKind → PlanKind
kind_of script.BadName = BadName
kind_of script.BadNumber = BadNumber
kind_of script.TooFine = TooFine
kind_of script.TooLarge = TooLarge
kind_of script.Sign = Sign
kind_of kind = BadLine

abbrev pub entry_by : {A : Type 0} → (A → Entry) → Result A EditKind → Result Entry PlanKind
entry_by entry (Ok value) = Ok (entry value)
entry_by entry (Err kind) = Err (kind_of kind)

abbrev pub period_read : List (List ℕ) → Result Entry PlanKind
period_read [] = Ok begins
period_read (field ∷ fields) = Err BadLine

-- the entry of the tokens after the first: none; a material and its price; a material, its lower
-- and its upper bound
abbrev pub fields_read : PlanWord → List (List ℕ) → Result Entry PlanKind
fields_read words.Period fields = period_read fields
fields_read words.Price fields = entry_by (λ read. price read.0 read.1) (amount_read fields)
fields_read words.Bounds fields =
    entry_by (λ read. bounds read.0 read.1.0 read.1.1) (bounds_read fields)

abbrev pub worded_read : Option PlanWord → List (List ℕ) → Result Entry PlanKind
worded_read (Some word) fields = fields_read word fields
worded_read None fields = Err BadLine

abbrev pub tokens_read : List (List ℕ) → Result Entry PlanKind
tokens_read [] = Err BadLine
tokens_read (word ∷ fields) = worded_read (word_named word) fields

abbrev pub line_read : List ℕ → Result Entry PlanKind
line_read text = tokens_read (tokens_of text)
