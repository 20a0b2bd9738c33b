-- What a line says, as the rules have it.
use Rattle.std.specs.Prelude.{◌≡◌, ℕ, List, Result, Ok, Err}
use Rattle.plan_laws.specs.edit_rules.declared.EditKind.{EditKind}
use Rattle.plan_laws.specs.plan_rules.declared.PlanKind.{PlanKind}
use Rattle.plan_laws.specs.plan_rules.Line.{kind_of}
use Rattle.plan_laws.specs.plan_rules.Line as rules
use Rattle.text_lines.specs.declared.fault.LineFault.{LineFault}
use Rattle.text_lines.specs.declared.fault.LineFault.TheVariants.{Memory, Kind}
use Rattle.periods.specs.declared.line.Change.{Change}
use Rattle.periods.specs.declared.line.Change.TheVariants.{Price, Bounds}
use Rattle.periods.specs.declared.line.Entry.{Entry}
use Rattle.periods.specs.declared.line.Entry.TheVariants.{Begins, Changes}

-- a change of the material of this name
abbrev pub changes : List ℕ → Change → rules.Entry
changes material (Price price) = rules.price material price
changes material (Bounds lower upper) = rules.bounds material lower upper

abbrev pub entry_of : Entry → rules.Entry
entry_of Begins = rules.begins
entry_of (Changes material change) = changes material.now change

-- what the tokens after the word of a line stand for: an entry, or a fault in the words of a script
abbrev pub ReadsFields : Result rules.Entry PlanKind → Result Entry (LineFault EditKind) → Type 0
ReadsFields reading (Ok entry) = reading ≡ Ok (entry_of entry)
ReadsFields reading (Err Memory) = Unit {0}
ReadsFields reading (Err (Kind kind)) = reading ≡ Err (kind_of kind)
