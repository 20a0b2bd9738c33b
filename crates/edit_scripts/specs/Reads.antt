-- What a reader of a line answers: what its tokens stand for in the grammar, or the grammar's
-- fault. Out of memory says nothing.
use Rattle.std.specs.Prelude.{◌≡◌, Result, Ok, Err}
use Rattle.text_lines.specs.declared.fault.LineFault.{LineFault}
use Rattle.text_lines.specs.Tells.{TellsLine}

abbrev pub Reads : {V A K : Type 0} → (V → A) → Result A K → Result V (LineFault K) → Type 0
Reads view reading (Ok value) = reading ≡ Ok (view value)
Reads view reading (Err fault) = TellsLine reading fault
