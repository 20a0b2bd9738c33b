-- What a fault of a reader says of a reading in the grammar's words. Out of memory says nothing.
use Rattle.std.specs.Prelude.{◌≡◌, ℕ, Result, Err}
use Rattle.text_lines.specs.declared.fault.TextFault.{TextFault}
use Rattle.text_lines.specs.declared.fault.TextFault.TheVariants.{At, Memory}
use Rattle.text_lines.specs.declared.fault.LineFault.{LineFault}
use Rattle.text_lines.specs.declared.fault.LineFault.TheVariants as line

-- of a text
abbrev pub Tells : {A K : Type 0} → Result A (ℕ × K) → TextFault K → Type 0
Tells reading Memory = Unit {0}
Tells reading (At number kind) = reading ≡ Err (number, kind)

-- of a line
abbrev pub TellsLine : {A K : Type 0} → Result A K → LineFault K → Type 0
TellsLine reading line.Memory = Unit {0}
TellsLine reading (line.Kind kind) = reading ≡ Err kind

-- the fault of a text whose line of this number has the fault
abbrev pub fault_at : {K : Type 0} → ℕ → LineFault K → TextFault K
fault_at number line.Memory = Memory
fault_at number (line.Kind kind) = At number kind
