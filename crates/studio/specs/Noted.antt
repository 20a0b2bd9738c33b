-- What standard error shows of a fault of an output.
use Rattle.std.specs.Prelude.{◌≡◌, ◌≤◌}
use Rattle.structure_commands.specs.text_rules.Outside.{last_count}
use Rattle.structure_commands.specs.text_rules.State.{OutputsState}
use Rattle.structure_commands.specs.studio_rules.Ending.{TakesFault}
use Rattle.structure_commands.specs.studio_rules.declared.status.Status.{Status}
use Rattle.structure_commands.specs.studio_rules.declared.status.Status.TheVariants.{WriteFault}

-- between two states of the outputs, standard error took the line `write fault`, or failed
pub record ShowsFault (old new : OutputsState) : Type 0 where
  pub taken : TakesFault old.err new.err
  pub later : old.err.faults ≤ new.err.faults
  pub few : new.err.faults ≤ last_count
  pub quiet : new.out ≡ old.out

-- it did so with the status of such a fault; with any other the outputs stay as they were
abbrev pub IsNoted : Status → (old new : OutputsState) → Type 0
IsNoted WriteFault old new = ShowsFault old new
IsNoted status old new = new ≡ old
