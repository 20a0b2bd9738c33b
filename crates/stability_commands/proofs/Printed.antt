-- Lines that are printed.
use Rattle.std.proofs.Common.{◌≡◌, List, Ok, Err, refl}
use Rattle.network_commands.specs.tree_text.declared.fault.PrintFault.TheVariants as faults
use Rattle.stability.specs.text_rules.State.{OutputsState}
use Rattle.stability.specs.tree_text_rules.Line.{Token}
use Rattle.network_commands.specs.tree_text.Prints.{Prints}
use Rattle.network_commands.specs.studio_rules.Printed.{spelled, OneAnswer}
use Rattle.network_commands.specs.studio_rules.Ending.{Ends, Tells}
use Rattle.network_commands.specs.studio_rules.declared.status.Status.TheVariants.{NotBest}
use Rattle.network_commands.specs.studio_rules.declared.status.Status.TheVariants.{WriteFault}
use Rattle.network_commands.proofs.command_files.Cited.{printed_whole, printed_front}

-- the text of a network that is not the best, as of other lines
pub not_best_whole : (lines : List (List Token)) (old new : OutputsState) → new.err ≡ old.err
    → Prints lines old.out new.out (Ok tt) → Ends (Tells (OneAnswer NotBest lines)) old new NotBest
not_best_whole lines old new quiet out =
    printed_whole lines old new NotBest tt quiet (spelled lines, (refl, refl), refl) out

pub not_best_front : (lines : List (List Token)) (old new : OutputsState) → new.err ≡ old.err
    → Prints lines old.out new.out (Err faults.WriteFault)
    → Ends (Tells (OneAnswer NotBest lines)) old new WriteFault
not_best_front lines old new quiet out =
    printed_front lines old new NotBest tt quiet (spelled lines, (refl, refl), refl) out
