-- A call over a shelf in memory with the plant of one unit.
use Rattle.std.proofs.Common.{◌≡◌, ◌∷◌, [], List, ℕ, Some, codes, inl, refl, ap, ◌∙◌}
use Rattle.studio.specs.text_rules.State.{ShelfState, OutputsState}
use Rattle.studio.specs.pns_io.MemoryShelf.{Shelved}
use Rattle.studio.specs.pns_io.NamedFiles.{file_of}
use Rattle.studio.specs.studio_rules.Answers.{WordsSay}
use Rattle.studio.specs.studio_rules.Command.{Solving, command_of}
use Rattle.studio.specs.studio_rules.Ending.{Finishes, IsOneOf}
use Rattle.studio.specs.studio_rules.declared.status.Status.{Status}
use Rattle.studio.specs.studio_rules.declared.status.Status.TheVariants.{Done, ReadFault}
use Rattle.studio.specs.studio_rules.declared.status.Status.TheVariants.{WriteFault}
use Rattle.studio.specs.studio_rules.declared.status.Status.TheVariants.{Memory}
use Rattle.call_laws.specs.Calls.{SureCallIsDone}
use Rattle.call_laws.specs.OneUnit.{one_unit_text, OneUnitIsSure}

-- what a shelf in memory says
abbrev pub state_of : Shelved → ShelfState
state_of shelf = record {
  held = λ name. Some (file_of shelf.files name);
  faults = λ name. shelf.failed;
}

abbrev pub solve_words : List (List ℕ)
solve_words = codes "solve" ∷ codes "a.pns" ∷ codes "4" ∷ []

pub solved : (shelf new : Shelved) (before after : OutputsState) (words : List (List ℕ))
    (status : Status) → OneUnitIsSure → SureCallIsDone
    → file_of shelf.files (codes "a.pns") ≡ Some one_unit_text → words ≡ solve_words
    → Finishes (WordsSay (state_of shelf) (state_of new) words) before after status
    → IsOneOf (Done ∷ ReadFault ∷ WriteFault ∷ Memory ∷ []) status
solved shelf new before after words status sure done held are ends =
    let form : command_of solve_words ≡ Some (Solving (codes "a.pns") 4) = refl in
    let told = ap Some held in
    done (state_of shelf) (state_of new) before after words (codes "a.pns") 4 status
    (sure (state_of shelf).held told) (inl (ap command_of are ∙ form)) ends
