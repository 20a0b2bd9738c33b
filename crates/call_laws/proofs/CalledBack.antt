-- A call of `edit` by the script of `undo`.
use Rattle.std.proofs.Common.{◌≡◌, ◌⊎◌, ◌++◌, ℕ, List, Option, Some, codes, sym, ap, ◌∙◌}
use Rattle.std.proofs.Common.{subst, refl, inl, inr, append-nil}
use Rattle.studio.specs.text_rules.Outside.{Told}
use Rattle.studio.specs.problem_rules.Problem.{Problem}
use Rattle.studio.specs.edit_rules.Edit.{Edit}
use Rattle.studio.specs.studio_rules.Lines.{line, text_of}
use Rattle.studio.specs.studio_rules.Ending.{Finishes, Writes}
use Rattle.studio.proofs.command_files.Cited.{writes_as}
use Rattle.studio.specs.studio_rules.declared.status.Status.{Status}
use Rattle.studio.specs.studio_rules.declared.status.Status.TheVariants.{Done, ReadFault, TooLong}
use Rattle.studio.specs.studio_rules.declared.status.Status.TheVariants.{WriteFault, Memory}
use Rattle.studio.specs.studio_rules.Reading.{AreHeld, OnFile}
use Rattle.studio.specs.studio_rules.Command.{Command, Editing, Undoing}
use Rattle.studio.specs.studio_rules.Script.{OnScript}
use Rattle.studio.specs.studio_rules.Edits.{UndoWork}
use Rattle.studio.specs.studio_rules.Answers.{AnswersTo, WordsSay}
use Rattle.studio.specs.Calls.{Call, Calls, HasFailed}
use Rattle.call_laws.specs.EditLaws.{File, IsTooLong, IsPlantOrLong, EditIsUndone}
use Rattle.call_laws.specs.EditCalls.{EndsTooLong, GivesBack, CallGivesBack}
use Rattle.studio.proofs.Cited.{answered}

-- the same answer over another shelf that holds the two files
moved : (work : Problem → List Edit → Status → List (List ℕ) → Type 0) (held later : List ℕ → Told)
    (file script bytes steps : List ℕ) (s : Status) (lines : List (List ℕ))
    → held file ≡ Some (Some bytes) → held script ≡ Some (Some steps)
    → later file ≡ Some (Some bytes) → later script ≡ Some (Some steps)
    → OnFile (OnScript work held script) held file s lines
    → OnFile (OnScript work later script) later file s lines
moved work held later file script bytes steps s lines is at here there (b, told, inl fault) =
    (b, subst (λ (t : Told). AreHeld t b) (is ∙ sym here) told, inl fault)
moved work held later file script bytes steps s lines is at here there
    (b, told, inr (p, gives, (t, again, says))) = (
      b,
      subst (λ (o : Told). AreHeld o b) (is ∙ sym here) told,
      inr
          (p, gives, (t, subst (λ (o : Told). AreHeld o t) (at ∙ sym there) again, says)),
    )

module _ (c : Call) (p : Problem) (script : File) where
  -- the call ended with the status, and put out the lines
  abbrev Ended : Status → List (List ℕ) → Type 0
  Ended s lines = (c.status ≡ s) × Writes c.out_before c.out_after s (text_of lines)

  too_long : (file : File) (s : Status) (lines : List (List ℕ)) → Ended s lines
      → IsTooLong file s lines → EndsTooLong c file
  too_long file s lines ended long = (
    long.1.0,
    (
      ended.0 ∙ long.0,
      writes_as c.out_before c.out_after s TooLong (text_of lines) _ long.0
          (ap text_of long.1.1 ∙ append-nil (line (codes "too long " ++ file.name))) ended.1,
    ),
  )

  gives_back : (s : Status) (lines : List (List ℕ)) → Ended s lines
      → IsPlantOrLong p script s lines → GivesBack c p script
  gives_back s lines ended (inl (few, done, is)) =
      inl (
        few,
        (
          ended.0
              ∙ done,
          writes_as c.out_before c.out_after s Done (text_of lines) _ done (ap text_of is) ended.1,
        ),
      )
  gives_back s lines ended (inr long) = inr (too_long script s lines ended long)

  by_end : (command : Command) → Calls c command
      → ((s : Status) (lines : List (List ℕ)) → AnswersTo c.shelf_before.held (Some command) s lines
      → IsPlantOrLong p script s lines) → GivesBack c p script ⊎ HasFailed c
  by_end command calls law = at c.status refl calls.call.ends
    where
      at : (s : Status) → c.status ≡ s
          → Finishes (WordsSay c.shelf_before c.shelf_after c.words) c.out_before c.out_after s
          → GivesBack c p script ⊎ HasFailed c
      at ReadFault is e = inr (inl is)
      at WriteFault is e = inr (inr (inl is))
      at Memory is e = inr (inr (inr (inl is)))
      at s is e =
          inl (gives_back s e.1.0 (
            is,
            writes_as c.out_before c.out_after s s e.0 _ refl e.1.2 e.2,
          )
          (law s e.1.0 (subst (λ (f : Option Command). AnswersTo c.shelf_before.held f s e.1.0)
          calls.form e.1.1)))

pub call_gives_back : EditIsUndone → CallGivesBack
call_gives_back law editing undoing again file script bytes steps p plant back given is at edits
    puts here there undoes tells kept held_back calls =
    let first = answered editing (Editing file script) plant.bytes edits puts in
    let second = answered undoing (Undoing file script) back.bytes undoes tells in
    by_end again p back (Editing plant.name back.name) calls (λ s lines said.
    subst (λ (t : List ℕ). IsPlantOrLong p (record { name = back.name; bytes = t }) s lines)
    (sym second.text_is)
    (law editing.shelf_before.held again.shelf_before.held file script plant.name back.name bytes
    steps p first.lines second.lines is given at
    first.answers
    (moved UndoWork undoing.shelf_before.held editing.shelf_before.held file script bytes steps Done
    second.lines here there is at second.answers)
    (kept ∙ ap (λ (t : List ℕ). Some (Some t)) first.text_is)
    (held_back ∙ ap (λ (t : List ℕ). Some (Some t)) second.text_is) s lines said))
