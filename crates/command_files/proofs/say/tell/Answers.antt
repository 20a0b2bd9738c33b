use Rattle.std.proofs.Common.{◌++◌, ◌∙◌, ap, sym, List, ℕ, append_assoc}
use Rattle.std.proofs.KnownBytes.{Appends-trans}
use Rattle.command_files.proofs.Ending.{HasRisen-later}
use Rattle.command_files.proofs.Put.{told_whole, told_stopped}
use Rattle.command_files.proofs.say.tell.Goals as goal

pub returns-in-Ok-put_error : goal.returns-in-Ok-put_error
returns-in-Ok-put_error g c =
    told_whole c.args.out.now _ (c.put_error-in-Ok.ensures.quiet ∙ c.put_error.ensures.quiet)
    c.args.status c.requires.refusal c.args.first.now c.args.notes.now c.requires.seconds
    (Appends-trans _ _ _ c.args.first.now c.args.notes.now c.in-Ok.ensures.ok
    c.in-Ok-put_error.ensures.ok)

pub returns-in-Err-put_error : goal.returns-in-Err-put_error
returns-in-Err-put_error g c =
    let w = c.in-Err-put_error.ensures.err in
    told_stopped c.args.out.now _ (c.put_error-in-Ok.ensures.quiet ∙ c.put_error.ensures.quiet)
    c.args.status c.requires.refusal c.args.first.now c.args.notes.now c.requires.seconds
    (HasRisen-later _ _ _ c.put_error.ensures.later c.in-Err-put_error.ensures.cause) (
      c.args.first.now ++ w.0,
      w.1,
      ap (λ (t : List ℕ). c.args.first.now ++ t) w.2
          ∙ sym (append_assoc c.args.first.now w.0 w.1),
      Appends-trans _ _ _ c.args.first.now w.0 c.in-Ok.ensures.ok w.3,
    )

pub returns-in-Err : goal.returns-in-Err
returns-in-Err g c =
    let w = c.in-Err.ensures.err in
    told_stopped c.args.out.now _ c.put_error.ensures.quiet c.args.status c.requires.refusal
    c.args.first.now c.args.notes.now c.requires.seconds
    c.in-Err.ensures.cause (
      w.0,
      w.1 ++ c.args.notes.now,
      ap (λ (t : List ℕ). t ++ c.args.notes.now) w.2 ∙ append_assoc w.0 w.1 c.args.notes.now,
      w.3,
    )
