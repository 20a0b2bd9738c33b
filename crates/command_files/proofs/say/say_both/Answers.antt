use Rattle.std.proofs.Common.{◌++◌, ◌∙◌, ap, refl, List, ℕ, append_assoc}
use Rattle.studio_words.specs.studio_rules.Ending.{Only}
use Rattle.command_files.proofs.Ending.{GoesOut, Ends-after, only_in}
use Rattle.command_files.proofs.Put.{answer_text, answer_goes, Ends-stopped}
use Rattle.command_files.proofs.say.say_both.Goals as goal

pub returns-in-Ok : goal.returns-in-Ok
returns-in-Ok g c =
    let Q = Only c.args.status (c.args.first.now ++ c.args.second.now) in
    Ends-after (Only c.args.status c.args.second.now) Q c.args.out.now _ _ _
    c.args.first.now c.in-Ok.ensures.ok c.put_answer.ensures.quiet
    (only_in (λ s t. GoesOut s × Q s (c.args.first.now ++ t)) c.args.status c.args.second.now
    (answer_goes c.args.status c.requires, (refl, refl))) c.put_answer.ensures.later
    c.say.ensures

pub returns-in-Err : goal.returns-in-Err
returns-in-Err g c =
    let w = c.in-Err.ensures.err in
    Ends-stopped (Only c.args.status (c.args.first.now ++ c.args.second.now)) c.args.out.now _
    c.args.status (answer_text c.args.status c.requires) (c.args.first.now ++ c.args.second.now)
    (refl, refl)
    c.in-Err.ensures.cause (
      w.0,
      w.1 ++ c.args.second.now,
      ap (λ (t : List ℕ). t ++ c.args.second.now) w.2 ∙ append_assoc w.0 w.1 c.args.second.now,
      w.3,
    ) c.put_answer.ensures.quiet
