use Rattle.std.proofs.Common.{◌≡◌, ◌∙◌, inl, inr}
use Rattle.std.specs.String.{string_bytes}
use Rattle.studio_words.specs.studio_rules.Lines.{line}
use Rattle.studio_words.specs.studio_rules.Ending.{Only, OrMemory}
use Rattle.command_files.proofs.Ending.{Ends-map}
use Rattle.command_files.proofs.say.tell_made.Goals as goal

pub returns-in-Ok : goal.returns-in-Ok
returns-in-Ok g c told is =
    let whole : string_bytes c.in-Ok.text ≡ line told = (rw c.in-Ok.is at is) in
    Ends-map (Only c.args.status c.as_bytes.result.now) (OrMemory (Only c.args.status (line told)))
    c.args.out.now c.tell.new.out _
    (λ s t p. inl (p.0, p.1 ∙ (c.as_bytes.ensures.value ∙ whole))) c.tell.ensures

pub returns-in-Err : goal.returns-in-Err
returns-in-Err g c told is =
    Ends-map _ (OrMemory (Only c.args.status (line told))) c.args.out.now _ _ (λ s t p. inr p)
    c.say_memory.ensures
