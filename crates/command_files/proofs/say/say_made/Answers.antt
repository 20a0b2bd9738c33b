use Rattle.std.proofs.Common.{◌≡◌, ◌∙◌, inl, inr}
use Rattle.studio_words.specs.studio_rules.Lines.{text_of}
use Rattle.studio_words.specs.studio_rules.Ending.{Only, OrMemory}
use Rattle.studio_words.specs.studio_rules.declared.status.Status.TheVariants.{Done}
use Rattle.command_files.proofs.Ending.{Ends-map}
use Rattle.command_files.proofs.say.say_made.Goals as goal

pub returns-in-Ok : goal.returns-in-Ok
returns-in-Ok g c lines is =
    let whole : c.in-Ok.bytes.items ≡ text_of lines = (rw c.in-Ok.is at is) in
    Ends-map (Only Done c.deref.result.now) (OrMemory (Only Done (text_of lines))) c.args.out.now
    c.say_text.new.out _ (λ s t p. inl (p.0, p.1 ∙ (c.deref.ensures.value ∙ whole)))
    c.say_text.ensures

pub returns-in-Err : goal.returns-in-Err
returns-in-Err g c lines is =
    Ends-map _ (OrMemory (Only Done (text_of lines))) c.args.out.now _ _ (λ s t p. inr p)
    c.say_memory.ensures
