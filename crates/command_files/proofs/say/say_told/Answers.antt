use Rattle.std.proofs.Common.{◌∙◌}
use Rattle.studio_words.specs.studio_rules.Ending.{Only}
use Rattle.studio_words.specs.studio_rules.declared.status.Status.TheVariants.{Done}
use Rattle.command_files.proofs.Ending.{Ends-map}
use Rattle.command_files.proofs.say.say_told.Goals as goal

pub returns-in-Ok : goal.returns-in-Ok
returns-in-Ok g c =
    rw c.in-Ok.is
    (Ends-map (Only Done c.deref.result.now) (Only Done c.in-Ok.bytes.items) c.args.out.now
    c.say_text.new.out _ (λ s t p. (p.0, p.1 ∙ c.deref.ensures.value)) c.say_text.ensures)

pub returns-in-Err : goal.returns-in-Err
returns-in-Err g c = rw c.in-Err.is c.say_memory.ensures
