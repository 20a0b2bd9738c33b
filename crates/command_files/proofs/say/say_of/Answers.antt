use Rattle.std.proofs.Common.{◌++◌, ◌∙◌, inl, inr}
use Rattle.studio_words.specs.studio_rules.Lines.{line}
use Rattle.studio_words.specs.studio_rules.Ending.{Only, OrMemory}
use Rattle.command_files.proofs.Ending.{Ends-map}
use Rattle.command_files.proofs.say.say_of.Goals as goal

pub returns-in-Ok : goal.returns-in-Ok
returns-in-Ok g c =
    Ends-map (Only c.args.status c.deref.result.now)
    (OrMemory (Only c.args.status (line (c.args.head.now ++ c.args.tail.now)))) c.args.out.now
    c.say.new.out _ (λ s t p. inl (p.0, p.1 ∙ c.deref.ensures.value ∙ c.in-Ok.ensures))
    c.say.ensures

pub returns-in-Err : goal.returns-in-Err
returns-in-Err g c =
    Ends-map _ (OrMemory (Only c.args.status (line (c.args.head.now ++ c.args.tail.now))))
    c.args.out.now _ _ (λ s t p. inr p) c.say_memory.ensures
