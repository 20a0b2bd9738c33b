use Rattle.std.proofs.Common.{refl}
use Rattle.studio_words.specs.studio_rules.Ending.{Only}
use Rattle.command_files.proofs.Put.{answer_text, Ends-whole, Ends-stopped}
use Rattle.command_files.proofs.say.say.Goals as goal

pub returns-in-Ok : goal.returns-in-Ok
returns-in-Ok g c =
    Ends-whole (Only c.args.status c.args.bytes.now) c.args.out.now _ c.args.status
    (answer_text c.args.status c.requires) c.args.bytes.now (refl, refl) c.in-Ok.ensures.ok
    c.put_answer.ensures.quiet

pub returns-in-Err : goal.returns-in-Err
returns-in-Err g c =
    Ends-stopped (Only c.args.status c.args.bytes.now) c.args.out.now _ c.args.status
    (answer_text c.args.status c.requires) c.args.bytes.now (refl, refl) c.in-Err.ensures.cause
    c.in-Err.ensures.err c.put_answer.ensures.quiet
