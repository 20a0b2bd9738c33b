use Rattle.std.proofs.Common.{◌++◌, [], refl, append-nil}
use Rattle.network_commands.specs.studio_rules.Ending.{Only}
use Rattle.network_commands.proofs.command_files.Cited.{GoesOut, Ends-after, only_in, Ends-stopped}
use Rattle.report_commands.proofs.Shown.{unfinished_goes, unfinished_text}
use Rattle.report_commands.proofs.stopped.say_stopped.Goals as goal

pub returns-in-Ok : goal.returns-in-Ok
returns-in-Ok g c =
    let text = c.args.text.now in
    let status = c.args.status in
    let Q = Only status text in
    Ends-after (Only status []) Q c.args.out.now _ _ _ text c.in-Ok.ensures.ok
    c.put_answer.ensures.quiet
    (only_in (λ s t. GoesOut s × Q s (text ++ t)) status []
    (unfinished_goes status c.requires.unfinished, (refl, append-nil text)))
    c.put_answer.ensures.later c.say_unfinished.ensures

pub returns-in-Err : goal.returns-in-Err
returns-in-Err g c =
    Ends-stopped (Only c.args.status c.args.text.now) c.args.out.now _ c.args.status
    (unfinished_text c.args.status c.requires.unfinished) c.args.text.now (refl, refl)
    c.in-Err.ensures.cause c.in-Err.ensures.err c.put_answer.ensures.quiet
