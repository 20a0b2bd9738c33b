use Rattle.command_files.proofs.Put.{unfinished_whole, unfinished_stopped}
use Rattle.command_files.proofs.say.say_unfinished.Goals as goal

pub returns-in-Ok : goal.returns-in-Ok
returns-in-Ok g c =
    unfinished_whole c.args.out.now _ c.put_error.ensures.quiet c.args.status c.requires.unfinished
    c.args.notes.now c.requires.seconds c.in-Ok.ensures.ok

pub returns-in-Err : goal.returns-in-Err
returns-in-Err g c =
    unfinished_stopped c.args.out.now _ c.put_error.ensures.quiet c.args.status
    c.requires.unfinished c.args.notes.now c.requires.seconds c.in-Err.ensures.cause
    c.in-Err.ensures.err
