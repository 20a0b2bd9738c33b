use Rattle.command_files.proofs.Put.{memory_whole, memory_stopped}
use Rattle.command_files.proofs.say.say_memory.Goals as goal

pub returns-in-Ok : goal.returns-in-Ok
returns-in-Ok g c =
    memory_whole c.args.out.now c.put_error.new.out c.put_error.ensures.quiet c.in-Ok.ensures.ok

pub returns-in-Err : goal.returns-in-Err
returns-in-Err g c =
    memory_stopped c.args.out.now c.put_error.new.out c.put_error.ensures.quiet
    c.in-Err.ensures.cause c.in-Err.ensures.err
