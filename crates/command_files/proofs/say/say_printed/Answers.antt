use Rattle.command_files.proofs.say.say_printed.Goals as goal

pub returns : goal.returns
returns g c = c.say_searched.ensures
