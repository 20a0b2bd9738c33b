use Rattle.command_files.proofs.problem_file.problem_of.Goals as goal

pub returns-in-Ok-clause-problem : goal.returns-in-Ok-clause-problem
returns-in-Ok-clause-problem g c =
    (c.in-Ok.field-0-0.items, c.in-Ok.ensures.held, c.in-Ok.ensures.problem)
