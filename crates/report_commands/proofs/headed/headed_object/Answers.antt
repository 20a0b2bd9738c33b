use Rattle.report_commands.proofs.headed.headed_object.Goals as goal

pub returns-in-Ok-clause-says : goal.returns-in-Ok-clause-says
returns-in-Ok-clause-says c =
    let told = c.in-Ok.ensures in (
      told.0,
      (c.in_ok-verdict.verdict, c.in_ok-verdict.ensures.verdict, told.1),
      told.2,
    )
