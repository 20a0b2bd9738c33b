use Rattle.report_commands.proofs.show.report_of.Goals as goal

pub returns-in-Ok-verdict_text : goal.returns-in-Ok-verdict_text
returns-in-Ok-verdict_text c =
    let told = c.in-Ok-verdict_text.ensures in
    (told.0, (c.in-Ok.verdict, c.in-Ok.ensures.verdict, told.1), told.2)
