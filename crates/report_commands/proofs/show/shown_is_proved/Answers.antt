use Rattle.report_commands.proofs.Shown as shown
use Rattle.report_commands.proofs.show.shown_is_proved.Goals as goal

pub returns : goal.returns
returns c = shown.shown_is_proved
