use Rattle.call_laws.proofs.RangeLemmas as laws
use Rattle.call_laws.proofs.ranges.values_are_edited.Goals as goal

pub returns : goal.returns
returns c = laws.values_are_edited c.settings_set_spots.ensures c.printed_scripts_read.ensures
