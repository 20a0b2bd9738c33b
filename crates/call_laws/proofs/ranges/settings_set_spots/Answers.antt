use Rattle.call_laws.proofs.SpotLemmas as laws
use Rattle.call_laws.proofs.ranges.settings_set_spots.Goals as goal

pub returns : goal.returns
returns c = laws.settings_set_spots
