use Rattle.structure_commands.proofs.Best as best
use Rattle.structure_commands.proofs.check.accepted_is_best.Goals as goal

pub returns : goal.returns
returns c = best.accepted_is_best c.accepted_by_is_optimal.ensures
    c.accepted_by_has_flows.ensures
