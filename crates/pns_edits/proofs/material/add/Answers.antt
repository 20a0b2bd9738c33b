use Rattle.std.proofs.Common.{rules}
use Rattle.pns_edits.proofs.material.add.Goals as goal

pub returns : goal.returns
returns c = record { done = search rules; back_is = search rules; clear = search rules }
