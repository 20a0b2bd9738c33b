use Rattle.pns_rules.proofs.StructureLemmas.{structures_unite}
use Rattle.pns_rules.proofs.structures.structures_unite.Goals as goal

pub returns : goal.returns
returns c = structures_unite
