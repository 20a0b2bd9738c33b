use Rattle.flow_rules.proofs.DualityLemmas.{refutation_holds, refuted_is_empty}
use Rattle.flow_rules.proofs.refutation.Goals as goal

pub returns-clause-structures : goal.returns-clause-structures
returns-clause-structures c = refutation_holds

pub returns-clause-relaxed : goal.returns-clause-relaxed
returns-clause-relaxed c = refuted_is_empty
