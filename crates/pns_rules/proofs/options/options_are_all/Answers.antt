use Rattle.pns_rules.proofs.OptionLemmas.{options_all, options_ascend}
use Rattle.pns_rules.proofs.options.options_are_all.Goals as goal

pub returns-clause-all : goal.returns-clause-all
returns-clause-all c = options_all

pub returns-clause-ascend : goal.returns-clause-ascend
returns-clause-ascend c = options_ascend
