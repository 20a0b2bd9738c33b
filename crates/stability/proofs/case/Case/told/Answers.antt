use Rattle.stability.proofs.RangeLemmas.{told_cheaper, told_wanting}
use Rattle.stability.proofs.case.Case.told.Goals as goal

pub returns-in-Cheaper-clause-end : goal.returns-in-Cheaper-clause-end
returns-in-Cheaper-clause-end c =
    told_cheaper c.args.self.now c.args.side c.args.bracket c.requires.is_bracket
    c.in-Cheaper.network c.in-Cheaper.is c.requires.settled

pub returns-in-Wanting-clause-refusal : goal.returns-in-Wanting-clause-refusal
returns-in-Wanting-clause-refusal c =
    told_wanting c.best_between.ensures.between c.args.self.now c.args.side c.args.bracket
    c.requires.is_bracket c.in-Wanting.fault c.in-Wanting.is c.requires.settled
