use Rattle.rank_laws.specs.rank_rules.Text.{ranking_of}
use Rattle.rank_check.proofs.AnswerLemmas.{accepts, names_network, names_node, on_ok}
use Rattle.rank_check.proofs.check.check_rank.Goals as goal

pub returns-clause-accepts : goal.returns-clause-accepts
returns-clause-accepts c =
    accepts c.args.site.now (ranking_of c.args.text.now) c.network_has_one_fault.ensures.passes
    c.ranking_has_one_fault.ensures.passes c.judge.result c.judge.ensures.refused

pub returns-clause-names_network : goal.returns-clause-names_network
returns-clause-names_network c =
    names_network c.args.site.now (ranking_of c.args.text.now)
    c.network_has_one_fault.ensures.passes c.network_has_one_fault.ensures.one c.judge.result
    c.judge.ensures.ranked c.judge.ensures.refused

pub returns-clause-names_node : goal.returns-clause-names_node
returns-clause-names_node c =
    names_node c.args.site.now (ranking_of c.args.text.now) c.network_has_one_fault.ensures.passes
    c.ranking_has_one_fault.ensures.passes c.ranking_has_one_fault.ensures.one c.judge.result
    c.judge.ensures.ranked c.judge.ensures.refused

pub returns-clause-least : goal.returns-clause-least
returns-clause-least c =
    on_ok _ _ c.judge.result
    (λ h. c.listed_are_least.ensures c.args.site.now c.problem.ensures.valid
    (ranking_of c.args.text.now) h) c.judge.ensures.ranked

pub returns-clause-full : goal.returns-clause-full
returns-clause-full c =
    on_ok _ _ c.judge.result
    (λ h. c.others_are_no_better.ensures.full c.args.site.now c.problem.ensures.valid
    (ranking_of c.args.text.now) h) c.judge.ensures.ranked

pub returns-clause-fewer : goal.returns-clause-fewer
returns-clause-fewer c =
    on_ok _ _ c.judge.result
    (λ h. c.others_are_no_better.ensures.fewer c.args.site.now c.problem.ensures.valid
    (ranking_of c.args.text.now) h) c.judge.ensures.ranked

pub returns-clause-alternatives : goal.returns-clause-alternatives
returns-clause-alternatives c =
    on_ok _ _ c.judge.result
    (λ h distinct. c.alternatives_are_right.ensures c.args.site.now c.problem.ensures.valid
    (ranking_of c.args.text.now) h distinct c.is_counted.ensures.counted.within)
    c.judge.ensures.ranked
