use Rattle.std.proofs.Common.{◌∙◌, sym}
use Rattle.rank_search.proofs.TurnLemmas.{ranking_resumed, stopped}
use Rattle.rank_search.proofs.turns.turn.Goals as goal

pub returns-in-Some-clause-holds : goal.returns-in-Some-clause-holds
returns-in-Some-clause-holds g c =
    stopped g.E.Evaluator.past c.args.site.now c.args.growing.now.budget c.args.growing.now
    c.args.found.now c.in-Some.stopped c.take.new.self c.requires.ranking
    (sym c.take.ensures.value ∙ c.in-Some.is)

pub go_on-requires-clause-ranking : goal.go_on-requires-clause-ranking
go_on-requires-clause-ranking g c =
    ranking_resumed g.E.Evaluator.past c.args.site.now c.args.growing.now.budget c.args.growing.now
    c.args.found.now c.take.new.self c.take.ensures.after c.requires.ranking
    (sym c.take.ensures.value ∙ c.in-None.is)
