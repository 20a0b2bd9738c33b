use Rattle.std.proofs.Common.{◌∙◌, sym}
use Rattle.rank_search.proofs.DistinctTurnLemmas.{searching_resumed, stopped}
use Rattle.rank_search.proofs.distinct_turns.turn.Goals as goal

pub returns-in-Some-clause-holds : goal.returns-in-Some-clause-holds
returns-in-Some-clause-holds g c =
    stopped g.E.Evaluator.past c.args.site.now c.args.growing.now.budget c.args.growing.now
    c.args.listing.now c.in-Some.stopped c.take.new.self c.requires.searching
    (sym c.take.ensures.value ∙ c.in-Some.is)

pub go_on-requires-clause-searching : goal.go_on-requires-clause-searching
go_on-requires-clause-searching g c =
    searching_resumed g.E.Evaluator.past c.args.site.now c.args.growing.now.budget
    c.args.growing.now
    c.args.listing.now c.take.new.self c.take.ensures.after c.requires.searching
    (sym c.take.ensures.value ∙ c.in-None.is)
