use Rattle.std.proofs.Common.{◌∙◌, ℕ, List, length, Option, Some, None, sym, subst, arith}
use Rattle.rank_check.specs.pns_rules.Shape.{shape_of}
use Rattle.abb_search.specs.neutral_extension.Candidates.{AreMakersOf}
use Rattle.abb_search.specs.declared.rounds.Ending.{Ending}
use Rattle.rank_search.specs.Turns.{IsRanking, IsRankEnd, TurnHolds}
use Rattle.rank_search.proofs.TurnLemmas.{kept_of}
use Rattle.rank_search.proofs.turns.run.Goals as goal

pub turn-requires-clause-own : goal.turn-requires-clause-own
turn-requires-clause-own g c = c.turns.invariant.own

pub turn-requires-clause-makers : goal.turn-requires-clause-makers
turn-requires-clause-makers g c =
    subst (λ (m : List (List ℕ)). AreMakersOf (shape_of c.args.site.now) m)
    (sym c.turns.invariant.makers) c.requires.makers

pub turn-requires-clause-ranking : goal.turn-requires-clause-ranking
turn-requires-clause-ranking g c =
    let r = c.turns.invariant.ranking in
    subst (λ b. IsRanking g.E.Evaluator.past c.args.site.now b c.turns.growing c.turns.found)
    (sym r.budget_is) r

pub returns-in-Some-clause-ends : goal.returns-in-Some-clause-ends
returns-in-Some-clause-ends g c =
    let holds : TurnHolds g.E.Evaluator.past c.args.site.now c.turns.growing.budget
    (length c.turns.growing.pool.payloads) c.turn.new.growing c.turn.new.found
    (Some c.in-Some.ending)
    = subst
    (λ (o : Option Ending). TurnHolds g.E.Evaluator.past c.args.site.now c.turns.growing.budget
    (length c.turns.growing.pool.payloads) c.turn.new.growing c.turn.new.found o) c.in-Some.is
    c.in_ok-ending.ensures.holds in
    subst
    (λ b. IsRankEnd g.E.Evaluator.past c.args.site.now b c.turn.new.growing c.turn.new.found
    c.in-Some.ending) c.turns.invariant.ranking.budget_is holds

pub returns-in-Some-clause-count : goal.returns-in-Some-clause-count
returns-in-Some-clause-count g c = c.in_ok-ending.ensures.count ∙ c.turns.invariant.count

pub turns-preserved : goal.turns-preserved
turns-preserved g c =
    let more : TurnHolds g.E.Evaluator.past c.args.site.now c.turns.growing.budget
    (length c.turns.growing.pool.payloads) c.turn.new.growing c.turn.new.found None
    = subst
    (λ (o : Option Ending). TurnHolds g.E.Evaluator.past c.args.site.now c.turns.growing.budget
    (length c.turns.growing.pool.payloads) c.turn.new.growing c.turn.new.found o)
    c.in_default.is c.in_ok-ending.ensures.holds in
    record {
      ranking =
          subst
          (λ b. IsRanking g.E.Evaluator.past c.args.site.now b c.turn.new.growing c.turn.new.found)
          c.turns.invariant.ranking.budget_is more.ranking;
      own = c.turn.ensures.own;
      makers = c.turn.ensures.makers ∙ c.turns.invariant.makers;
      count = c.in_ok-ending.ensures.count ∙ c.turns.invariant.count;
    }

pub turns-smaller : goal.turns-smaller
turns-smaller g c =
    let m : TurnHolds g.E.Evaluator.past c.args.site.now c.turns.growing.budget
    (length c.turns.growing.pool.payloads) c.turn.new.growing c.turn.new.found None
    = subst
    (λ (o : Option Ending). TurnHolds g.E.Evaluator.past c.args.site.now c.turns.growing.budget
    (length c.turns.growing.pool.payloads) c.turn.new.growing c.turn.new.found o)
    c.in_default.is c.in_ok-ending.ensures.holds in
    let few =
    (kept_of g.E.Evaluator.past c.args.site.now c.turns.growing.budget c.turn.new.growing
    c.turn.new.found m.ranking).few in
    let more = m.more in
    let e = m.ranking.budget_is in
    omega (arith, few, more, e)
