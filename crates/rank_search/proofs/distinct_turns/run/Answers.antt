use Rattle.std.proofs.Common.{◌∙◌, ℕ, List, Option, Some, None, sym, subst}
use Rattle.rank_check.specs.pns_rules.Shape.{shape_of}
use Rattle.abb_search.specs.neutral_extension.Candidates.{AreMakersOf}
use Rattle.abb_search.specs.declared.rounds.Ending.{Ending}
use Rattle.rank_search.specs.DistinctTurns.{IsSearching, IsListEnd, TurnHolds, left_over}
use Rattle.rank_search.proofs.distinct_turns.run.Goals as goal

pub turn-requires-clause-own : goal.turn-requires-clause-own
turn-requires-clause-own g c = c.turns.invariant.own

pub turn-requires-clause-makers : goal.turn-requires-clause-makers
turn-requires-clause-makers g c =
    subst (λ (m : List (List ℕ)). AreMakersOf (shape_of c.args.site.now) m)
    (sym c.turns.invariant.makers) c.requires.makers

pub turn-requires-clause-searching : goal.turn-requires-clause-searching
turn-requires-clause-searching g c =
    let r = c.turns.invariant.searching in
    subst (λ b. IsSearching g.E.Evaluator.past c.args.site.now b c.turns.growing c.turns.listing)
    (sym r.of_tree.budget_is) r

pub returns-in-Some-clause-ends : goal.returns-in-Some-clause-ends
returns-in-Some-clause-ends g c =
    let holds : TurnHolds g.E.Evaluator.past c.args.site.now c.turns.growing.budget
    (left_over c.turns.growing) c.turn.new.growing c.turn.new.listing
    (Some c.in-Some.ending)
    = subst
    (λ (o : Option Ending). TurnHolds g.E.Evaluator.past c.args.site.now c.turns.growing.budget
    (left_over c.turns.growing) c.turn.new.growing c.turn.new.listing o) c.in-Some.is
    c.in_ok-ending.ensures.holds in
    subst
    (λ b. IsListEnd g.E.Evaluator.past c.args.site.now b c.turn.new.growing c.turn.new.listing
    c.in-Some.ending) c.turns.invariant.searching.of_tree.budget_is holds

pub returns-in-Some-clause-count : goal.returns-in-Some-clause-count
returns-in-Some-clause-count g c = c.turn.ensures.count ∙ c.turns.invariant.count

pub turns-preserved : goal.turns-preserved
turns-preserved g c =
    let more : TurnHolds g.E.Evaluator.past c.args.site.now c.turns.growing.budget
    (left_over c.turns.growing) c.turn.new.growing c.turn.new.listing None
    = subst
    (λ (o : Option Ending). TurnHolds g.E.Evaluator.past c.args.site.now c.turns.growing.budget
    (left_over c.turns.growing) c.turn.new.growing c.turn.new.listing o)
    c.in_default.is c.in_ok-ending.ensures.holds in
    record {
      searching =
          subst
          (λ b. IsSearching g.E.Evaluator.past c.args.site.now b c.turn.new.growing
          c.turn.new.listing)
          c.turns.invariant.searching.of_tree.budget_is more.searching;
      own = c.turn.ensures.own;
      makers = c.turn.ensures.makers ∙ c.turns.invariant.makers;
      count = c.turn.ensures.count ∙ c.turns.invariant.count;
    }

pub turns-smaller : goal.turns-smaller
turns-smaller g c =
    let m : TurnHolds g.E.Evaluator.past c.args.site.now c.turns.growing.budget
    (left_over c.turns.growing) c.turn.new.growing c.turn.new.listing None
    = subst
    (λ (o : Option Ending). TurnHolds g.E.Evaluator.past c.args.site.now c.turns.growing.budget
    (left_over c.turns.growing) c.turn.new.growing c.turn.new.listing o)
    c.in_default.is c.in_ok-ending.ensures.holds in
    m.less
