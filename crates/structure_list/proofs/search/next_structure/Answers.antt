use Rattle.std.proofs.Common.{◌<◌, sym, subst, arith}
use Rattle.std.proofs.lemmas.Bool.{both_ways}
use Rattle.pgraph.specs.Tables.{shape}
use Rattle.structure_list.specs.Stack.{IsStack, HaveSame, weight}
use Rattle.structure_list.proofs.StackLemmas.{front_stack, front_less, same_then, dropped_same}
use Rattle.structure_list.proofs.StackLemmas.{few_at}
use Rattle.structure_list.proofs.search.next_structure.Goals as goal

pub first_in-requires-clause-allowed : goal.first_in-requires-clause-allowed
first_in-requires-clause-allowed g c = c.is_allowed.ensures.0 c.if-is_allowed.true

pub returns-in-Some-first_in-clause-few_tests : goal.returns-in-Some-first_in-clause-few_tests
returns-in-Some-first_in-clause-few_tests g c = λ none m up is.
    let st =
    subst (λ k. IsStack (shape c.args.graph.now) k) c.in-Some.ensures.top
    c.pop.invariant.stack in
    let few = few_at (shape c.args.graph.now) c.pop-in-pop.new.self c.in-Some.position st m up is in
    let steps = c.in-Some-first_in.ensures.few_tests none in
    let before = c.pop.invariant.no_step none in
    omega (arith, few, steps, before)

pub pop-smaller : goal.pop-smaller
pop-smaller g c =
    subst (λ k. weight (shape c.args.graph.now) c.pop-in-pop.new.self
    < weight (shape c.args.graph.now) k) (sym c.in-Some.ensures.top)
    (front_less (shape c.args.graph.now) c.pop-in-pop.new.self c.in-Some.position)

pub pop-preserved : goal.pop-preserved
pop-preserved g c =
    let s = shape c.args.graph.now in
    let new = c.pop-in-pop.new.self in
    record {
      stack =
          front_stack s new c.in-Some.position
          (subst (λ k. IsStack s k) c.in-Some.ensures.top c.pop.invariant.stack);
      same = same_then s c.args.stack.now c.pop.stack new c.pop.invariant.same
          (subst (λ k. HaveSame s k new) (sym c.in-Some.ensures.top)
          (dropped_same s new c.in-Some.position
          (λ p. both_ways c.is_allowed.result c.if-is_allowed.false
          (c.is_allowed.ensures.1 p))));
      no_step = c.pop.invariant.no_step;
    }
