use Rattle.std.proofs.Common.{◌∙◌, ◌++◌, ◌∷◌, [], ◌≤◌, List, Some, sym, ap, subst, arith}
use Rattle.std.proofs.lemmas.Bool.{both_ways}
use Rattle.pgraph.specs.number_sets.Sets.{has}
use Rattle.pgraph.specs.pns_rules.Structure.{IsAllowed}
use Rattle.pgraph.specs.Tables.{shape}
use Rattle.pgraph.specs.unit_sets.declared.node.Node.{Node}
use Rattle.structure_list.specs.declared.position.Position.{Position}
use Rattle.structure_list.specs.Stack.{IsStack, HaveSame, weight}
use Rattle.structure_list.proofs.TightLemmas.{tight_here}
use Rattle.structure_list.proofs.StackLemmas.{top_position, top_tight, front_stack, front_less}
use Rattle.structure_list.proofs.StackLemmas.{finds_then, same_then, cut_top, is_room, taken_stack}
use Rattle.structure_list.proofs.StackLemmas.{fewer_taken, forced_same, forced_weight, dropped_same}
use Rattle.structure_list.proofs.StackLemmas.{split_stack, split_same, split_weight, fewer_left}
use Rattle.structure_list.proofs.search.first_in.Goals as goal

pub turn-requires : goal.turn-requires
turn-requires g c =
    top_position (shape c.args.graph.now) c.descend.stack c.descend.here c.descend.invariant.stack

pub returns-in_default-clause-stack : goal.returns-in_default-clause-stack
returns-in_default-clause-stack g c =
    front_stack (shape c.args.graph.now) c.descend.stack c.descend.here c.descend.invariant.stack

pub returns-in_default-clause-finds : goal.returns-in_default-clause-finds
returns-in_default-clause-finds g c =
    let s = shape c.args.graph.now in
    let ps = c.descend.stack in
    let q = c.descend.here in
    finds_then s (c.args.stack.now ++ c.args.position.now ∷ []) (ps ++ q ∷ [])
    (Some q.decided.node.inside) ps c.descend.invariant.same
    (cut_top s ps q c.is_proper.ensures.proper c.in_default.ensures.settled
    c.descend.invariant.allowed c.descend.invariant.stack)

pub taking-taken-requires-clause-tight : goal.taking-taken-requires-clause-tight
taking-taken-requires-clause-tight g c =
    tight_here (shape c.args.graph.now) c.in-Some.turn.position.decided.node
    c.descend.here.decided.node c.in-Some.ensures.node
    (top_tight (shape c.args.graph.now) c.descend.stack c.descend.here c.descend.invariant.stack)

pub leaving_counted-requires-clause-tight : goal.leaving_counted-requires-clause-tight
leaving_counted-requires-clause-tight g c =
    tight_here (shape c.args.graph.now) c.in-Some.turn.position.decided.node
    c.descend.here.decided.node c.in-Some.ensures.node
    (top_tight (shape c.args.graph.now) c.descend.stack c.descend.here c.descend.invariant.stack)

pub push-requires : goal.push-requires
push-requires g c =
    is_room (shape c.args.graph.now) c.descend.stack c.descend.here c.in-Some.turn
    c.in-Some.ensures.turn c.in-Some.ensures.node
    c.taking-taken.result c.taking-taken.ensures.side c.descend.invariant.stack

pub descend-preserved-in-Some-leaving_counted : goal.descend-preserved-in-Some-leaving_counted
descend-preserved-in-Some-leaving_counted g c =
    let s = shape c.args.graph.now in
    let ps = c.descend.stack in
    let q = c.descend.here in
    let old : List Position = c.args.stack.now ++ c.args.position.now ∷ [] in
    let turn = c.in-Some.turn in
    let taken = c.taking-taken.result in
    let left = c.in-Some-leaving_counted.left in
    let pushed = sym c.push.ensures in
    record {
      stack = subst (λ k. IsStack s (k ++ left ∷ [])) pushed
          (split_stack s ps q turn c.in-Some.ensures.turn c.in-Some.ensures.node taken
          c.taking-taken.ensures.side left c.in-Some-leaving_counted.ensures.side
          c.descend.invariant.stack);
      same = subst (λ k. HaveSame s old (k ++ left ∷ [])) pushed
          (same_then s old (ps ++ q ∷ []) ((ps ++ taken ∷ []) ++ left ∷ []) c.descend.invariant.same
          (split_same s ps q turn c.in-Some.ensures.turn c.in-Some.ensures.node taken
          c.taking-taken.ensures.side left c.in-Some-leaving_counted.ensures.side));
      allowed =
          subst (λ xs. IsAllowed s (has xs))
          (sym (c.in-Some-leaving_counted.ensures.inside
          ∙ ap (λ (m : Node). m.inside) c.in-Some.ensures.node)) c.descend.invariant.allowed;
      less = subst (λ k. weight s (k ++ left ∷ []) ≤ weight s old) pushed
          (let less = c.descend.invariant.less in
          let split =
          split_weight s ps q turn c.in-Some.ensures.turn c.in-Some.ensures.node taken
          c.taking-taken.ensures.side left c.in-Some-leaving_counted.ensures.side in
          omega (arith, less, split));
      few = λ none.
          let few = c.descend.invariant.few none in
          let one = c.in-Some-leaving_counted.ensures.counted in
          let fewer =
          fewer_left s ps q turn c.in-Some.ensures.turn c.in-Some.ensures.node taken
          c.taking-taken.ensures.side left c.in-Some-leaving_counted.ensures.side in
          omega (arith, few, one, fewer);
    }

pub returns-then-not-is_allowed-clause-stack : goal.returns-then-not-is_allowed-clause-stack
returns-then-not-is_allowed-clause-stack g c =
    let s = shape c.args.graph.now in
    front_stack s c.descend.stack c.taking-taken.result
    (taken_stack s c.descend.stack c.descend.here c.in-Some.turn c.in-Some.ensures.turn
    c.in-Some.ensures.node c.taking-taken.result c.taking-taken.ensures.side
    c.descend.invariant.stack)

pub returns-then-not-is_allowed-clause-finds : goal.returns-then-not-is_allowed-clause-finds
returns-then-not-is_allowed-clause-finds g c =
    let s = shape c.args.graph.now in
    let ps = c.descend.stack in
    let q = c.descend.here in
    let taken = c.taking-taken.result in
    same_then s (c.args.stack.now ++ c.args.position.now ∷ []) (ps ++ q ∷ []) ps
    c.descend.invariant.same
    (same_then s (ps ++ q ∷ []) (ps ++ taken ∷ []) ps
    (forced_same s ps q c.in-Some.turn c.in-Some.ensures.turn c.in-Some.ensures.node taken
    c.taking-taken.ensures.side c.in-None.ensures.forced)
    (dropped_same s ps taken
    (λ p. both_ways c.is_allowed.result c.if-not-is_allowed.true (c.is_allowed.ensures.1 p))))

pub returns-then-not-is_allowed-clause-smaller : goal.returns-then-not-is_allowed-clause-smaller
returns-then-not-is_allowed-clause-smaller g c =
    let s = shape c.args.graph.now in
    let ps = c.descend.stack in
    let taken = c.taking-taken.result in
    let less = c.descend.invariant.less in
    let front = front_less s ps taken in
    let forced =
    forced_weight s ps c.descend.here c.in-Some.turn c.in-Some.ensures.turn
    c.in-Some.ensures.node taken c.taking-taken.ensures.side c.in-None.ensures.forced in
    omega (arith, less, front, forced)

pub descend-preserved : goal.descend-preserved
descend-preserved g c =
    let s = shape c.args.graph.now in
    let ps = c.descend.stack in
    let q = c.descend.here in
    let old : List Position = c.args.stack.now ++ c.args.position.now ∷ [] in
    let turn = c.in-Some.turn in
    let taken = c.taking-taken.result in
    record {
      stack =
          taken_stack s ps q turn c.in-Some.ensures.turn c.in-Some.ensures.node taken
          c.taking-taken.ensures.side c.descend.invariant.stack;
      same = same_then s old (ps ++ q ∷ []) (ps ++ taken ∷ []) c.descend.invariant.same
          (forced_same s ps q turn c.in-Some.ensures.turn c.in-Some.ensures.node taken
          c.taking-taken.ensures.side c.in-None.ensures.forced);
      allowed = c.is_allowed.ensures.0 c.if-not-is_allowed.false;
      less =
          let less = c.descend.invariant.less in
          let forced =
          forced_weight s ps q turn c.in-Some.ensures.turn c.in-Some.ensures.node taken
          c.taking-taken.ensures.side c.in-None.ensures.forced in
          omega (arith, less, forced);
      few = λ none.
          let few = c.descend.invariant.few none in
          let one = c.in-None.ensures.counted in
          let fewer =
          fewer_taken s ps q turn c.in-Some.ensures.turn c.in-Some.ensures.node taken
          c.taking-taken.ensures.side in
          omega (arith, few, one, fewer);
    }
