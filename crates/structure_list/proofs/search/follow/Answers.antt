use Rattle.std.proofs.Common.{◌∙◌, sym, subst, refl}
use Rattle.pgraph.specs.number_sets.Sets.{has}
use Rattle.pgraph.specs.Tables.{shape}
use Rattle.structure_list.specs.Position.{IsWithinNode}
use Rattle.structure_list.proofs.TightLemmas.{tight_here}
use Rattle.structure_list.proofs.StackLemmas.{top_position, top_tight, is_room}
use Rattle.structure_list.proofs.FollowLemmas.{IsFollowing, follow_start, follow_in, follow_out}
use Rattle.structure_list.proofs.FollowLemmas.{follow_end}
use Rattle.structure_list.proofs.search.follow.Goals as goal

pub follow-init : goal.follow-init
follow-init c =
    follow_start (shape c.args.graph.now) (has c.args.set) c.args.position.now c.args.stack.now
    c.requires.none c.requires.start c.requires.structure

pub turn-requires : goal.turn-requires
turn-requires c =
    top_position (shape c.args.graph.now) c.follow.stack c.follow.here c.follow.invariant.stack

pub returns-in_default : goal.returns-in_default
returns-in_default c =
    follow_end (shape c.args.graph.now) (has c.args.set) c.args.set c.follow.stack c.follow.here
    refl c.in_default.ensures.settled c.follow.invariant

pub taking-here-requires-clause-tight : goal.taking-here-requires-clause-tight
taking-here-requires-clause-tight c =
    tight_here (shape c.args.graph.now) c.in-Some.turn.position.decided.node
    c.follow.here.decided.node c.in-Some.ensures.node
    (top_tight (shape c.args.graph.now) c.follow.stack c.follow.here c.follow.invariant.stack)

pub follow-preserved-then-has : goal.follow-preserved-then-has
follow-preserved-then-has c =
    follow_in (shape c.args.graph.now) (has c.args.set) c.follow.stack c.follow.here c.in-Some.turn
    c.in-Some.ensures.turn c.in-Some.ensures.node
    c.taking-here.result c.taking-here.ensures.side c.follow.invariant
    (sym c.has.ensures ∙ c.if-has.true)

pub leaving-requires-clause-tight : goal.leaving-requires-clause-tight
leaving-requires-clause-tight c =
    tight_here (shape c.args.graph.now) c.in-Some.turn.position.decided.node
    c.follow.here.decided.node c.in-Some.ensures.node
    (top_tight (shape c.args.graph.now) c.follow.stack c.follow.here c.follow.invariant.stack)

pub returns-in_default-leaving : goal.returns-in_default-leaving
returns-in_default-leaving c =
    absurd (c.in_default-leaving.ensures.forced (has c.args.set)
    (subst (λ n. IsWithinNode (shape c.args.graph.now) n (has c.args.set))
    (sym c.in-Some.ensures.node) c.follow.invariant.within)
    (sym c.has.ensures ∙ c.if-has.false))

pub taking-other-requires-clause-tight : goal.taking-other-requires-clause-tight
taking-other-requires-clause-tight c =
    tight_here (shape c.args.graph.now) c.in-Some.turn.position.decided.node
    c.follow.here.decided.node c.in-Some.ensures.node
    (top_tight (shape c.args.graph.now) c.follow.stack c.follow.here c.follow.invariant.stack)

pub push-requires : goal.push-requires
push-requires c =
    is_room (shape c.args.graph.now) c.follow.stack c.follow.here c.in-Some.turn
    c.in-Some.ensures.turn c.in-Some.ensures.node
    c.taking-other.result c.taking-other.ensures.side c.follow.invariant.stack

pub follow-preserved : goal.follow-preserved
follow-preserved c =
    subst (λ k. IsFollowing (shape c.args.graph.now) (has c.args.set) k c.in-Some-leaving.left)
    (sym c.push.ensures)
    (follow_out (shape c.args.graph.now) (has c.args.set) c.follow.stack c.follow.here
    c.in-Some.turn c.in-Some.ensures.turn c.in-Some.ensures.node
    c.taking-other.result c.taking-other.ensures.side c.follow.invariant c.in-Some-leaving.left
    c.in-Some-leaving.ensures.side (sym c.has.ensures ∙ c.if-has.false))
