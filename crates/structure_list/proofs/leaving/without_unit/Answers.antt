use Rattle.std.proofs.Common.{◌∙◌, ap, sym, refl}
use Rattle.pgraph.specs.number_sets.Sets.{has, union}
use Rattle.pgraph.proofs.number_sets.Cited.{first_had}
use Rattle.pgraph.specs.Tables.{shape}
use Rattle.structure_list.proofs.BalanceLemmas.{turn_smaller}
use Rattle.structure_list.proofs.LeavingLemmas.{starts_leaving, goes_on_leaving, no_rest}
use Rattle.structure_list.proofs.leaving.without_unit.Goals as goal

pub leave-init : goal.leave-init
leave-init c =
    starts_leaving (shape c.args.graph.now) c.is_proper.ensures.proper (has c.args.wanted)
    (has c.args.kept) c.args.kept c.without-left.result c.outputs-waiting.result c.args.u
    refl c.without-left.ensures c.outputs-waiting.ensures
    (c.requires.known c.args.u c.requires.there) c.requires.there c.requires.kept

pub starved-requires : goal.starved-requires
starved-requires c =
    (c.leave.invariant.known c.in-Some.x
    (first_had c.leave.waiting c.in-Some.x (sym c.least.ensures ∙ c.in-Some.is))).0

pub returns-in_default-starved-clause-none : goal.returns-in_default-starved-clause-none
returns-in_default-starved-clause-none c =
    no_rest (shape c.args.graph.now) (has c.args.wanted) (has c.args.kept) (has c.leave.left)
    (has c.leave.waiting) c.args.u c.in-Some.x
    c.leave.invariant c.in_default-starved.ensures.wanted c.in_default-starved.ensures.lost

pub leave-smaller : goal.leave-smaller
leave-smaller c =
    turn_smaller (shape c.args.graph.now) c.leave.left c.in-Some-starved.gone c.minus-next.result
    c.leave.waiting c.made.result c.union-more.result c.in-Some.x
    c.minus-next.ensures c.in-Some-starved.ensures.starved.within c.made.ensures
    (c.union-more.ensures ∙ ap (λ xs. union xs c.made.result) c.without.ensures)
    (first_had c.leave.waiting c.in-Some.x (sym c.least.ensures ∙ c.in-Some.is))
    c.rises.ensures c.rises-in-leave.ensures c.rises-in-leave-2.ensures c.rises-in-leave-3.ensures

pub leave-preserved : goal.leave-preserved
leave-preserved c =
    goes_on_leaving (shape c.args.graph.now) c.is_proper.ensures.proper (has c.args.wanted)
    (has c.args.kept) c.leave.left c.in-Some-starved.gone c.minus-next.result c.leave.waiting
    c.made.result c.union-more.result c.args.u c.in-Some.x
    c.minus-next.ensures c.made.ensures
    (c.union-more.ensures ∙ ap (λ xs. union xs c.made.result) c.without.ensures)
    (first_had c.leave.waiting c.in-Some.x (sym c.least.ensures ∙ c.in-Some.is))
    c.requires.kept.balanced c.in-Some-starved.ensures.starved c.leave.invariant
