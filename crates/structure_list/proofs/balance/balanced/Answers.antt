use Rattle.std.proofs.Common.{◌∙◌, ap, sym, arith}
use Rattle.pgraph.specs.number_sets.Sets.{has, union}
use Rattle.pgraph.proofs.number_sets.Cited.{first_had, has-minus}
use Rattle.pgraph.specs.Tables.{shape}
use Rattle.structure_list.proofs.BalanceLemmas.{broken_known, next_within, next_keeps, more_covers}
use Rattle.structure_list.proofs.BalanceLemmas.{more_known, turn_smaller}
use Rattle.structure_list.proofs.balance.balanced.Goals as goal

pub leave-init : goal.leave-init
leave-init c = record {
  within = λ u e. e;
  keeps = λ m o h w. w;
  covers = λ y b. (c.breaking_s2-waiting.ensures y).1 b;
  known =
      λ y e. broken_known (shape c.args.graph.now) c.is_proper.ensures.proper (has c.args.set) y
      ((c.breaking_s2-waiting.ensures y).0 e);
}

pub to_leave_out-gone-requires : goal.to_leave_out-gone-requires
to_leave_out-gone-requires c =
    c.leave.invariant.known c.in-Some.x
    (first_had c.leave.waiting c.in-Some.x (sym c.least.ensures ∙ c.in-Some.is))

pub without-requires : goal.without-requires
without-requires c =
    let known =
    c.leave.invariant.known c.in-Some.x
    (first_had c.leave.waiting c.in-Some.x (sym c.least.ensures ∙ c.in-Some.is)) in
    let few = c.is_proper.ensures.few_materials in
    omega arith

pub leave-smaller : goal.leave-smaller
leave-smaller c =
    turn_smaller (shape c.args.graph.now) c.leave.left c.to_leave_out-gone.result
    c.minus-next.result c.leave.waiting c.made.result c.union-more.result c.in-Some.x
    c.minus-next.ensures c.to_leave_out-gone.ensures.within c.made.ensures
    (c.union-more.ensures ∙ ap (λ xs. union xs c.made.result) c.without.ensures)
    (first_had c.leave.waiting c.in-Some.x (sym c.least.ensures ∙ c.in-Some.is))
    c.rises.ensures c.rises-in-leave.ensures c.rises-in-leave-2.ensures c.rises-in-leave-3.ensures

pub leave-preserved : goal.leave-preserved
leave-preserved c =
    let g = shape c.args.graph.now in
    let left = c.leave.left in
    let gone = c.to_leave_out-gone.result in
    let next = c.minus-next.result in
    let more_is = c.union-more.ensures ∙ ap (λ xs. union xs c.made.result) c.without.ensures in
    record {
      within =
          λ u e. c.leave.invariant.within u
          (next_within g left gone next c.leave.waiting c.made.result c.union-more.result
          c.in-Some.x c.minus-next.ensures c.to_leave_out-gone.ensures.within c.made.ensures more_is
          u e);
      keeps = λ m o h w.
          let kept_so_far = c.leave.invariant.keeps m o h w in
          next_keeps g left gone next c.leave.waiting c.made.result c.union-more.result c.in-Some.x
          c.minus-next.ensures c.to_leave_out-gone.ensures.within c.made.ensures more_is o
          kept_so_far (c.to_leave_out-gone.ensures.keeps m o h kept_so_far);
      covers =
          more_covers g left gone next c.leave.waiting c.made.result c.union-more.result c.in-Some.x
          c.minus-next.ensures c.to_leave_out-gone.ensures.within c.made.ensures more_is
          c.leave.invariant.covers
          (c.to_leave_out-gone.ensures.settles (has next)
          (λ u. ap (λ xs. has xs u) c.minus-next.ensures ∙ has-minus left gone u));
      known =
          more_known g left gone next c.leave.waiting c.made.result c.union-more.result c.in-Some.x
          c.minus-next.ensures c.to_leave_out-gone.ensures.within c.made.ensures more_is
          c.is_proper.ensures.proper c.leave.invariant.known;
    }
