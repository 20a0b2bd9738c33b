use Rattle.std.proofs.Common.{subst}
use Rattle.dual_simplex.specs.number_sets.Sets.{has, IsSet, IsWithin}
use Rattle.dual_simplex.specs.pgraph.Tables.{shape}
use Rattle.dual_simplex.proofs.flow_program.Cited.{next_of}
use Rattle.flow_evaluator.proofs.HandLemmas.{more_gone, fewer_out}
use Rattle.flow_evaluator.proofs.at_hand.least_with.Goals as goal

pub with-more-requires : goal.with-more-requires
with-more-requires c = (subst (IsSet 128) c.in-Some.ensures.steps c.loop-u.invariant.is_set).below.0

pub loop-u-preserved-in-Some-greatest_with : goal.loop-u-preserved-in-Some-greatest_with
loop-u-preserved-in-Some-greatest_with c =
    let next =
    next_of 128 c.loop-u.u-iterator c.in-Some.u c.next.new.self c.loop-u.invariant.is_set
    c.in-Some.ensures.steps in
    let within : IsWithin (has c.args.left_out) (has c.with-more.result) =
    more_gone c.in-Some.u c.args.left_out c.loop-u.gone c.with-more.result c.with-more.ensures
    c.loop-u.invariant.gone in
    record {
      is_set = next.set;
      between =
          fewer_out (shape c.args.graph.now) (has c.args.in_use) c.args.left_out c.with-more.result
          c.in-Some-greatest_with.rest within c.in-Some-greatest_with.ensures;
      gone = within;
    }

pub loop-u-preserved : goal.loop-u-preserved
loop-u-preserved c =
    record {
      is_set =
          (next_of 128 c.loop-u.u-iterator c.in-Some.u c.next.new.self c.loop-u.invariant.is_set
          c.in-Some.ensures.steps).set;
      between = c.loop-u.invariant.between;
      gone = c.loop-u.invariant.gone;
    }
