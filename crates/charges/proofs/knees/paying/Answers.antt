use Rattle.std.proofs.Common.{sym, subst, SFits, rules, get_or, pos}
use Rattle.std.specs.Prelude.{◌&&◌, int_lt}
use Rattle.std.specs.Int.{w64, w128}
use Rattle.std.proofs.lemmas.Int.{to_z-of_z}
use Rattle.structure_list.specs.number_sets.Sets.{IsSet}
use Rattle.flow_program.specs.Entry.{entry}
use Rattle.flow_program.proofs.Cited.{next_of}
use Rattle.charges.proofs.PayingLemmas.{found_begins, found_more, found_ends}
use Rattle.charges.proofs.knees.paying.Goals as goal

pub loop-j-init : goal.loop-j-init
loop-j-init c = record {
  is_set = subst (IsSet 256) (sym c.into_iter-j-iterator.ensures.into_iter_gives.0)
      c.into_iter-j-iterator.ensures.into_iter_gives.1;
  so_far = rw c.into_iter-j-iterator.ensures.into_iter_gives.0
      (found_begins
      (λ j. int_lt (pos 0) (entry c.args.rates.now j) && int_lt (pos 0) (entry c.args.ys.now j))
      c.args.set c.empty-found.result c.empty-found.ensures);
}

pub loop-j-preserved : goal.loop-j-preserved
loop-j-preserved c = record {
  is_set =
      (next_of 256 c.loop-j.j-iterator c.in-Some.j c.next.new.self c.loop-j.invariant.is_set
      c.in-Some.ensures.steps).set;
  so_far = let r : SFits w64 (get_or c.args.rates.now c.in-Some.j (pos 0)) = search rules in
      let y : SFits w128 (get_or c.args.ys.now c.in-Some.j (pos 0)) = search rules in
      found_more
      (λ j. int_lt (pos 0) (entry c.args.rates.now j) && int_lt (pos 0) (entry c.args.ys.now j))
      c.args.set c.loop-j.found c.loop-j.j-iterator c.in-Some.j c.next.new.self
      c.with_where-found.result c.pays-is_in.result
      (next_of 256 c.loop-j.j-iterator c.in-Some.j c.next.new.self c.loop-j.invariant.is_set
      c.in-Some.ensures.steps) (simp to_z-of_z at c.pays-is_in.ensures) c.with_where-found.ensures
      c.loop-j.invariant.so_far;
}

pub returns : goal.returns
returns c =
    found_ends
    (λ j. int_lt (pos 0) (entry c.args.rates.now j) && int_lt (pos 0) (entry c.args.ys.now j))
    c.args.set c.loop-j.found c.loop-j.j-iterator c.in-None.ensures.steps.0
    c.loop-j.invariant.so_far
