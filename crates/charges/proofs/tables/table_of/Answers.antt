use Rattle.std.proofs.Common.{subst, sym, SFits, rules, get_or, pos, refl}
use Rattle.std.specs.Int.{w128}
use Rattle.std.proofs.lemmas.Int.{to_z-of_z}
use Rattle.structure_list.specs.number_sets.Sets.{IsSet}
use Rattle.flow_program.proofs.Cited.{next_of, IsNext}
use Rattle.charges.proofs.TableLemmas.{tabled_more, none_tabled, tabled_all}
use Rattle.charges.proofs.tables.table_of.Goals as goal

pub loop-j-preserved : goal.loop-j-preserved
loop-j-preserved c = record {
  is_set =
      (next_of 256 c.loop-j.j-iterator c.in-Some.j c.next.new.self c.loop-j.invariant.is_set
      c.in-Some.ensures.steps).set;
  so_far = let next : IsNext 256 c.loop-j.j-iterator c.in-Some.j c.next.new.self
      = next_of 256 c.loop-j.j-iterator c.in-Some.j c.next.new.self c.loop-j.invariant.is_set
      c.in-Some.ensures.steps in
      let v : SFits w128 (get_or c.args.values.now c.loop-j.place (pos 0)) = search rules in
      simp to_z-of_z
      (tabled_more 256 c.args.set c.args.values.now c.loop-j.table c.loop-j.j-iterator
      c.loop-j.place c.in-Some.j c.next.new.self (get_or c.args.values.now c.loop-j.place (pos 0))
      c.into_iter-j-iterator.ensures.into_iter_gives.1 c.requires next refl
      c.loop-j.invariant.so_far);
}

pub returns : goal.returns
returns c = λ i. λ j. tabled_all 256 c.args.set c.args.values.now c.loop-j.table c.loop-j.j-iterator
    c.loop-j.place c.in-None.ensures.steps.0 c.loop-j.invariant.so_far j i

pub loop-j-init : goal.loop-j-init
loop-j-init c = record {
  is_set = subst (IsSet 256) (sym c.into_iter-j-iterator.ensures.into_iter_gives.0)
      c.into_iter-j-iterator.ensures.into_iter_gives.1;
  so_far = rw c.into_iter-j-iterator.ensures.into_iter_gives.0
      (none_tabled c.args.set c.args.values.now);
}
