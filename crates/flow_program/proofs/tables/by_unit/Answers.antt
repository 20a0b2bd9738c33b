use Rattle.std.proofs.Common.{◌∙◌, sym, SFits, rules, get_or, pos, refl}
use Rattle.std.specs.Int.{w128}
use Rattle.std.proofs.lemmas.Int.{to_z-of_z}
use Rattle.flow_program.proofs.WalkLemmas.{next_of, head_had, IsNext, is_next, shorter}
use Rattle.flow_program.proofs.TableLemmas.{tabled_more}
use Rattle.flow_program.proofs.tables.by_unit.Goals as goal

pub loop-i-preserved : goal.loop-i-preserved
loop-i-preserved c = record {
  is_set =
      (next_of 128 c.loop-i.i-iterator c.in-Some.i c.next.new.self c.loop-i.invariant.is_set
      c.in-Some.ensures.steps).set;
  so_far = let next : IsNext 128 c.loop-i.i-iterator c.in-Some.i c.next.new.self
      = next_of 128 c.loop-i.i-iterator c.in-Some.i c.next.new.self c.loop-i.invariant.is_set
      c.in-Some.ensures.steps in
      let v : SFits w128 (get_or c.args.values.now c.loop-i.place (pos 0)) = search rules in
      simp to_z-of_z
      (tabled_more 128 c.args.set c.args.values.now c.loop-i.table c.loop-i.i-iterator
      c.loop-i.place c.in-Some.i c.next.new.self
      (get_or c.args.values.now c.loop-i.place (pos 0))
      c.into_iter-i-iterator.ensures.into_iter_gives.1 c.requires next refl
      c.loop-i.invariant.so_far);
}
