use Rattle.std.proofs.Common.{◌∙◌, sym, SFits, rules}
use Rattle.std.specs.Int.{w128}
use Rattle.std.proofs.lemmas.Int.{to_z-of_z}
use Rattle.flow_program.proofs.WalkLemmas.{next_of, head_had, is_next, shorter}
use Rattle.pgraph.specs.View.{node_of}
use Rattle.flow_program.proofs.ProgramLemmas.{bands_more}
use Rattle.flow_program.proofs.program.bands_of.Goals as goal

pub loop-j-preserved : goal.loop-j-preserved
loop-j-preserved c = record {
  is_set =
      (next_of 256 c.loop-j.j-iterator c.in-Some.j c.next.new.self c.loop-j.invariant.is_set
      c.in-Some.ensures.steps).set;
  so_far = let lo : SFits w128 c.row_range-range.result.low = search rules in
      let hi : SFits w128 c.row_range-range.result.high = search rules in
      bands_more c.args.problem.now (node_of c.args.node.now) c.args.rows c.loop-j.floors.items
      c.loop-j.ceilings.items c.push.new.self.items c.push-in-loop-j.new.self.items
      c.loop-j.j-iterator c.in-Some.j c.next.new.self
      (next_of 256 c.loop-j.j-iterator c.in-Some.j c.next.new.self c.loop-j.invariant.is_set
      c.in-Some.ensures.steps)
      c.row_range-range.result.low c.row_range-range.result.high c.row_range-range.ensures.low
      c.row_range-range.ensures.high (simp to_z-of_z at c.in_ok-push.ensures.items)
      (simp to_z-of_z at c.in_ok-push-2.ensures.items) c.loop-j.invariant.so_far;
}
