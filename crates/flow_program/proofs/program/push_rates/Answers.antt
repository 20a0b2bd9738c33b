use Rattle.std.proofs.Common.{◌∙◌, ◌++◌, sym, ap, SFits, rules, ℤ, List}
use Rattle.std.specs.Int.{w128}
use Rattle.std.proofs.lemmas.Int.{to_z-of_z}
use Rattle.flow_program.proofs.WalkLemmas.{next_of, head_had, IsNext, is_next, shorter}
use Rattle.std.specs.Prelude.{map}
use Rattle.flow_program.specs.Entry.{rate_beside}
use Rattle.flow_program.proofs.ProgramLemmas.{pushed_onto}
use Rattle.flow_program.proofs.program.push_rates.Goals as goal

pub loop-j-preserved : goal.loop-j-preserved
loop-j-preserved c = record {
  is_set =
      (next_of 256 c.loop-j.j-iterator c.in-Some.j c.next.new.self c.loop-j.invariant.is_set
      c.in-Some.ensures.steps).set;
  so_far = let next : IsNext 256 c.loop-j.j-iterator c.in-Some.j c.next.new.self =
      (next_of 256 c.loop-j.j-iterator c.in-Some.j c.next.new.self c.loop-j.invariant.is_set
      c.in-Some.ensures.steps) in
      let r : SFits w128 c.rate_in_row.result = search rules in
      ap (λ (xs : List ℤ). xs ++ map (rate_beside c.args.materials c.args.rates.now)
      c.next.new.self) (simp to_z-of_z at c.in_ok-push.ensures.items)
      ∙ pushed_onto (rate_beside c.args.materials c.args.rates.now) c.loop-j.list.items
      c.loop-j.j-iterator c.in-Some.j c.next.new.self c.rate_in_row.result next.is
      c.rate_in_row.ensures ∙ c.loop-j.invariant.so_far;
}
