use Rattle.std.proofs.Common.{SFits, ◌<◌, ◌≤◌, length, rules, arith}
use Rattle.std.specs.Int.{w128}
use Rattle.std.proofs.lemmas.Int.{to_z-of_z}
use Rattle.dual_simplex.proofs.PutLemmas.{put_more, put_in_range}
use Rattle.dual_simplex.proofs.dual.put_multipliers.Goals as goal

pub loop-j-preserved : goal.loop-j-preserved
loop-j-preserved c =
    let f : SFits w128 c.multiplier.result = search rules in
    let h : c.loop-j.j < length c.loop-j.ys = omega arith in
    simp to_z-of_z
    (put_more c.args.rows.now c.args.c c.loop-j.ys c.loop-j.j c.multiplier.result h
    c.multiplier.ensures.value c.multiplier.ensures.in_range c.loop-j.invariant)

pub returns-clause-in_range : goal.returns-clause-in_range
returns-clause-in_range c =
    let h : length c.loop-j.ys ≤ c.loop-j.j = omega arith in
    put_in_range c.args.rows.now c.args.c c.loop-j.ys c.loop-j.j h c.loop-j.invariant
