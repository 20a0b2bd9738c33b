use Rattle.std.proofs.Common.{pos, SFits, rules, get_or, below_more, arith, sym, ◌∙◌}
use Rattle.std.proofs.lemmas.Int.{to_z-of_z}
use Rattle.std.specs.Int.{w128}
use Rattle.exact_numbers.proofs.combination.check_entries.Goals as goal

pub returns-in-Some-clause-before : goal.returns-in-Some-clause-before
returns-in-Some-clause-before c =
    let p = c.ranges.p in
    let q = c.ranges.q in
    simp to_z-of_z at c.loop-j.invariant

pub loop-j-preserved : goal.loop-j-preserved
loop-j-preserved c =
    let p = c.ranges.p in
    let q = c.ranges.q in
    let x : SFits w128 (get_or c.args.row.now c.loop-j.j (pos 0)) = search rules in
    let y : SFits w128 (get_or c.args.pivot.now c.loop-j.j (pos 0)) = search rules in
    let here = simp to_z-of_z at c.first_past.ensures in
    simp to_z-of_z
    (below_more _ _ (simp to_z-of_z at c.loop-j.invariant) (sym here ∙ c.in_default.is))

pub returns-clause-ok : goal.returns-clause-ok
returns-clause-ok c =
    let p = c.ranges.p in
    let q = c.ranges.q in
    let before = simp to_z-of_z at c.loop-j.invariant in
    λ k within. before k (omega arith)
