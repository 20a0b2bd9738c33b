use Rattle.std.proofs.Common.{SFits, rules}
use Rattle.std.specs.Int.{w128}
use Rattle.std.proofs.lemmas.Int.{to_z-of_z}
use Rattle.std.specs.Prelude.{unsigned_abs}
use Rattle.dual_simplex.proofs.DivisionLemmas.{divides_first, divides_rest, reduced_both}
use Rattle.dual_simplex.proofs.division.reduce.Goals as goal

pub divide-requires-clause-divides : goal.divide-requires-clause-divides
divide-requires-clause-divides c =
    let a = c.ranges.first in
    let f : SFits w128 c.common_divisor-common.result = search rules in
    let g = simp to_z-of_z at c.common_divisor-common.ensures.greatest in
    simp to_z-of_z
    (divides_rest c.args.first c.args.row.now (unsigned_abs c.common_divisor-common.result) g)

pub quotient-requires-clause-divides : goal.quotient-requires-clause-divides
quotient-requires-clause-divides c =
    let a = c.ranges.first in
    let f : SFits w128 c.common_divisor-common.result = search rules in
    let g = simp to_z-of_z at c.common_divisor-common.ensures.greatest in
    simp to_z-of_z
    (divides_first c.args.first c.args.row.now (unsigned_abs c.common_divisor-common.result) g)

pub returns-clause-reduced : goal.returns-clause-reduced
returns-clause-reduced c =
    let a = c.ranges.first in
    let f : SFits w128 c.common_divisor-common.result = search rules in
    let q : SFits w128 c.quotient.result = search rules in
    let g = simp to_z-of_z at c.common_divisor-common.ensures.greatest in
    simp to_z-of_z
    (reduced_both c.args.first c.args.row.now c.common_divisor-common.result c.quotient.result
    c.divide.new.row c.common_divisor-common.ensures.positive g
    (simp to_z-of_z at c.quotient.ensures.value) (simp to_z-of_z at c.divide.ensures.value))
