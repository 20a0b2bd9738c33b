use Rattle.std.proofs.Common.{rules, SFits}
use Rattle.std.specs.Prelude.{unsigned_abs}
use Rattle.std.specs.Int.{w128}
use Rattle.std.proofs.lemmas.Int.{to_z-of_z}
use Rattle.std.proofs.lemmas.Nat.Gcd.{dvd_trans}
use Rattle.scaled_flows.proofs.divisors.with_both.Goals as goal

pub returns-clause-common : goal.returns-clause-common
returns-clause-common c =
    let common = c.ranges.common in
    let first = c.ranges.first in
    let second = c.ranges.second in
    let i : SFits w128 c.gcd-inner.result = search rules in
    let o : SFits w128 c.gcd.result = search rules in
    let a = simp to_z-of_z at c.gcd-inner.ensures.greatest in
    let b = simp to_z-of_z at c.gcd.ensures.greatest in
    simp to_z-of_z (dvd_trans (unsigned_abs c.gcd.result) b.0 a.0)

pub returns-clause-first : goal.returns-clause-first
returns-clause-first c =
    let common = c.ranges.common in
    let first = c.ranges.first in
    let second = c.ranges.second in
    let i : SFits w128 c.gcd-inner.result = search rules in
    let o : SFits w128 c.gcd.result = search rules in
    let a = simp to_z-of_z at c.gcd-inner.ensures.greatest in
    let b = simp to_z-of_z at c.gcd.ensures.greatest in
    simp to_z-of_z (dvd_trans (unsigned_abs c.gcd.result) b.0 a.1)

pub returns-clause-second : goal.returns-clause-second
returns-clause-second c =
    let common = c.ranges.common in
    let first = c.ranges.first in
    let second = c.ranges.second in
    let i : SFits w128 c.gcd-inner.result = search rules in
    let o : SFits w128 c.gcd.result = search rules in
    let b = simp to_z-of_z at c.gcd.ensures.greatest in
    simp to_z-of_z (b.1)
