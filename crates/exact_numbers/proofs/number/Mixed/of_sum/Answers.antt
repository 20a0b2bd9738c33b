use Rattle.std.proofs.Common.{◌≡◌, rules, SFits, pos, ◌+ℤ◌, ◌*ℤ◌, ◌+◌, ◌*◌}
use Rattle.std.specs.Prelude.{unsigned_abs}
use Rattle.std.specs.Int.{w128}
use Rattle.std.proofs.lemmas.Int.{to_z-of_z}
use Rattle.exact_numbers.proofs.NumberLemmas.{sum_is}
use Rattle.exact_numbers.proofs.number.Mixed.of_sum.Goals as goal

pub returns-clause-numerator : goal.returns-clause-numerator
returns-clause-numerator c =
    let b = c.ranges.base in
    let f = c.ranges.factor in
    let n = c.ranges.num in
    let d = c.ranges.den in
    let q : SFits w128 c.divided-quotient.result.0 = search rules in
    let w : SFits w128 c.in_ok-whole.whole = search rules in
    let quotient : c.divided-quotient.result.0 *ℤ c.args.den +ℤ pos c.divided-quotient.result.1
    ≡ c.args.num = simp to_z-of_z at c.divided-quotient.ensures.quotient in
    let share : c.in_ok-share.share.whole * unsigned_abs c.args.den + c.in_ok-share.share.rest
    ≡ unsigned_abs c.args.factor * c.divided-quotient.result.1 =
    simp to_z-of_z at c.in_ok-share.ensures.multiple in
    let whole : c.in_ok-whole.whole
    ≡ (c.args.factor *ℤ c.divided-quotient.result.0 +ℤ pos c.in_ok-share.share.whole) +ℤ
    c.args.base = simp to_z-of_z at c.in_ok-whole.ensures in
    simp to_z-of_z
    (sum_is c.args.base c.args.factor c.args.num c.args.den c.divided-quotient.result.0
    c.in_ok-whole.whole c.divided-quotient.result.1 c.in_ok-share.share.whole
    c.in_ok-share.share.rest c.requires.positive c.requires.not_negative quotient share whole)
