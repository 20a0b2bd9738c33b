use Rattle.std.proofs.Common.{◌≡◌, ◌+◌, ◌-◌, ℕ, List, ap, ◌∙◌, refl, arith}
use Rattle.number_sets.specs.Sets.{with_number}
use Rattle.unit_sets.specs.Halves.{halves}
use Rattle.unit_sets.proofs.HalfLemmas.{with_low, with_high}
use Rattle.unit_sets.proofs.mat_set.MatSet.with.Goals as goal

pub returns-then-x-lt128 : goal.returns-then-x-lt128
returns-then-x-lt128 c =
    let s = c.self.inside in
    let x = c.args.x in
    c.joined.ensures.value
    ∙ (with_low s.low s.high c.with.result s.high c.self.invariant c.joined.ensures.is x
    c.if-x-lt128.true c.with.ensures refl
    ∙ ap (λ (xs : List ℕ). with_number x xs) c.self.view_is)

pub returns-else-x-lt128 : goal.returns-else-x-lt128
returns-else-x-lt128 c =
    let s = c.self.inside in
    let x = c.args.x in
    let more = c.if-x-lt128.false in
    let e : x - 128 + 128 ≡ x = omega arith in
    let j = c.joined-else-x-lt128.ensures in
    j.value
    ∙ (with_high s.low s.high s.low c.with-else-x-lt128.result c.self.invariant j.is (x - 128) refl
    c.with-else-x-lt128.ensures
    ∙ (ap (λ v. with_number v (halves s.low s.high)) e
    ∙ ap (λ (xs : List ℕ). with_number x xs) c.self.view_is))
