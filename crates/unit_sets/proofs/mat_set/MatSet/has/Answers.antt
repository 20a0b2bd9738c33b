use Rattle.std.proofs.Common.{◌≡◌, ◌+◌, ◌-◌, ℕ, List, sym, ap, ◌∙◌, arith}
use Rattle.number_sets.specs.Sets.{has}
use Rattle.unit_sets.specs.Halves.{halves}
use Rattle.unit_sets.proofs.HalfLemmas.{low_of, high_of}
use Rattle.unit_sets.proofs.mat_set.MatSet.has.Goals as goal

pub returns-then-x-lt128 : goal.returns-then-x-lt128
returns-then-x-lt128 c =
    let s = c.self.inside in
    c.has.ensures
    ∙ (sym (low_of s.low s.high c.args.x c.if-x-lt128.true)
    ∙ ap (λ (xs : List ℕ). has xs c.args.x) c.self.view_is)

pub returns-else-x-lt128 : goal.returns-else-x-lt128
returns-else-x-lt128 c =
    let s = c.self.inside in
    let x = c.args.x in
    let more = c.if-x-lt128.false in
    let e : x - 128 + 128 ≡ x = omega arith in
    c.has-else-x-lt128.ensures
    ∙ (sym (high_of s.low s.high (x - 128) c.self.invariant.low.below)
    ∙ (ap (λ v. has (halves s.low s.high) v) e ∙ ap (λ (xs : List ℕ). has xs x) c.self.view_is))
