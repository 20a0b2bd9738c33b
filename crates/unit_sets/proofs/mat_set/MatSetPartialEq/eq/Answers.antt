use Rattle.std.proofs.Common.{sym, ap₂, ◌∙◌, bytes_eq}
use Rattle.std.proofs.lemmas.Bool.{both_ways}
use Rattle.std.specs.Cmp.Lexicographic.{bytes_decides}
use Rattle.number_sets.proofs.Cited.{same_tests}
use Rattle.unit_sets.specs.Halves.{halves}
use Rattle.unit_sets.proofs.HalfLemmas.{same_low, same_high}
use Rattle.unit_sets.proofs.mat_set.MatSetPartialEq.eq.Goals as goal

pub returns-then-eq : goal.returns-then-eq
returns-then-eq c =
    let s = c.self.inside in
    let t = c.other.inside in
    let low = (bytes_decides s.low t.low).0 (sym c.eq.ensures ∙ c.if-eq.true) in
    same_tests c.eq-then-eq.result (bytes_eq c.args.self.now c.args.other.now)
    (λ e. (bytes_decides c.args.self.now c.args.other.now).1
    (sym c.self.view_is
    ∙ (ap₂ halves low ((bytes_decides s.high t.high).0 (sym c.eq-then-eq.ensures ∙ e))
    ∙ c.other.view_is)))
    (λ e. c.eq-then-eq.ensures
    ∙ (bytes_decides s.high t.high).1
    (same_high s.low s.high t.low t.high c.self.invariant.low.below c.other.invariant.low.below
    (c.self.view_is
    ∙ ((bytes_decides c.args.self.now c.args.other.now).0 e ∙ sym c.other.view_is))))

pub returns-else-eq : goal.returns-else-eq
returns-else-eq c =
    let s = c.self.inside in
    let t = c.other.inside in
    same_tests c.eq.result (bytes_eq c.args.self.now c.args.other.now)
    (λ e. absurd (both_ways c.eq.result c.if-eq.false e))
    (λ e. c.eq.ensures
    ∙ (bytes_decides s.low t.low).1
    (same_low s.low s.high t.low t.high c.self.invariant.low.below c.other.invariant.low.below
    (c.self.view_is
    ∙ ((bytes_decides c.args.self.now c.args.other.now).0 e ∙ sym c.other.view_is))))
