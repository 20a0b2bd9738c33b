use Rattle.std.proofs.Common.{ℕ, List, ap, sym, ◌∙◌}
use Rattle.std.proofs.lemmas.Bool.{both_ways}
use Rattle.number_sets.specs.Sets.{has}
use Rattle.unit_sets.proofs.HalfLemmas.{within_halves, halves_within, low_within}
use Rattle.unit_sets.proofs.mat_set.MatSet.within.Goals as goal

pub returns-then-within : goal.returns-then-within
returns-then-within c =
    let s = c.self.inside in
    let t = c.other.inside in (
      λ yes. λ u e. ap (λ (ys : List ℕ). has ys u) (sym c.other.view_is)
          ∙ within_halves s.low s.high t.low t.high s.low s.high c.self.invariant c.other.invariant
          c.self.invariant (c.within.ensures.0 c.if-within.true)
          (c.within-then-within.ensures.0 yes) u
          (ap (λ (xs : List ℕ). has xs u) c.self.view_is ∙ e),
      λ w. c.within-then-within.ensures.1
          (halves_within s.low s.high t.low t.high s.low s.high c.self.invariant c.other.invariant
          c.self.invariant (λ u e. ap (λ (ys : List ℕ). has ys u) c.other.view_is
          ∙ w u (ap (λ (xs : List ℕ). has xs u) (sym c.self.view_is) ∙ e))),
    )

pub returns-else-within : goal.returns-else-within
returns-else-within c =
    let s = c.self.inside in
    let t = c.other.inside in (
      λ yes. absurd (both_ways c.within.result c.if-within.false yes),
      λ w. c.within.ensures.1
          (low_within s.low s.high t.low t.high c.self.invariant.low.below
          (λ u e. ap (λ (ys : List ℕ). has ys u) c.other.view_is
          ∙ w u (ap (λ (xs : List ℕ). has xs u) (sym c.self.view_is) ∙ e))),
    )
