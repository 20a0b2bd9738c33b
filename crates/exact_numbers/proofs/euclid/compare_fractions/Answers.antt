use Rattle.std.proofs.Common.{◌%◌, sym, ◌∙◌, arith, inl, inr}
use Rattle.exact_numbers.proofs.EuclidLemmas.{cmp_end, cmp_step, cmp_quotients}
use Rattle.exact_numbers.proofs.euclid.compare_fractions.Goals as goal
use Rattle.exact_numbers.proofs.euclid.compare_fractions.Goals.{then-rest-eq0-via-then-rest-eq0}
use Rattle.exact_numbers.proofs.euclid.compare_fractions.Goals.{then-rest-eq0-via-else-rest-eq0+then-other-eq0}

pub returns-then-left-right : goal.returns-then-left-right
returns-then-left-right c =
    c.cmp.ensures
    ∙ cmp_quotients c.steps.a c.steps.b c.steps.c c.steps.d c.steps.invariant.first
    c.steps.invariant.second c.if-left-right.true ∙ c.steps.invariant.same

pub returns-then-rest-eq0 : goal.returns-then-rest-eq0
returns-then-rest-eq0 c =
    c.cmp-then-rest-eq0.ensures
    ∙ sym
    (cmp_end c.steps.b c.steps.d (c.steps.a % c.steps.b) (c.steps.c % c.steps.d)
    c.steps.invariant.first c.steps.invariant.second
    (elim c.then-rest-eq0.branch [
      | then-rest-eq0-via-then-rest-eq0 w
          ↦ inl w.if-rest-eq0.true
      | then-rest-eq0-via-else-rest-eq0+then-other-eq0 w
          ↦ inr w.if-other-eq0.true
    ]))
    ∙ sym (cmp_step c.steps.a c.steps.b c.steps.c c.steps.d c.if-left-right.false)
    ∙ c.steps.invariant.same

pub steps-preserved : goal.steps-preserved
steps-preserved c = record {
  first = omega arith;
  second = omega arith;
  same = sym (cmp_step c.steps.a c.steps.b c.steps.c c.steps.d c.if-left-right.false)
      ∙ c.steps.invariant.same;
}
