use Rattle.std.proofs.Common.{[], ℕ, List, ◌∙◌, sym, subst, refl, false, Option, add-one, get_or}
use Rattle.std.proofs.Common.{drop-cons, bytes_eq}
use Rattle.std.proofs.lemmas.Bool.{both_ways, not-true, not-false}
use Rattle.std.specs.Cmp.Lexicographic.{bytes_decides}
use Rattle.cert_check.proofs.CertWalkLemmas.{Expects, expects_all, expected_between, ahead}
use Rattle.cert_check.proofs.CertWalkLemmas.{too_many}
use Rattle.cert_check.proofs.CertWalkLemmas.{another, the_same}
use Rattle.cert_check.proofs.options.are_options.Goals as goal

pub each-init : goal.each-init
each-init c =
    expects_all c.args.base c.args.free c.rises.ensures c.rises-2.ensures c.requires
    c.args.found.now c.first_option-expected.result c.first_option-expected.ensures.first
    c.first_option-expected.ensures.none

pub returns-in_default : goal.returns-in_default
returns-in_default c = (
  (λ h. absurd (both_ways false refl h)),
  (λ h. absurd
      (too_many c.args.base c.args.free c.rises.ensures c.rises-2.ensures c.requires
      c.args.found.now c.each.i (get_or c.args.found.now c.each.i [])
      (drop-cons c.args.found.now c.each.i [] c.each-test.true)
      (subst (λ (e : Option (List ℕ)). Expects c.args.base c.args.free c.args.found.now c.each.i e)
      c.in_default.is c.each.invariant) h)),
)

pub returns-then-ne : goal.returns-then-ne
returns-then-ne c = (
  (λ h. absurd (both_ways false refl h)),
  (λ h. absurd
      (another c.args.base c.args.free c.rises.ensures c.rises-2.ensures c.requires c.args.found.now
      c.each.i c.index-found-i.result
      (ahead c.args.found.now c.each.i c.index-found-i.result c.each-test.true c.index-found-i.is)
      c.in-Some.option
      (subst (λ (e : Option (List ℕ)). Expects c.args.base c.args.free c.args.found.now c.each.i e)
      c.in-Some.is c.each.invariant)
      (λ q. both_ways (bytes_eq c.index-found-i.result c.in-Some.option)
      (not-true (bytes_eq c.index-found-i.result c.in-Some.option)
      (sym c.ne.ensures ∙ c.if-ne.true))
      ((bytes_decides c.index-found-i.result c.in-Some.option).1 q)) h)),
)

pub next_option-expected-requires-clause-between : goal.next_option-expected-requires-clause-between
next_option-expected-requires-clause-between c =
    expected_between c.args.base c.args.free c.rises.ensures c.rises-2.ensures c.requires
    c.args.found.now c.each.i c.in-Some.option
    (subst (λ (e : Option (List ℕ)). Expects c.args.base c.args.free c.args.found.now c.each.i e)
    c.in-Some.is c.each.invariant)

pub each-preserved : goal.each-preserved
each-preserved c =
    subst
    (λ (k : ℕ). Expects c.args.base c.args.free c.args.found.now k
    c.next_option-expected.result) (sym (add-one c.each.i))
    (the_same c.args.base c.args.free c.rises.ensures c.rises-2.ensures c.requires c.args.found.now
    c.each.i c.index-found-i.result
    (ahead c.args.found.now c.each.i c.index-found-i.result c.each-test.true c.index-found-i.is)
    c.in-Some.option c.next_option-expected.result
    (subst (λ (e : Option (List ℕ)). Expects c.args.base c.args.free c.args.found.now c.each.i e)
    c.in-Some.is c.each.invariant)
    ((bytes_decides c.index-found-i.result c.in-Some.option).0
    (not-false (bytes_eq c.index-found-i.result c.in-Some.option)
    (sym c.ne.ensures ∙ c.if-ne.false)))
    c.next_option-expected.ensures.next c.next_option-expected.ensures.last)
