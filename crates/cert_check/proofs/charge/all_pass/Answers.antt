use Rattle.std.proofs.Common.{ℕ, refl, true, false, sym, subst, add-one}
use Rattle.std.proofs.lemmas.Bool.{both_ways}
use Rattle.charges.specs.pgraph.Tables.{shape}
use Rattle.charges.specs.pgraph.View.{node_of}
use Rattle.charges.specs.pgraph.CoversView.{covers_of}
use Rattle.cert_check.proofs.CoverLemmas.{ArePassed, kept_at, none_passed, passes_on, stops_here}
use Rattle.cert_check.proofs.CoverLemmas.{all_passed}
use Rattle.cert_check.proofs.charge.all_pass.Goals as goal

pub covers-init : goal.covers-init
covers-init c = none_passed (shape c.args.graph.now) (node_of c.args.node.now) c.args.covers.now

pub passes-requires : goal.passes-requires
passes-requires c =
    kept_at c.args.covers.now c.covers.i c.index-covers-i.result c.requires.each c.covers-test.true
    c.index-covers-i.is

pub returns-then-not-passes : goal.returns-then-not-passes
returns-then-not-passes c = (
  (λ h. absurd (both_ways false refl h)),
  (λ h. absurd
      (stops_here (shape c.args.graph.now) (node_of c.args.node.now) c.args.covers.now c.covers.i
      c.index-covers-i.result c.covers.invariant c.covers-test.true c.index-covers-i.is
      (λ p. both_ways c.passes.result c.if-not-passes.true (c.passes.ensures.1 p)) h)),
)

pub covers-preserved : goal.covers-preserved
covers-preserved c =
    subst
    (λ (k : ℕ). ArePassed (shape c.args.graph.now) (node_of c.args.node.now)
    (covers_of c.args.covers.now) k) (sym (add-one c.covers.i))
    (passes_on (shape c.args.graph.now) (node_of c.args.node.now) c.args.covers.now c.covers.i
    c.index-covers-i.result c.covers.invariant c.covers-test.true c.index-covers-i.is
    (c.passes.ensures.0 c.if-not-passes.false))

pub returns : goal.returns
returns c = (
  (λ h. all_passed (shape c.args.graph.now) (node_of c.args.node.now) c.args.covers.now c.covers.i
      c.covers-test.false c.covers.invariant),
  (λ h. refl),
)
