use Rattle.std.proofs.Common.{refl, false, rules, SFits}
use Rattle.std.specs.Int.{w128}
use Rattle.std.proofs.lemmas.Bool.{both_ways}
use Rattle.std.proofs.lemmas.Int.{to_z-of_z}
use Rattle.cert_check.proofs.charge.passes.Goals as goal

pub returns-then-not-is_cover : goal.returns-then-not-is_cover
returns-then-not-is_cover c = (
  (λ h. absurd (both_ways false refl h)),
  (λ p. absurd
      (both_ways c.is_cover.result c.if-not-is_cover.true (c.is_cover.ensures.1 p.formed))),
)

pub returns-then-not-is_not_negative : goal.returns-then-not-is_not_negative
returns-then-not-is_not_negative c =
    let fits : SFits w128 c.args.cover.now.weight = search rules in
    let test = simp to_z-of_z at c.is_not_negative.ensures in (
      (λ h. absurd (both_ways false refl h)),
      (λ p. absurd
          (both_ways c.is_not_negative.result c.if-not-is_not_negative.true
          (test.1 p.weight))),
    )

pub returns : goal.returns
returns c =
    let fits : SFits w128 c.args.cover.now.weight = search rules in
    let test = simp to_z-of_z at c.is_not_negative.ensures in (
      (λ h. record {
        formed = c.is_cover.ensures.0 c.if-not-is_cover.false;
        weight = test.0 c.if-not-is_not_negative.false;
        covers = c.covers_node.ensures.0 h;
      }),
      (λ p. c.covers_node.ensures.1 p.covers),
    )
