use Rattle.std.proofs.Common.{◌≡◌, sym, subst, rules, ℤ, SFits, to_z, of_z}
use Rattle.std.specs.Int.{w64}
use Rattle.std.proofs.lemmas.Int.{to_z-of_z}
use Rattle.stability_laws.specs.report_rules.declared.side.Side.TheVariants.{Below, Above}
use Rattle.stability_laws.specs.report_rules.Range.{IsRange}
use Rattle.stability.specs.Side.{there}
use Rattle.stability.proofs.RangeLemmas.{range_from}
use Rattle.stability.proofs.case.Case.both_sides.Goals as goal

pub returns-clause-range : goal.returns-clause-range
returns-clause-range g c =
    let k = c.args.self.now in
    let below = c.in_ok-below.below in
    let above = c.in_ok-above.above in
    let f1 : SFits w64 c.value.result = search rules in
    let f2 : SFits w64 c.value-2.result = search rules in
    let low : to_z w64 (of_z w64 c.value.result) ≡ there k Below below.away =
    simp to_z-of_z c.value.ensures in
    let high : to_z w64 (of_z w64 c.value-2.result) ≡ there k Above above.away =
    simp to_z-of_z c.value-2.ensures in
    subst
    (λ (v : ℤ). IsRange k.problem k.spot k.network v (to_z w64 (of_z w64 c.value-2.result))
    below.beyond above.beyond) (sym low)
    (subst
    (λ (v : ℤ). IsRange k.problem k.spot k.network (there k Below below.away) v below.beyond
    above.beyond) (sym high)
    (range_from c.best_between.ensures.between k c.is_known.ensures.known below above
    c.in_ok-below.ensures.end c.in_ok-above.ensures.end))
