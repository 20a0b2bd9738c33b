use Rattle.std.proofs.Common.{◌<◌, ◌≤◌, subst, length, List, ℤ}
use Rattle.std.proofs.lemmas.List.{drop_all}
use Rattle.report_amounts.proofs.SizeLemmas.{size_later, size_none}
use Rattle.report_rules.specs.tree_rules.Claim.{size_in}
use Rattle.report_amounts.proofs.sizes.size_at.Goals as goal

pub units-preserved : goal.units-preserved
units-preserved c =
    let w = c.args.network.now in
    size_later w.sizes c.units.left c.take_least.new.self c.units.size-index c.in-Some.unit c.args.u
    (size_in w c.args.u) c.in-Some.ensures.taken
    (subst (λ (zs : List ℤ). c.units.size-index < length zs) c.sizes-size-items.ensures
    c.units-test.true) c.units.invariant c.if-unit-u.false

pub returns-clause-value : goal.returns-clause-value
returns-clause-value c =
    let w = c.args.network.now in
    size_none w.sizes c.units.left c.units.size-index c.args.u (size_in w c.args.u)
    (drop_all c.units.size-index w.sizes
    (subst (λ (zs : List ℤ). length zs ≤ c.units.size-index) c.sizes-size-items.ensures
    c.units-test.false)) c.units.invariant
