use Rattle.std.proofs.Common.{◌<◌, List, length, sym, ap, subst, arith, ℤ, SFits, rules}
use Rattle.std.proofs.Common.{w64, ◌∙◌}
use Rattle.std.proofs.lemmas.Int.{to_z-of_z}
use Rattle.tree_parts.specs.problem_rules.Problem.{Problem, OperatingUnit}
use Rattle.tree_parts.specs.tree_laws.Capped.{IsCapped}
use Rattle.tree_parts.proofs.tree_laws.Cited.{capped_length}
use Rattle.headed_search.proofs.CapLemmas.{with_upper, itself, size_there, capped_more}
use Rattle.headed_search.proofs.plant.capped.Goals as goal

pub capping-init : goal.capping-init
capping-init c =
    subst (λ (q : Problem). IsCapped c.args.problem.now q) (sym c.in_ok-parts.ensures.same)
    (itself c.args.problem.now)

pub index-requires : goal.index-requires
index-requires c =
    let lt = c.capping-test.true in
    let n =
    capped_length c.args.problem.now.units c.capping.parts.units c.capping.invariant.units in
    let e = ap (λ (us : List OperatingUnit). length us) c.units.ensures in
    let v = ap (λ (q : Problem). length q.units) c.parts-in-capping.view_is in
    omega (arith, lt, n, e, v)

pub set_upper-requires : goal.set_upper-requires
set_upper-requires c =
    let lt = c.capping-test.true in
    let n =
    capped_length c.args.problem.now.units c.capping.parts.units c.capping.invariant.units in
    let e = ap (λ (us : List OperatingUnit). length us) c.units.ensures in
    omega (arith, lt, n, e)

pub capping-preserved : goal.capping-preserved
capping-preserved c =
    let p = c.args.problem.now in
    let q = c.capping.parts in
    let u = c.capping.u in
    let size = c.size_within-size.result in
    let lt = c.capping-test.true in
    let n = capped_length p.units q.units c.capping.invariant.units in
    let e = ap (λ (us : List OperatingUnit). length us) c.units.ensures in
    let there : u < length q.units = omega (arith, lt, n, e) in
    let fits : SFits w64 size = search rules in
    let least = size_there q.units c.parts-in-capping.inside.units.items
    (sym (ap (λ (r : Problem). r.units) c.parts-in-capping.view_is)) u c.index.result.now there
    c.index.ensures size c.size_within-size.ensures in
    subst (λ (r : Problem). IsCapped p r)
    (sym (c.set_upper.ensures ∙ ap (λ (z : ℤ). with_upper q u z) (to_z-of_z w64 size fits)))
    (capped_more p q c.capping.invariant u size least)
