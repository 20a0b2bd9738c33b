use Rattle.std.proofs.Common.{◌∙◌, ◌<◌, sym, ap, subst}
use Rattle.std.proofs.lemmas.List.{get_or_default}
use Rattle.flow_rules.specs.problem_rules.Problem.{terms_have, no_unit}
use Rattle.pgraph.specs.Arcs.{joins}
use Rattle.pgraph.specs.Building.{terms_on}
use Rattle.pgraph.proofs.ArcLemmas.{unit_more}
use Rattle.pgraph.proofs.arcs.Arcs.of.Goals as goal

pub join_all-requires-clause-known : goal.join_all-requires-clause-known
join_all-requires-clause-known c = λ x e.
    let here = c.terms_of.ensures
    ∙ ap (terms_on c.args.side)
    (c.index-units-u.is
    ∙ get_or_default c.args.units.now c.loop-u.u c.index-units-u.result no_unit
    c.loop-u-test.true) in
    subst (λ n. x < n) (sym c.loop-u.invariant.materials)
    (c.requires.known c.loop-u.u x (ap (λ ts. terms_have ts x) (sym here) ∙ e))

pub loop-u-preserved : goal.loop-u-preserved
loop-u-preserved c = record {
  joined =
      unit_more c.args.side c.args.units.now c.loop-u.u c.index-units-u.result c.terms_of.result.now
      (joins c.loop-u.arcs) (joins c.join_all.new.self) c.loop-u-test.true
      (c.terms_of.ensures ∙ ap (terms_on c.args.side) c.index-units-u.is) c.loop-u.invariant.joined
      c.join_all.ensures.joined;
  units = c.join_all.ensures.units ∙ c.loop-u.invariant.units;
  materials = c.join_all.ensures.materials ∙ c.loop-u.invariant.materials;
}
