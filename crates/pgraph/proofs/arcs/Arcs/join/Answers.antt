use Rattle.std.proofs.Common.{◌<◌, ◌≤◌, ◌==◌, ◌&&◌, ◌||◌, subst, sym, ap, ◌∙◌, length}
use Rattle.std.proofs.lemmas.List.{length-set}
use Rattle.pgraph.specs.Arcs.{Arcs, joins}
use Rattle.pgraph.proofs.ArcLemmas.{joined, joined_ends}
use Rattle.pgraph.proofs.arcs.Arcs.join.Goals as goal

pub invariant_of-self : goal.invariant_of-self
invariant_of-self c =
    let a : Arcs =
    record { materials = c.self.inside.materials.items; units = c.self.inside.units.items } in
    record {
      both_ends =
          joined_ends a c.args.u c.args.x c.index.result.now c.index-2.result.now
          c.with-units.result c.with-materials.result
          (subst (λ (b : Arcs). c.args.u < length b.materials) (sym c.self.view_is) c.requires.unit)
          (subst (λ (b : Arcs). c.args.x < length b.units) (sym c.self.view_is) c.requires.material)
          c.index.ensures c.index-2.ensures c.with-units.ensures c.with-materials.ensures
          c.self.invariant.both_ends;
      few_units =
          subst (λ n. n ≤ 128)
          (sym (length-set c.self.inside.materials.items c.args.u c.with-materials.result))
          c.self.invariant.few_units;
      few_materials =
          subst (λ n. n ≤ 256)
          (sym (length-set c.self.inside.units.items c.args.x c.with-units.result))
          c.self.invariant.few_materials;
    }

pub returns-clause-joined : goal.returns-clause-joined
returns-clause-joined c = λ v y.
    let a : Arcs =
    record { materials = c.self.inside.materials.items; units = c.self.inside.units.items } in
    joined a c.args.u c.args.x c.index.result.now c.index-2.result.now c.with-units.result
    c.with-materials.result
    (subst (λ (b : Arcs). c.args.u < length b.materials) (sym c.self.view_is) c.requires.unit)
    (subst (λ (b : Arcs). c.args.x < length b.units) (sym c.self.view_is) c.requires.material)
    c.index.ensures c.index-2.ensures c.with-units.ensures c.with-materials.ensures v y
    ∙ ap (λ (b : Arcs). ((c.args.u == v) && (c.args.x == y)) || joins b v y) c.self.view_is
