use Rattle.std.proofs.Common.{◌≡◌, ◌∙◌, ◌<◌, ◌==◌, ◌&&◌, ◌||◌, sym, ap, subst, length, pos, get_or}
use Rattle.std.proofs.lemmas.List.{get_or_default}
use Rattle.flow_rules.specs.problem_rules.Problem.{Term}
use Rattle.pgraph.specs.Arcs.{joins}
use Rattle.pgraph.proofs.ArcLemmas.{joined_more, terms_have-get}
use Rattle.pgraph.proofs.arcs.Arcs.join_all.Goals as goal

pub join-requires-clause-material : goal.join-requires-clause-material
join-requires-clause-material c =
    let none : Term = record { material = 0; rate = pos 0 } in
    let at : c.term.inside.material
    ≡ (get_or c.args.terms.now c.loop-term.term-index none).material =
    ap (λ (t : Term). t.material)
    (c.term.view_is
    ∙ (c.term-item.is
    ∙ get_or_default c.args.terms.now c.loop-term.term-index c.term-item.result none
    c.loop-term-test.true)) in
    subst (λ n. c.term.inside.material < n) (sym c.loop-term.invariant.materials)
    (subst (λ y. y < length c.args.self.now.units) (sym at)
    (c.requires.known (get_or c.args.terms.now c.loop-term.term-index none).material
    (terms_have-get c.args.terms.now c.loop-term.term-index none c.loop-term-test.true)))

pub loop-term-preserved : goal.loop-term-preserved
loop-term-preserved c =
    let none : Term = record { material = 0; rate = pos 0 } in
    let at : c.term.inside.material
    ≡ (get_or c.args.terms.now c.loop-term.term-index none).material =
    ap (λ (t : Term). t.material)
    (c.term.view_is
    ∙ (c.term-item.is
    ∙ get_or_default c.args.terms.now c.loop-term.term-index c.term-item.result none
    c.loop-term-test.true)) in
    record {
      joined =
          joined_more (joins c.args.self.now) (joins c.loop-term.self) (joins c.join.new.self)
          c.args.u c.args.terms.now c.loop-term.term-index none c.loop-term-test.true
          c.loop-term.invariant.joined
          (λ v y. c.join.ensures.joined v y
          ∙ ap (λ x. ((c.args.u == v) && (x == y)) || joins c.loop-term.self v y) at);
      units = c.join.ensures.units ∙ c.loop-term.invariant.units;
      materials = c.join.ensures.materials ∙ c.loop-term.invariant.materials;
    }
