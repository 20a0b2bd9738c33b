use Rattle.std.proofs.Common.{◌≡◌, ◌<◌, ◌∙◌, true, sym, ap, subst, ℕ, List, Bool}
use Rattle.report_amounts.specs.number_sets.Sets.{has}
use Rattle.report_amounts.specs.pns_rules.Shape.{Shape, shape_of}
use Rattle.report_amounts.specs.pns_rules.Structure.{mats}
use Rattle.report_amounts.specs.pgraph.Tables.{shape}
use Rattle.graph_text.proofs.Moves.{is_material}
use Rattle.graph_text.proofs.materials.is_in.Goals as goal

pub materials-materials-requires : goal.materials-materials-requires
materials-materials-requires c u h =
    subst (λ (g : Shape). u < g.units) (sym c.graph.ensures.same)
    (c.requires.feasible.structure.s3 u
    (sym (ap (λ (s : List ℕ). has s u) c.units.ensures) ∙ h))

pub returns-clause-value : goal.returns-clause-value
returns-clause-value c =
    let p = c.args.picture.now.problem in
    c.has.ensures
    ∙ ap (λ (t : ℕ → Bool). t c.args.j)
    (c.materials-materials.ensures
    ∙ ap (λ (s : List ℕ). mats (shape c.graph.result.now) (has s)) c.units.ensures
    ∙ ap (λ (g : Shape). mats g (has c.args.network.now.units)) c.graph.ensures.same)

pub returns-clause-material : goal.returns-clause-material
returns-clause-material c e =
    let p = c.args.picture.now.problem in
    let w = c.args.network.now in
    is_material p (has w.units) c.args.j c.requires.material
    (sym (c.has.ensures
    ∙ ap (λ (t : ℕ → Bool). t c.args.j)
    (c.materials-materials.ensures
    ∙ ap (λ (s : List ℕ). mats (shape c.graph.result.now) (has s)) c.units.ensures
    ∙ ap (λ (g : Shape). mats g (has w.units)) c.graph.ensures.same))
    ∙ e)
