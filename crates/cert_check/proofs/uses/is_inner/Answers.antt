use Rattle.std.proofs.Common.{◌≡◌, ◌<◌, ◌≤◌, ◌∙◌, ℕ, true, false, sym, ap, arith}
use Rattle.tree_text_rules.specs.number_sets.Sets.{listed}
use Rattle.tree_text_rules.specs.pns_rules.Shape.{Shape, shape_of}
use Rattle.tree_text_rules.specs.pns_rules.Structure.{mats}
use Rattle.charges.specs.pgraph.View.{node_of}
use Rattle.tree_text_rules.specs.flow_rules.Relaxed.{stays}
use Rattle.cert_check.proofs.UseLemmas.{none_beyond, raw_is_not, row_is}
use Rattle.cert_check.proofs.uses.is_inner.Goals as goal

pub returns-then-material-material_count-clause-inner
    : goal.returns-then-material-material_count-clause-inner
returns-then-material-material_count-clause-inner c =
    let le = c.if-material-material_count.true in
    let count = c.material_count.ensures
    ∙ ap (λ (s : Shape). s.materials) c.graph-graph.ensures.same in
    none_beyond (shape_of c.args.site.now) (node_of c.args.known.now.node) c.args.material
    c.graph-graph.ensures.proper (omega (arith, le, count))

pub returns-then-has-clause-inner : goal.returns-then-has-clause-inner
returns-then-has-clause-inner c =
    let raw = c.has.ensures ∙ ap (λ (t : ℕ → _). t c.args.material) c.raws.ensures
    ∙ ap (λ (s : Shape). s.raw c.args.material) c.graph-graph.ensures.same in
    raw_is_not (shape_of c.args.site.now) (node_of c.args.known.now.node) c.args.material
    (sym raw ∙ c.if-has.true)

pub returns-clause-inner : goal.returns-clause-inner
returns-clause-inner c =
    let n = node_of c.args.known.now.node in
    let less = c.if-material-material_count.false in
    let count = c.material_count.ensures
    ∙ ap (λ (s : Shape). s.materials) c.graph-graph.ensures.same in
    let raw = c.has.ensures ∙ ap (λ (t : ℕ → _). t c.args.material) c.raws.ensures
    ∙ ap (λ (s : Shape). s.raw c.args.material) c.graph-graph.ensures.same in
    row_is (shape_of c.args.site.now) n c.args.material c.sets_of-rows.result.rows
    (c.sets_of-rows.ensures.rows_are
    ∙ ap (λ (s : Shape). listed s.materials (mats s (stays n))) c.graph-graph.ensures.same)
    (omega (arith, less, count)) (sym raw ∙ c.if-has.false) c.has-2.result c.has-2.ensures
