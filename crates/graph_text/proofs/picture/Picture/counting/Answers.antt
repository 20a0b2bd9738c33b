use Rattle.std.proofs.Common.{◌≡◌, ◌∙◌, sym, ap, true, ℕ, Bool, List}
use Rattle.report_amounts.specs.pns_rules.Shape.{Shape, shape_of}
use Rattle.report_amounts.specs.number_sets.Sets.{has}
use Rattle.report_amounts.specs.report_rules.Drawn.{is_taken}
use Rattle.graph_text.proofs.Tests.{test_true, test_false}
use Rattle.graph_text.proofs.picture.Picture.counting.Goals as goal

pub returns-then-has-clause-value : goal.returns-then-has-clause-value
returns-then-has-clause-value c =
    let d = c.args.self.now in
    let j = c.args.j in
    let raw : has c.raws.result j ≡ (shape_of d.problem).raw j =
    ap (λ (t : ℕ → Bool). t j)
    (c.raws.ensures ∙ ap (λ (g : Shape). g.raw) c.graph.ensures.same) in
    ap (λ (us : List ℕ). has us) c.units.ensures.same
    ∙ test_true ((shape_of d.problem).raw j) (has d.units) (is_taken d.network)
    (sym (c.has.ensures ∙ raw) ∙ c.if-has.true)

pub returns-else-has-clause-value : goal.returns-else-has-clause-value
returns-else-has-clause-value c =
    let d = c.args.self.now in
    let j = c.args.j in
    let raw : has c.raws.result j ≡ (shape_of d.problem).raw j =
    ap (λ (t : ℕ → Bool). t j)
    (c.raws.ensures ∙ ap (λ (g : Shape). g.raw) c.graph.ensures.same) in
    c.taken.ensures.value
    ∙ test_false ((shape_of d.problem).raw j) (has d.units) (is_taken d.network)
    (sym (c.has.ensures ∙ raw) ∙ c.if-has.false)
