use Rattle.std.proofs.Common.{◌≡◌, ◌∙◌, ℕ, cond, true, false, sym, ap}
use Rattle.pgraph.specs.Tables.{shape}
use Rattle.structure_list.proofs.balance.to_blame.Goals as goal

pub returns-then-has : goal.returns-then-has
returns-then-has c =
    let g = shape c.args.graph.now in
    let raw : g.raw c.args.x ≡ true = sym (ap (λ t. t c.args.x) c.raws.ensures)
    ∙ (sym c.has.ensures ∙ c.if-has.true) in
    c.producers.ensures
    ∙ ap (λ b. λ (u : ℕ). cond b (g.makes u c.args.x) (g.uses u c.args.x)) (sym raw)

pub returns-else-has : goal.returns-else-has
returns-else-has c =
    let g = shape c.args.graph.now in
    let other : g.raw c.args.x ≡ false =
    sym (ap (λ t. t c.args.x) c.raws.ensures) ∙ (sym c.has.ensures ∙ c.if-has.false) in
    c.consumers.ensures
    ∙ ap (λ b. λ (u : ℕ). cond b (g.makes u c.args.x) (g.uses u c.args.x)) (sym other)
