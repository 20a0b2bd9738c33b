use Rattle.std.proofs.Common.{◌∙◌, ◌&&◌, ◌||◌, ◌==◌, ap, sym}
use Rattle.flow_rules.specs.number_sets.Sets.{has}
use Rattle.flow_rules.proofs.number_sets.Cited.{has-with_number}
use Rattle.pgraph.proofs.tables.with_if.Goals as goal

pub returns-then-belongs : goal.returns-then-belongs
returns-then-belongs c = λ y.
    ap (λ xs. has xs y) c.with.ensures
    ∙ (has-with_number c.args.x c.args.set y
    ∙ ap (λ b. (b && (c.args.x == y)) || has c.args.set y) (sym c.if-belongs.true))
