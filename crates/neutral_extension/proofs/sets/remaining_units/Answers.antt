use Rattle.std.proofs.Common.{not, ◌&&◌, nat_lt, sym, ap, ◌∙◌, ltb-true}
use Rattle.std.proofs.lemmas.Bool.{and_parts}
use Rattle.pgraph.specs.number_sets.Sets.{has}
use Rattle.pgraph.proofs.number_sets.Cited.{has-minus}
use Rattle.pgraph.specs.Tables.{shape}
use Rattle.neutral_extension.proofs.sets.remaining_units.Goals as goal

pub returns-clause-is : goal.returns-clause-is
returns-clause-is c = λ i. λ u.
    (ap (λ xs. has xs u) c.minus.ensures
    ∙ (has-minus c.below.result c.args.node.now.outside u
    ∙ ap (λ b. b && not (has c.args.node.now.outside u))
    (c.below.ensures u ∙ ap (nat_lt u) c.unit_count.ensures))) i

pub returns-clause-known : goal.returns-clause-known
returns-clause-known c = λ u h.
    let p =
    and_parts (has c.below.result u) (not (has c.args.node.now.outside u))
    (sym (has-minus c.below.result c.args.node.now.outside u)
    ∙ (sym (ap (λ xs. has xs u) c.minus.ensures) ∙ h)) in
    ltb-true u (shape c.args.graph.now).units
    (sym (c.below.ensures u ∙ ap (nat_lt u) c.unit_count.ensures) ∙ p.0)
