use Rattle.std.proofs.Common.{◌≡◌, ℕ, Bool, true, false, not, ◌&&◌, nat_lt, refl, sym, ap, ◌∙◌}
use Rattle.std.proofs.lemmas.Bool.{and_parts}
use Rattle.pgraph.specs.number_sets.Sets.{has}
use Rattle.pgraph.proofs.number_sets.Cited.{has-minus}
use Rattle.pgraph.specs.Tables.{shape}
use Rattle.neutral_extension.proofs.sets.free_units.Goals as goal

table : (a b c : Bool) → ((a && not b) && not c) ≡ (a && (not c && not b))
table true true true = refl
table true true false = refl
table true false true = refl
table true false false = refl
table false b c = refl

pub returns-clause-is : goal.returns-clause-is
returns-clause-is c = λ i. λ u.
    (ap (λ xs. has xs u) c.minus.ensures
    ∙ (has-minus c.remaining_units.result c.args.node.now.inside u
    ∙ (ap (λ (f : ℕ → Bool). f u && not (has c.args.node.now.inside u)) c.remaining_units.ensures.is
    ∙ table (nat_lt u (shape c.args.graph.now).units) (has c.args.node.now.outside u)
    (has c.args.node.now.inside u)))) i

pub returns-clause-known : goal.returns-clause-known
returns-clause-known c = λ u h.
    c.remaining_units.ensures.known u
    (and_parts (has c.remaining_units.result u) (not (has c.args.node.now.inside u))
    (sym (has-minus c.remaining_units.result c.args.node.now.inside u)
    ∙ (sym (ap (λ xs. has xs u) c.minus.ensures) ∙ h))).0
