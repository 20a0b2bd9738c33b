use Rattle.std.proofs.Common.{ap, sym, ◌∙◌, ◌<◌, ◌-◌, ◌*◌, ◌/◌, ◌^◌, ◌++◌, ◌∷◌, [], List, ℕ, arith}
use Rattle.std.proofs.Common.{append_assoc, append-nil}
use Rattle.cert_check.specs.pns_rules.Tokens.{digits}
use Rattle.cert_check.proofs.structure_list.Cited.{no_digits, step_print}
use Rattle.structure_commands.proofs.list.push_token.Goals as goal

pub loop-i-init : goal.loop-i-init
loop-i-init c =
    sym (ap (λ (t : List ℕ). c.args.bytes.now.items ++ t) (no_digits (c.bits-bits.result / 2 ^ 128))
    ∙ append-nil c.args.bytes.now.items)

pub loop-i-preserved : goal.loop-i-preserved
loop-i-preserved c =
    c.in_ok-push.ensures.items
    ∙ (ap (λ xs. xs ++ c.digit_of.result ∷ []) c.loop-i.invariant
    ∙ (append_assoc c.args.bytes.now.items
    (digits c.loop-i.i (c.bits-bits.result / 2 ^ (128 - 4 * c.loop-i.i)))
    (c.digit_of.result ∷ [])
    ∙ ap (λ (t : List ℕ). c.args.bytes.now.items ++ t)
    (ap (λ x. digits c.loop-i.i (c.bits-bits.result / 2 ^ (128 - 4 * c.loop-i.i)) ++ x ∷ [])
    c.digit_of.ensures
    ∙ sym
    (step_print c.bits-bits.result c.loop-i.i (let lt : c.loop-i.i < 32 = omega arith in lt)))))
