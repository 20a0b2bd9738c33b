use Rattle.std.proofs.Common.{ap, sym, ◌∙◌, ◌<◌, ◌-◌, ◌*◌, ◌/◌, ◌^◌, ◌++◌, arith}
use Rattle.pgraph.specs.pns_rules.Tokens.{digits}
use Rattle.structure_list.proofs.DigitLemmas.{no_digits, step_print}
use Rattle.structure_list.proofs.token.print_token.Goals as goal

pub loop-i-init : goal.loop-i-init
loop-i-init c = c.new-text.ensures.bytes ∙ sym (no_digits (c.bits-bits.result / 2 ^ 128))

pub loop-i-preserved : goal.loop-i-preserved
loop-i-preserved c =
    c.in_ok-push_str.ensures.bytes
    ∙ (ap (λ xs. xs ++ c.digit_text.result.now) c.loop-i.invariant
    ∙ (ap (λ xs. digits c.loop-i.i (c.bits-bits.result / 2 ^ (128 - 4 * c.loop-i.i)) ++ xs)
    c.digit_text.ensures
    ∙ sym
    (step_print c.bits-bits.result c.loop-i.i (let lt : c.loop-i.i < 32 = omega arith in lt))))
