use Rattle.std.proofs.Common.{◌≡◌, ◌++◌, ◌∷◌, [], ◌∙◌, ◌+◌, ◌*◌, ◌/◌, ◌^◌, ap, ℕ, List, pos}
use Rattle.std.proofs.Common.{string_bytes}
use Rattle.std.specs.Prelude.{unsigned_abs, int_lt, if◌then◌else◌}
use Rattle.report_rules.specs.Decimal.{rounded, scaled_text}
use Rattle.report_rules.specs.Value.{places_from, value_text}
use Rattle.json_text.proofs.value.value_text.Goals as goal

pub returns : goal.returns
unfolding value_text
returns c =
    let num = c.args.fraction.now.num in
    let den = c.args.fraction.now.den in
    let k = c.decimal_of-decimal.result.places in
    let n = c.decimal_of-decimal.result.number in
    let a : c.size_of.result ≡ unsigned_abs num = c.size_of.ensures.value in
    let b : c.divisor_of.result ≡ unsigned_abs den = c.divisor_of.ensures.value in
    let places : k ≡ places_from 55 0 (unsigned_abs num) (unsigned_abs den) =
    c.decimal_of-decimal.ensures.places ∙ (λ i. places_from 55 0 (a i) (b i)) in
    let number : n ≡ rounded k num (unsigned_abs den) =
    c.decimal_of-decimal.ensures.number ∙ (λ i. (2 * (a i * 10 ^ k) + b i) / (2 * b i)) in
    let sign : string_bytes c.push_sign.new.text ≡ (if int_lt num (pos 0) then 45 ∷ [] else []) =
    c.in_ok-push_sign.ensures
    ∙ (λ i. c.new-text.ensures.bytes i ++ (if c.is_negative.ensures i then 45 ∷ [] else [])) in
    c.in_ok-push_scaled.ensures
    ∙ (λ i. sign i ++ scaled_text (places i)
    ((number ∙ ap (λ (q : ℕ). rounded q num (unsigned_abs den)) places) i))
