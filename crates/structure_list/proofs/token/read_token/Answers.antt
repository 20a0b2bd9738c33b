use Rattle.std.proofs.Common.{◌≡◌, ap, ap₂, sym, refl, ◌∙◌, ◌<◌, ◌++◌, ◌∷◌, [], arith, length}
use Rattle.std.proofs.Common.{subst, take}
use Rattle.std.proofs.lemmas.List.{take_more}
use Rattle.std.proofs.Math.Seq.{take-length}
use Rattle.pgraph.specs.number_sets.Sets.{mask_of}
use Rattle.pgraph.specs.pns_rules.Tokens.{digits, token_of, AreDigits}
use Rattle.structure_list.proofs.TokenLemmas.{token_has_form, digit_at}
use Rattle.structure_list.proofs.DigitLemmas.{no_digits, short, no_token, bits_read, digits_read}
use Rattle.structure_list.proofs.token.read_token.Goals as goal

pub returns-then-bytes-ne32-clause-other : goal.returns-then-bytes-ne32-clause-other
returns-then-bytes-ne32-clause-other c =
    λ s e. short c.as_bytes-bytes.result.now (mask_of s) c.if-bytes-ne32.true
    (c.as_bytes-bytes.ensures.value ∙ e)

pub loop-i-init : goal.loop-i-init
loop-i-init c = record { same = sym (no_digits 0); below = omega arith }

pub returns-in_default-clause-other : goal.returns-in_default-clause-other
returns-in_default-clause-other c = λ s e.
    no_token c.as_bytes-bytes.result.now (mask_of s) c.loop-i.i 0
    (let lt : c.loop-i.i < 32 = omega arith in lt) c.in_default.ensures.none
    (c.as_bytes-bytes.ensures.value ∙ e)

pub overflow_mul-value : goal.overflow_mul-value
overflow_mul-value c =
    let fits =
    bits_read c.loop-i.value 0 c.loop-i.i (omega arith) c.loop-i.invariant.below
    (let lt : c.loop-i.i < 32 = omega arith in lt) in
    let less = fits.1 in
    omega arith

pub overflow_add-value : goal.overflow_add-value
overflow_add-value c =
    let fits =
    bits_read c.loop-i.value c.in-Some.d c.loop-i.i c.in-Some.ensures.some.0
    c.loop-i.invariant.below (let lt : c.loop-i.i < 32 = omega arith in lt) in
    let less = fits.1 in
    omega arith

pub loop-i-preserved : goal.loop-i-preserved
loop-i-preserved c =
    let bs = c.as_bytes-bytes.result.now in
    let d = c.in-Some.ensures.some in
    let lt : c.loop-i.i < length c.as_bytes-bytes.result.now = omega arith in
    record {
      same = take_more bs c.loop-i.i 0 lt
          ∙ (ap₂ (λ xs x. xs ++ x ∷ []) c.loop-i.invariant.same d.1
          ∙ sym (digits_read c.loop-i.i c.loop-i.value c.in-Some.d d.0));
      below =
          (bits_read c.loop-i.value c.in-Some.d c.loop-i.i d.0 c.loop-i.invariant.below
          (let k : c.loop-i.i < 32 = omega arith in k)).0;
    }

pub returns-in_default-clause-form : goal.returns-in_default-clause-form
returns-in_default-clause-form c =
    let there : c.loop-i.i < length c.as_bytes-bytes.result.now = omega arith in (
      λ e. cc,
      λ h. absurd
          (c.in_default.ensures.none
          (digit_at c.as_bytes-bytes.result.now c.loop-i.i 0 there
          (subst AreDigits (sym c.as_bytes-bytes.ensures.value) h.digits))),
    )

pub returns-clause-form : goal.returns-clause-form
returns-clause-form c =
    let bs = c.as_bytes-bytes.result.now in
    let all : take c.loop-i.i bs ≡ bs =
    ap (λ k. take k bs) (let e : c.loop-i.i ≡ length bs = omega arith in e) ∙ take-length bs in
    let read : c.args.text.now ≡ digits 32 c.loop-i.value =
    sym c.as_bytes-bytes.ensures.value
    ∙ (sym all
    ∙ (c.loop-i.invariant.same
    ∙ ap (λ k. digits k c.loop-i.value) (let e : c.loop-i.i ≡ 32 = omega arith in e))) in
    let is : c.args.text.now ≡ token_of c.from_bits.result =
    read ∙ ap (digits 32) (sym c.from_bits.ensures) in
    (λ e. token_has_form c.args.text.now c.from_bits.result is, λ h. refl)
