use Rattle.std.proofs.Common.{sym, ◌∙◌, suc, drop}
use Rattle.studio_words.proofs.Numerals.{number-next, spelled-above}
use Rattle.studio_words.proofs.number.digits_within.Goals as goal

pub returns-then-number-most : goal.returns-then-number-most
returns-then-number-most c =
    let bs = c.args.bytes.now in
    let digit = sym c.is_ascii_digit.ensures.value ∙ c.if-not-is_ascii_digit.false in
    sym (spelled-above bs (drop (suc c.reading.c-index) bs) _ c.args.most
    (number-next bs c.reading.c-index c.reading-test.true c.reading.number digit
    c.reading.invariant.number) c.if-number-most.true)
