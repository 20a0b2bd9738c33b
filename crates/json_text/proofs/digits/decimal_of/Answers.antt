use Rattle.std.proofs.Common.{◌≡◌, ◌<◌, ◌+◌, ◌-◌, ◌*◌, ◌/◌, ◌^◌, ℕ, suc, sym, ap, ◌∙◌, arith}
use Rattle.report_rules.specs.Value.{places_from}
use Rattle.json_text.proofs.LongDivision.{digit_more, place_more, place_last, place_end}
use Rattle.json_text.proofs.digits.decimal_of.Goals as goal

pub returns-then-number-ge10000000000000000-clause-places :
    goal.returns-then-number-ge10000000000000000-clause-places
returns-then-number-ge10000000000000000-clause-places c =
    let i = c.loop-places.invariant in
    let p = c.loop-places.places in
    sym (place_last (55 - p) p c.args.num c.loop-places.number c.loop-places.rest c.args.den
    i.division c.if-number-ge10000000000000000.true) ∙ i.found

pub loop-places-preserved : goal.loop-places-preserved
loop-places-preserved c =
    let i = c.loop-places.invariant in
    let p = c.loop-places.places in
    let n = c.loop-places.number in
    let r = c.loop-places.rest in
    let short : n < 10 ^ 16 = c.if-number-ge10000000000000000.false in
    let less : p < 55 = c.loop-places-test.true in
    let one : suc (55 - (p + 1)) ≡ 55 - p = omega (arith, less) in
    record {
      division =
          digit_more c.args.num p n r c.tenfold-digit.result.times c.tenfold-digit.result.rest
          c.args.den i.division c.tenfold-digit.ensures.product;
      rest = c.tenfold-digit.ensures.rest;
      room = omega (arith, c.tenfold-digit.ensures.digit, short);
      found = sym (place_more (55 - (p + 1)) p c.args.num n r c.args.den i.division i.rest short)
          ∙ ap (λ (j : ℕ). places_from j p c.args.num c.args.den) one ∙ i.found;
    }

pub returns-clause-places : goal.returns-clause-places
returns-clause-places c =
    let p = c.loop-places.places in
    let all : p ≡ 55 = omega (arith, c.loop-places-test.false, c.loop-places.auto.places-end) in
    sym (place_end p c.args.num c.args.den all) ∙ c.loop-places.invariant.found

pub returns-clause-number : goal.returns-clause-number
returns-clause-number c =
    let p = c.loop-places.places in
    let d = c.args.den in
    let all : p ≡ 55 = omega (arith, c.loop-places-test.false, c.loop-places.auto.places-end) in
    c.nearest-last.ensures
    ∙ ap (λ (x : ℕ). (2 * x + d) / (2 * d))
    (sym c.loop-places.invariant.division ∙ ap (λ (q : ℕ). c.args.num * 10 ^ q) all)
