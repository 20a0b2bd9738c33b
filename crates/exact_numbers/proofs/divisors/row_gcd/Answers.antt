use Rattle.std.proofs.Common.{◌≡◌, ◌+◌, pos, SFits, rules, get_or, to_z, sym, ap, ◌∙◌}
use Rattle.std.specs.Prelude.{unsigned_abs}
use Rattle.std.proofs.lemmas.Int.{to_z-of_z}
use Rattle.std.specs.Int.{w128}
use Rattle.std.proofs.lemmas.Nat.Gcd.{IsGcd-swap}
use Rattle.exact_numbers.proofs.Division.{IsRowGcd-more, IsRowGcd-one}
use Rattle.exact_numbers.proofs.divisors.row_gcd.Goals as goal

pub loop-entry-preserved : goal.loop-entry-preserved
loop-entry-preserved c =
    let f : SFits w128 c.gcd-common.result = search rules in
    let e : SFits w128 (get_or c.args.row.now c.loop-entry.entry-index (pos 0)) = search rules in
    let h = simp to_z-of_z at c.gcd-common.ensures.greatest in
    simp to_z-of_z (record {
      not_negative = c.gcd-common.ensures.not_negative;
      in_range = c.gcd-common.ensures.in_range;
      greatest =
          IsRowGcd-more c.args.row.now c.loop-entry.entry-index _ _ c.loop-entry-test.true
          c.loop-entry.invariant.greatest (IsGcd-swap _ _ _ h);
    })

pub returns-then-common-eq1-clause-greatest : goal.returns-then-common-eq1-clause-greatest
returns-then-common-eq1-clause-greatest c =
    let f : SFits w128 c.gcd-common.result = search rules in
    let e : SFits w128 (get_or c.args.row.now c.loop-entry.entry-index (pos 0)) = search rules in
    let h = simp to_z-of_z at c.gcd-common.ensures.greatest in
    let one : c.gcd-common.result ≡ pos 1 =
    sym (to_z-of_z w128 c.gcd-common.result f) ∙ ap (to_z w128) c.if-common-eq1.true in
    simp to_z-of_z
    (IsRowGcd-one c.args.row.now (c.loop-entry.entry-index + 1)
    (unsigned_abs c.gcd-common.result) (ap unsigned_abs one)
    (IsRowGcd-more c.args.row.now c.loop-entry.entry-index _ _ c.loop-entry-test.true
    c.loop-entry.invariant.greatest (IsGcd-swap _ _ _ h)))
