use Rattle.std.proofs.Common.{ap, sym, SFits, rules}
use Rattle.std.specs.Prelude.{Some}
use Rattle.std.specs.Int.{w128}
use Rattle.std.proofs.lemmas.Int.{to_z-of_z}
use Rattle.report_rules.specs.Number.{Fraction}
use Rattle.report_amounts.proofs.Fractions.{lowest_is}
use Rattle.report_amounts.proofs.number.Number.of.Goals as goal

pub returns : goal.returns
returns c =
    let f : SFits w128 c.args.num = search rules in
    let g : SFits w128 c.args.den = search rules in
    let told = simp to_z-of_z at c.of.ensures.value in
    ap (λ (f : Fraction). Some f)
    (sym
    (lowest_is c.args.num c.args.den c.of.result.num c.of.result.den c.requires.positive told))
