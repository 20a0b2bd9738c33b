use Rattle.std.proofs.Common.{sym, ◌∙◌, ◌<◌, ◌^◌, arith}
use Rattle.structure_list.proofs.GreatestLemmas.{greatest_is, none_if_zero}
use Rattle.structure_list.proofs.position.greatest.Goals as goal

pub returns-then-bits-eq0-clause-none : goal.returns-then-bits-eq0-clause-none
returns-then-bits-eq0-clause-none c =
    none_if_zero c.args.set (sym c.bits-bits.ensures ∙ c.if-bits-eq0.true)

pub returns-else-bits-eq0-clause-some : goal.returns-else-bits-eq0-clause-some
returns-else-bits-eq0-clause-some c =
    greatest_is c.args.set c.bits-bits.result c.rises.ensures c.bits-bits.ensures
    c.if-bits-eq0.false (let small : c.bits-bits.result < 2 ^ 128 = omega arith in small)
