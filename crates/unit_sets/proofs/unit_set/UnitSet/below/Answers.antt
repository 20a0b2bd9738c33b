use Rattle.std.proofs.Common.{arith, ap, sym, ◌∙◌, nat_lt}
use Rattle.unit_sets.proofs.MaskLemmas.{has-members_ones, has-members_shifted}
use Rattle.unit_sets.proofs.unit_set.UnitSet.below.Goals as goal

pub returns-then-n-eq128 : goal.returns-then-n-eq128
returns-then-n-eq128 c u = has-members_ones 128 u (omega arith)
    ∙ ap (nat_lt u) (sym c.if-n-eq128.true)

pub returns-else-n-eq128 : goal.returns-else-n-eq128
returns-else-n-eq128 c u =
    has-members_shifted c.args.n u (let ne = c.if-n-eq128.false in let le =
    c.requires in omega arith)
