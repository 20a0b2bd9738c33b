use Rattle.std.proofs.Common.{◌≡◌, ◌^◌, ap, ◌∙◌, length}
use Rattle.dual_simplex.proofs.RowSizeLemmas.{as_many_highs}
use Rattle.dual_simplex.proofs.entries.ceilings.Goals as goal

pub returns-clause-length : goal.returns-clause-length
returns-clause-length c =
    let q = c.args.program.now in
    ap length c.ceilings.ensures
    ∙ as_many_highs (10 ^ 21) q.floors q.ceilings c.is_program.ensures.ranges
    ∙ c.is_program.ensures.one_range
