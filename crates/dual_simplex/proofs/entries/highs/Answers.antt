use Rattle.std.proofs.Common.{◌≡◌, ◌^◌, ap, ◌∙◌, length}
use Rattle.dual_simplex.proofs.RowSizeLemmas.{as_many_highs}
use Rattle.dual_simplex.proofs.entries.highs.Goals as goal

pub returns-clause-length : goal.returns-clause-length
returns-clause-length c =
    let q = c.args.program.now in
    ap length c.highs.ensures ∙ as_many_highs (10 ^ 15) q.lows q.highs c.is_program.ensures.boxes
    ∙ c.is_program.ensures.one_box
