use Rattle.std.proofs.Common.{◌≤◌, ℕ, List, length, subst, sym, arith}
use Rattle.flow_program.proofs.number_sets.Cited.{length_below}
use Rattle.dual_simplex.proofs.names.row_count.Goals as goal

pub returns-clause-few : goal.returns-clause-few
returns-clause-few c =
    let set = c.is_program.ensures.rows_set in
    let few : length c.args.program.now.rows ≤ 256 =
    length_below 256 c.args.program.now.rows set.rising set.below in
    let same : length c.rows.result ≤ 256 =
    subst (λ (xs : List ℕ). length xs ≤ 256) (sym c.rows.ensures) few in
    omega (arith, same)
