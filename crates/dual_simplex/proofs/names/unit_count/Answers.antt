use Rattle.std.proofs.Common.{◌≤◌, ℕ, List, length, subst, sym, arith}
use Rattle.flow_program.proofs.number_sets.Cited.{length_below}
use Rattle.dual_simplex.proofs.names.unit_count.Goals as goal

pub returns-clause-few : goal.returns-clause-few
returns-clause-few c =
    let set = c.is_program.ensures.units_set in
    let few : length c.args.program.now.units ≤ 128 =
    length_below 128 c.args.program.now.units set.rising set.below in
    let same : length c.units.result ≤ 128 =
    subst (λ (xs : List ℕ). length xs ≤ 128) (sym c.units.ensures) few in
    omega (arith, same)
