use Rattle.std.proofs.Common.{pos, ℤ, SFits, rules, get_or, subst, List}
use Rattle.std.proofs.lemmas.Int.{to_z-of_z}
use Rattle.std.proofs.lemmas.Result.{err_from_is_err_and}
use Rattle.std.specs.Int.{w128}
use Rattle.integer_laws.specs.Reduced.{IsReduced}
use Rattle.exact_numbers.proofs.RangeLemmas.{fits_from_range}
use Rattle.exact_numbers.proofs.combination.combine.Goals as goal

pub returns-in_err-check_entries-clause-past : goal.returns-in_err-check_entries-clause-past
returns-in_err-check_entries-clause-past c =
    let e = err_from_is_err_and c.from_residual.result c.from_residual.ensures.1 in
    let x : SFits w128 (get_or c.args.pivot.now c.args.c (pos 0)) = search rules in
    let y : SFits w128 (get_or c.args.row.now c.args.c (pos 0)) = search rules in
    let q : SFits w128 c.lowest_terms-q.result.0 =
    fits_from_range _ c.lowest_terms-q.ensures.first_in_range in
    let p : SFits w128 c.lowest_terms-q.result.1 =
    fits_from_range _ c.lowest_terms-q.ensures.second_in_range in
    let lowest = simp to_z-of_z at c.lowest_terms-q.ensures.lowest in
    let past = simp to_z-of_z at c.in_err-check_entries.ensures.past in
    let before = simp to_z-of_z at c.in_err-check_entries.ensures.before in
    rw (e.1, e.2) (record {
      p = c.lowest_terms-q.result.1;
      q = c.lowest_terms-q.result.0;
      lowest = lowest;
      within = c.in_err-check_entries.ensures.within;
      past = past;
      before = before;
    })

pub returns-clause-done : goal.returns-clause-done
returns-clause-done c =
    let x : SFits w128 (get_or c.args.pivot.now c.args.c (pos 0)) = search rules in
    let y : SFits w128 (get_or c.args.row.now c.args.c (pos 0)) = search rules in
    let q : SFits w128 c.lowest_terms-q.result.0 =
    fits_from_range _ c.lowest_terms-q.ensures.first_in_range in
    let p : SFits w128 c.lowest_terms-q.result.1 =
    fits_from_range _ c.lowest_terms-q.ensures.second_in_range in
    let lowest = simp to_z-of_z at c.lowest_terms-q.ensures.lowest in
    let none = simp to_z-of_z at c.in_ok-check_entries.ensures.ok in
    let value = simp to_z-of_z at c.write_entries.ensures.value in
    record {
      p = c.lowest_terms-q.result.1;
      q = c.lowest_terms-q.result.0;
      lowest = lowest;
      in_range = none;
      reduced = let R : List ℤ → Type 0 =
          λ xs. IsReduced xs c.primitive.new.row in subst R value c.primitive.ensures.reduced;
    }
