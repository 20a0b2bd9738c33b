use Rattle.std.proofs.Common.{rules, ◌≡◌, ◌<◌, ◌+◌, ℕ, ℤ, pos, neg_ℤ, SFits, List, arith, sym, ap}
use Rattle.std.proofs.Common.{◌∙◌, subst, refl, map, take, drop, get_or, length, set}
use Rattle.std.specs.Int.{w128}
use Rattle.std.proofs.lemmas.Int.{to_z-of_z}
use Rattle.std.proofs.lemmas.List.{get_or_default}
use Rattle.std.proofs.lemmas.List.Edits.{map_over_more}
use Rattle.std.proofs.lemmas.List.Elements.{All-set}
use Rattle.flow_program.specs.integer_laws.Range.{InRange}
use Rattle.dual_simplex.proofs.pivot_row.negate_all.Goals as goal

pub loop-k-preserved : goal.loop-k-preserved
loop-k-preserved c =
    let x : SFits w128 (get_or c.loop-k.row c.loop-k.k (pos 0)) = search rules in
    let z : SFits w128 c.negated.result = search rules in
    let value = simp to_z-of_z at c.negated.ensures.value in
    simp to_z-of_z (record {
      items = ap (set c.loop-k.row c.loop-k.k) value
          ∙ map_over_more neg_ℤ c.args.row.now c.loop-k.row c.loop-k.k
          (get_or c.loop-k.row c.loop-k.k (pos 0)) (omega arith) c.loop-k.invariant.items
          (get_or_default c.loop-k.row c.loop-k.k (pos 0) (get_or c.loop-k.row c.loop-k.k (pos 0))
          (omega arith));
      in_range =
          All-set InRange c.loop-k.row c.loop-k.k c.negated.result c.negated.ensures.in_range
          c.loop-k.invariant.in_range;
    })
