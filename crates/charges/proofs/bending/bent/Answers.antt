use Rattle.std.proofs.Common.{◌≡◌, ℕ, arith, ap, refl, not, ◌==◌, List, length, rules, SFits, pos}
use Rattle.std.proofs.Common.{get_or}
use Rattle.std.specs.Int.{w128}
use Rattle.std.proofs.lemmas.Int.{to_z-of_z}
use Rattle.structure_list.specs.number_sets.Sets.{kept}
use Rattle.structure_list.proofs.number_sets.Cited.{length_below}
use Rattle.flow_program.specs.Entry.{entry}
use Rattle.charges.specs.Bends.{as_owed, knee_at}
use Rattle.charges.proofs.KneeLemmas.{first_counts}
use Rattle.charges.proofs.BendLemmas.{bent_room, knee_past, knee_counts, none_counts, is_none}
use Rattle.charges.proofs.BendLemmas.{is_more}
use Rattle.charges.proofs.bending.bent.Goals as goal
use Rattle.charges.proofs.bending.bent.Goals.{then-counts+in-Ok, else-counts}

pub returns-in_default-clause-small : goal.returns-in_default-clause-small
returns-in_default-clause-small c =
    let few = length_below 256 c.args.knees.now.set c.rises.ensures.rising c.rises.ensures.below in
    let r = bent_room c.args.sizes.low c.args.sizes.high (knee_at c.args.knees.now)
    c.args.knees.now.set (as_owed c.args.owed) (as_owed c.bending.rest) c.args.start
    c.bending.at c.bending.left few c.bending.invariant in
    r.0

pub with_knee-requires : goal.with_knee-requires
with_knee-requires c =
    let few = length_below 256 c.args.knees.now.set c.rises.ensures.rising c.rises.ensures.below in
    let r = bent_room c.args.sizes.low c.args.sizes.high (knee_at c.args.knees.now)
    c.args.knees.now.set (as_owed c.args.owed) (as_owed c.bending.rest) c.args.start
    c.bending.at c.bending.left few c.bending.invariant in
    let l = r.0 in
    let room = c.requires.room in
    record { room = omega arith }

pub overflow_add-at : goal.overflow_add-at
overflow_add-at c =
    let few = length_below 256 c.args.knees.now.set c.rises.ensures.rising c.rises.ensures.below in
    let r = bent_room c.args.sizes.low c.args.sizes.high (knee_at c.args.knees.now)
    c.args.knees.now.set (as_owed c.args.owed) (as_owed c.bending.rest) c.args.start
    c.bending.at c.bending.left few c.bending.invariant in
    let l = r.0 in
    let room = c.requires.room in
    omega arith

pub returns-in-Err-clause-past : goal.returns-in-Err-clause-past
returns-in-Err-clause-past c =
    let k = c.args.knees.now in
    let re : SFits w128 c.bending.rest.each = search rules in
    let ro : SFits w128 c.bending.rest.once = search rules in
    let ka : SFits w128 (get_or k.at c.in-Some.j (pos 0)) = search rules in
    let kw : SFits w128 (get_or k.worth c.in-Some.j (pos 0)) = search rules in
    let pa : SFits w128 c.counted-part.result = search rules in
    knee_past c.args.sizes.low c.args.sizes.high (knee_at k) k.set (as_owed c.args.owed)
    (as_owed c.bending.rest) c.args.start c.bending.at c.bending.left c.in-Some.j
    (kept (λ v. not (c.in-Some.j == v)) c.bending.left)
    c.rises-in-bending.ensures.rising c.in-Some.ensures.first refl c.counted-part.result
    (simp to_z-of_z at c.counted-part.ensures) c.bending.invariant
    (is_more c.counted-part.result c.is_some-counts.result
    (simp to_z-of_z at c.is_some-counts.ensures) c.if-counts.true)
    c.in-Err.past.at c.in-Err.ensures.from_start (simp to_z-of_z at c.in-Err.ensures.past)

pub bending-smaller : goal.bending-smaller
bending-smaller c =
    let s = first_counts (entry c.args.knees.now.at) c.in-Some.j c.bending.left
    c.rises-in-bending.ensures.rising c.in-Some.ensures.first in
    let e : length c.without-left.result
    ≡ length (kept (λ v. not (c.in-Some.j == v)) c.bending.left) =
    ap (λ (xs : List ℕ). length xs) c.without-left.ensures in
    omega arith

pub bending-preserved : goal.bending-preserved
bending-preserved c =
    let k = c.args.knees.now in
    let re : SFits w128 c.bending.rest.each = search rules in
    let ro : SFits w128 c.bending.rest.once = search rules in
    let ka : SFits w128 (get_or k.at c.in-Some.j (pos 0)) = search rules in
    let kw : SFits w128 (get_or k.worth c.in-Some.j (pos 0)) = search rules in
    let pa : SFits w128 c.counted-part.result = search rules in
    elim c.if-counts.branch [
      | then-counts+in-Ok w ↦
          rw (w.rest-is, w.at-is)
          (knee_counts c.args.sizes.low c.args.sizes.high (knee_at k) k.set (as_owed c.args.owed)
          (as_owed c.bending.rest) c.args.start c.bending.at c.bending.left c.in-Some.j
          c.without-left.result
          c.rises-in-bending.ensures.rising c.in-Some.ensures.first c.without-left.ensures
          c.counted-part.result (simp to_z-of_z at c.counted-part.ensures) c.bending.invariant
          (is_more c.counted-part.result c.is_some-counts.result
          (simp to_z-of_z at c.is_some-counts.ensures) w.if-counts.true) w.in-Ok.next.each
          w.in-Ok.next.once (simp to_z-of_z at w.in-Ok.ensures.each)
          (simp to_z-of_z at w.in-Ok.ensures.once) (simp to_z-of_z at w.in-Ok.ensures.in_range))
      | else-counts w ↦
          rw (w.rest-is, w.at-is)
          (none_counts c.args.sizes.low c.args.sizes.high (knee_at k) k.set (as_owed c.args.owed)
          (as_owed c.bending.rest) c.args.start c.bending.at c.bending.left c.in-Some.j
          c.without-left.result
          c.rises-in-bending.ensures.rising c.in-Some.ensures.first c.without-left.ensures
          c.counted-part.result (simp to_z-of_z at c.counted-part.ensures) c.bending.invariant
          (is_none c.counted-part.result c.is_some-counts.result
          (simp to_z-of_z at c.is_some-counts.ensures) w.if-counts.false))
    ]
