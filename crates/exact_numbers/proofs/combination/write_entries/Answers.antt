use Rattle.std.proofs.Common.{◌≡◌, ◌<◌, pos, ℤ, SFits, rules, get_or, arith, None, length, subst}
use Rattle.std.proofs.Common.{sym, ◌*ℤ◌, ◌-ℤ◌, ap, ◌∙◌}
use Rattle.std.proofs.lemmas.Int.{to_z-of_z}
use Rattle.std.proofs.lemmas.List.Elements.{AllWithin-more_set}
use Rattle.std.specs.Int.{w128}
use Rattle.integer_laws.specs.Range.{InRange}
use Rattle.integer_laws.specs.Combined.{past_of}
use Rattle.exact_numbers.proofs.Entries.{combined_left, combined_more}
use Rattle.exact_numbers.proofs.combination.write_entries.Goals as goal

pub entry_within-requires : goal.entry_within-requires
entry_within-requires c =
    let p = c.ranges.p in
    let q = c.ranges.q in
    let x : SFits w128 (get_or c.loop-j.row c.loop-j.j (pos 0)) = search rules in
    let y : SFits w128 (get_or c.args.pivot.now c.loop-j.j (pos 0)) = search rules in
    let same =
    combined_left c.args.p c.args.q c.args.row.now c.args.pivot.now c.loop-j.row c.loop-j.j
    (simp to_z-of_z at c.loop-j.invariant.items) c.requires.lengths (omega arith) in
    let within : c.loop-j.j < length c.args.row.now = omega arith in
    let none = c.requires.in_range c.loop-j.j within in
    simp to_z-of_z
    (subst
    (λ (z : ℤ). past_of c.args.p z c.args.q (get_or c.args.pivot.now c.loop-j.j (pos 0)) ≡ None)
    (sym same) none)

pub loop-j-preserved : goal.loop-j-preserved
loop-j-preserved c =
    let p = c.ranges.p in
    let q = c.ranges.q in
    let x : SFits w128 (get_or c.loop-j.row c.loop-j.j (pos 0)) = search rules in
    let y : SFits w128 (get_or c.args.pivot.now c.loop-j.j (pos 0)) = search rules in
    let z : SFits w128 c.entry_within.result = search rules in
    let within : c.loop-j.j < length c.args.row.now = omega arith in
    let items = simp to_z-of_z at c.loop-j.invariant.items in
    let same =
    combined_left c.args.p c.args.q c.args.row.now c.args.pivot.now c.loop-j.row c.loop-j.j
    items c.requires.lengths within in
    let value = simp to_z-of_z at c.entry_within.ensures.value in
    simp to_z-of_z (record {
      items =
          combined_more c.args.p c.args.q c.args.row.now c.args.pivot.now c.loop-j.row c.loop-j.j
          c.entry_within.result items c.requires.lengths within
          (value
          ∙ ap
          (λ (a : ℤ). c.args.p *ℤ a -ℤ c.args.q *ℤ get_or c.args.pivot.now c.loop-j.j (pos 0))
          same);
      in_range =
          AllWithin-more_set c.loop-j.row c.loop-j.j c.entry_within.result (omega arith) InRange
          c.loop-j.invariant.in_range c.entry_within.ensures.in_range;
    })
