use Rattle.std.proofs.Common.{◌∙◌, sym, ap, subst, SFits, rules, get_or, to_z, arith, List, ℕ, ℤ}
use Rattle.std.proofs.Common.{pos, ◌*ℤ◌}
use Rattle.std.specs.Prelude.{int_div, unsigned_abs}
use Rattle.std.specs.Int.{w64, w128, ◌∣◌}
use Rattle.std.proofs.lemmas.Int.{to_z-of_z}
use Rattle.std.proofs.lemmas.Nat.Gcd.{dvd_refl}
use Rattle.tree_rules.specs.number_sets.Sets.{IsSet}
use Rattle.tree_rules.specs.integer_laws.Range.{InRange}
use Rattle.scaled_flows.proofs.DivisorLemmas.{divides_abs}
use Rattle.flow_program.specs.pgraph.View.{node_of}
use Rattle.tree_rules.specs.flow_rules.Net.{net_of}
use Rattle.flow_program.proofs.Cited.{next_of, head_had}
use Rattle.scaled_flows.proofs.FoundLemmas.{IsRowsDivisor, rows_begin, rows_more, quotient_small}
use Rattle.scaled_flows.proofs.divisors.with_rows.Goals as goal

pub row_range-range-requires-clause-known : goal.row_range-range-requires-clause-known
row_range-range-requires-clause-known c =
    c.requires.known c.in-Some.j
    (c.loop-j.invariant.so_far.within c.in-Some.j
    (head_had c.loop-j.j-iterator c.in-Some.j c.next.new.self c.in-Some.ensures.steps))

pub bounds-rates-j : goal.bounds-rates-j
bounds-rates-j c =
    let known =
    c.requires.known c.in-Some.j
    (c.loop-j.invariant.so_far.within c.in-Some.j
    (head_had c.loop-j.j-iterator c.in-Some.j c.next.new.self c.in-Some.ensures.steps)) in
    let n = c.requires.rates.count in
    omega arith

pub loop-j-init : goal.loop-j-init
loop-j-init c =
    let common = c.ranges.common in
    let into = c.into_iter-j-iterator.ensures.into_iter_gives in
    record {
      is_set = subst (IsSet 256) (sym into.0) into.1;
      so_far =
          simp to_z-of_z
          (subst
          (λ (js : List ℕ). IsRowsDivisor (net_of c.args.problem.now) (node_of c.args.taken.now)
          c.args.rates.now c.args.rows c.args.common c.args.common js) (sym into.0)
          (rows_begin (net_of c.args.problem.now) (node_of c.args.taken.now) c.args.rates.now
          c.args.rows c.args.common c.requires.common_in_range
          (dvd_refl (unsigned_abs c.args.common))));
    }

pub loop-j-preserved : goal.loop-j-preserved
loop-j-preserved c = record {
  is_set =
      (next_of 256 c.loop-j.j-iterator c.in-Some.j c.next.new.self c.loop-j.invariant.is_set
      c.in-Some.ensures.steps).set;
  so_far = let common = c.ranges.common in
      let known =
      c.requires.known c.in-Some.j
      (c.loop-j.invariant.so_far.within c.in-Some.j
      (head_had c.loop-j.j-iterator c.in-Some.j c.next.new.self c.in-Some.ensures.steps)) in
      let g : SFits w64 (get_or c.args.rates.now c.in-Some.j (pos 0)) = search rules in
      let g' : SFits w128 (get_or c.args.rates.now c.in-Some.j (pos 0)) = search rules in
      let lo : SFits w128 c.row_range-range.result.low = search rules in
      let hi : SFits w128 c.row_range-range.result.high = search rules in
      let a : SFits w128 c.scaled.result = search rules in
      let b : SFits w128 c.scaled-in-loop-j.result = search rules in
      let n : SFits w128 c.with_both-all.result = search rules in
      let ea = simp to_z-of_z at c.scaled.ensures in
      let eb = simp to_z-of_z at c.scaled-in-loop-j.ensures in
      let h = c.with_both-all.ensures.common in
      let f = simp to_z-of_z at c.with_both-all.ensures.first in
      let s = simp to_z-of_z at c.with_both-all.ensures.second in
      let i = simp to_z-of_z at c.loop-j.invariant.so_far in
      simp to_z-of_z
      (rows_more (net_of c.args.problem.now) (node_of c.args.taken.now) c.args.rates.now
      c.args.rows c.args.common (to_z w128 c.loop-j.all-bits) c.with_both-all.result
      c.loop-j.j-iterator c.in-Some.j c.next.new.self
      (next_of 256 c.loop-j.j-iterator c.in-Some.j c.next.new.self c.loop-j.invariant.is_set
      c.in-Some.ensures.steps)
      c.with_both-all.ensures.in_range h (
        subst (λ (v : ℤ). unsigned_abs c.with_both-all.result ∣ unsigned_abs v)
            (ea ∙ ap (λ (v : ℤ). int_div v (get_or c.args.rates.now c.in-Some.j (pos 0)))
            c.row_range-range.ensures.low) f,
        subst (λ (v : ℤ). unsigned_abs c.with_both-all.result ∣ unsigned_abs v)
            (eb ∙ ap (λ (v : ℤ). int_div v (get_or c.args.rates.now c.in-Some.j (pos 0)))
            c.row_range-range.ensures.high) s,
      )
      i);
}

pub returns-clause-common : goal.returns-clause-common
returns-clause-common c =
    let common = c.ranges.common in
    let i = simp to_z-of_z at c.loop-j.invariant.so_far in
    i.of_start

pub scaled-requires : goal.scaled-requires
scaled-requires c =
    let known =
    c.requires.known c.in-Some.j
    (c.loop-j.invariant.so_far.within c.in-Some.j
    (head_had c.loop-j.j-iterator c.in-Some.j c.next.new.self c.in-Some.ensures.steps)) in
    let g : SFits w64 (get_or c.args.rates.now c.in-Some.j (pos 0)) = search rules in
    let g' : SFits w128 (get_or c.args.rates.now c.in-Some.j (pos 0)) = search rules in
    simp to_z-of_z (c.requires.rates.positive c.in-Some.j known)

pub scaled-requires-in-loop-j : goal.scaled-requires-in-loop-j
scaled-requires-in-loop-j c =
    let known =
    c.requires.known c.in-Some.j
    (c.loop-j.invariant.so_far.within c.in-Some.j
    (head_had c.loop-j.j-iterator c.in-Some.j c.next.new.self c.in-Some.ensures.steps)) in
    let g : SFits w64 (get_or c.args.rates.now c.in-Some.j (pos 0)) = search rules in
    let g' : SFits w128 (get_or c.args.rates.now c.in-Some.j (pos 0)) = search rules in
    simp to_z-of_z (c.requires.rates.positive c.in-Some.j known)

pub with_both-all-requires-clause-first_in_range : goal.with_both-all-requires-clause-first_in_range
with_both-all-requires-clause-first_in_range c =
    let known =
    c.requires.known c.in-Some.j
    (c.loop-j.invariant.so_far.within c.in-Some.j
    (head_had c.loop-j.j-iterator c.in-Some.j c.next.new.self c.in-Some.ensures.steps)) in
    let g : SFits w64 (get_or c.args.rates.now c.in-Some.j (pos 0)) = search rules in
    let g' : SFits w128 (get_or c.args.rates.now c.in-Some.j (pos 0)) = search rules in
    let lo : SFits w128 c.row_range-range.result.low = search rules in
    let a : SFits w128 c.scaled.result = search rules in
    let ea = simp to_z-of_z at c.scaled.ensures in
    let small = c.row_range-range.ensures.low_small in
    let fits : InRange c.row_range-range.result.low = omega arith in
    simp to_z-of_z
    (quotient_small c.row_range-range.result.low (get_or c.args.rates.now c.in-Some.j (pos 0))
    c.scaled.result (c.requires.rates.positive c.in-Some.j known)
    (ap (λ (v : ℤ). get_or c.args.rates.now c.in-Some.j (pos 0) *ℤ v) ea
    ∙ divides_abs (get_or c.args.rates.now c.in-Some.j (pos 0)) c.row_range-range.result.low
    (c.requires.rates.positive c.in-Some.j known)
    (subst (λ (v : ℤ). unsigned_abs (get_or c.args.rates.now c.in-Some.j (pos 0)) ∣ unsigned_abs v)
    (sym c.row_range-range.ensures.low) (c.requires.rates.low c.in-Some.j known)))
    fits)

pub with_both-all-requires-clause-second_in_range :
    goal.with_both-all-requires-clause-second_in_range
with_both-all-requires-clause-second_in_range c =
    let known =
    c.requires.known c.in-Some.j
    (c.loop-j.invariant.so_far.within c.in-Some.j
    (head_had c.loop-j.j-iterator c.in-Some.j c.next.new.self c.in-Some.ensures.steps)) in
    let g : SFits w64 (get_or c.args.rates.now c.in-Some.j (pos 0)) = search rules in
    let g' : SFits w128 (get_or c.args.rates.now c.in-Some.j (pos 0)) = search rules in
    let hi : SFits w128 c.row_range-range.result.high = search rules in
    let b : SFits w128 c.scaled-in-loop-j.result = search rules in
    let eb = simp to_z-of_z at c.scaled-in-loop-j.ensures in
    let small = c.row_range-range.ensures.high_small in
    let fits : InRange c.row_range-range.result.high = omega arith in
    simp to_z-of_z
    (quotient_small c.row_range-range.result.high (get_or c.args.rates.now c.in-Some.j (pos 0))
    c.scaled-in-loop-j.result (c.requires.rates.positive c.in-Some.j known)
    (ap (λ (v : ℤ). get_or c.args.rates.now c.in-Some.j (pos 0) *ℤ v) eb
    ∙ divides_abs (get_or c.args.rates.now c.in-Some.j (pos 0)) c.row_range-range.result.high
    (c.requires.rates.positive c.in-Some.j known)
    (subst (λ (v : ℤ). unsigned_abs (get_or c.args.rates.now c.in-Some.j (pos 0)) ∣ unsigned_abs v)
    (sym c.row_range-range.ensures.high) (c.requires.rates.high c.in-Some.j known)))
    fits)
