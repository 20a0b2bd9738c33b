use Rattle.std.proofs.Common.{◌≡◌, ◌∙◌, refl, sym, ap, SFits, rules, pos, ℤ, ◌==◌, not, List}
use Rattle.std.proofs.Common.{length, arith, ◌<◌, ◌||◌, ◌&&◌, subst}
use Rattle.std.specs.Int.{w64, w128}
use Rattle.std.proofs.lemmas.Int.{to_z-of_z}
use Rattle.pgraph.specs.number_sets.Sets.{has, kept}
use Rattle.pgraph.proofs.number_sets.Cited.{length_below}
use Rattle.pgraph.specs.problem_rules.Problem.{Material, rate_of, material_at}
use Rattle.std.specs.Ordering.{int_eq}
use Rattle.pgraph.specs.problem_rules.WellFormed.{IsInRange}
use Rattle.pgraph.specs.pns_rules.Shape.{Shape}
use Rattle.pgraph.specs.flow_rules.Net.{net_of, low_end, high_end}
use Rattle.pgraph.specs.flow_rules.FeasibleSteps.{units_at}
use Rattle.pgraph.proofs.flow_rules.Cited.{material_formed}
use Rattle.flow_program.specs.Entry.{entry}
use Rattle.flow_program.proofs.RateLemmas.{material_read}
use Rattle.flow_program.proofs.NodeSetLemmas.{listed_had}
use Rattle.flow_program.proofs.WalkLemmas.{next_of, head_had, is_next, shorter, next_had}
use Rattle.flow_program.proofs.WalkLemmas.{next_below}
use Rattle.flow_program.proofs.FeasibleLemmas.{balance_past, ranges_more, ranges_room, units_are}
use Rattle.flow_program.proofs.feasibility.in_ranges.Goals as goal

pub bounds-materials-j : goal.bounds-materials-j
bounds-materials-j c =
    subst (λ (ms : List Material). c.in-Some.j < length ms) (sym c.materials.ensures)
    (c.requires.known c.in-Some.j
    (c.loop-j.invariant.so_far.within c.in-Some.j
    (head_had c.loop-j.j-iterator c.in-Some.j c.next.new.self c.in-Some.ensures.steps)))

pub range_of-range-requires-clause-known : goal.range_of-range-requires-clause-known
range_of-range-requires-clause-known c =
    (c.requires.known c.in-Some.j
    (c.loop-j.invariant.so_far.within c.in-Some.j
    (head_had c.loop-j.j-iterator c.in-Some.j c.next.new.self c.in-Some.ensures.steps)))

pub range_of-range-requires-clause-lower : goal.range_of-range-requires-clause-lower
range_of-range-requires-clause-lower c =
    let is : c.index-materials-j.result ≡ material_at c.args.problem.now c.in-Some.j =
    material_read c.args.problem.now c.materials.result.now c.in-Some.j
    c.index-materials-j.result c.materials.ensures
    (c.requires.known c.in-Some.j
    (c.loop-j.invariant.so_far.within c.in-Some.j
    (head_had c.loop-j.j-iterator c.in-Some.j c.next.new.self c.in-Some.ensures.steps)))
    c.index-materials-j.is in
    let lower : c.material.inside.lower ≡ (material_at c.args.problem.now c.in-Some.j).lower =
    ap (λ (x : Material). x.lower) (c.material.view_is ∙ is) in
    let q : SFits w64 c.material.inside.lower = search rules in
    simp to_z-of_z
    (subst IsInRange (sym lower)
    (material_formed c.args.problem.now c.is_valid.ensures.well_formed c.in-Some.j
    (c.requires.known c.in-Some.j
    (c.loop-j.invariant.so_far.within c.in-Some.j
    (head_had c.loop-j.j-iterator c.in-Some.j c.next.new.self
    c.in-Some.ensures.steps)))).bounds.lower_bound.in_range)

pub balance_of-requires-clause-room : goal.balance_of-requires-clause-room
balance_of-requires-clause-room c =
    let d = c.ranges.d in
    let few =
    length_below 256 c.args.materials c.into_iter-j-iterator.ensures.into_iter_gives.1.rising
    c.into_iter-j-iterator.ensures.into_iter_gives.1.below in
    let r =
    ranges_room (net_of c.args.problem.now) (has c.args.set) (entry c.args.size_at.now) c.args.d
    c.args.materials c.loop-j.hold c.loop-j.at c.loop-j.j-iterator few
    (simp to_z-of_z at c.loop-j.invariant.so_far) in
    omega arith

pub units_with-units-requires : goal.units_with-units-requires
units_with-units-requires c =
    subst (λ (g : Shape). c.in-Some.j < g.materials) (sym c.requires.graph)
    (c.requires.known c.in-Some.j
    (c.loop-j.invariant.so_far.within c.in-Some.j
    (head_had c.loop-j.j-iterator c.in-Some.j c.next.new.self c.in-Some.ensures.steps)))

pub balance_of-requires-clause-known : goal.balance_of-requires-clause-known
balance_of-requires-clause-known c =
    let us : c.units_with-units.result
    ≡ units_at (net_of c.args.problem.now) (has c.args.set) c.in-Some.j
    = units_are c.args.problem.now c.is_valid.ensures.well_formed c.args.set
    c.units_with-units.result c.in-Some.j c.rises.ensures c.requires.set_known
    (λ u. c.units_with-units.ensures u
    ∙ ap (λ (g : Shape). (g.makes u c.in-Some.j || g.uses u c.in-Some.j) && has c.args.set u)
    c.requires.graph) in
    λ u h.
    (listed_had (length c.args.problem.now.units)
    (λ i. has c.args.set i && not (int_eq (rate_of c.args.problem.now c.in-Some.j i) (pos 0)))
    c.units_with-units.result u us h).0

pub returns-in-Err-clause-past : goal.returns-in-Err-clause-past
returns-in-Err-clause-past c =
    let d = c.ranges.d in
    let us : c.units_with-units.result
    ≡ units_at (net_of c.args.problem.now) (has c.args.set) c.in-Some.j
    = units_are c.args.problem.now c.is_valid.ensures.well_formed c.args.set
    c.units_with-units.result c.in-Some.j c.rises.ensures c.requires.set_known
    (λ u. c.units_with-units.ensures u
    ∙ ap (λ (g : Shape). (g.makes u c.in-Some.j || g.uses u c.in-Some.j) && has c.args.set u)
    c.requires.graph) in
    balance_past c.args.problem.now (has c.args.set) (entry c.args.size_at.now) c.args.d
    c.args.materials c.loop-j.hold c.loop-j.at c.loop-j.j-iterator c.in-Some.j c.next.new.self
    (next_of 256 c.loop-j.j-iterator c.in-Some.j c.next.new.self c.loop-j.invariant.is_set
    c.in-Some.ensures.steps)
    c.units_with-units.result us (simp to_z-of_z at c.loop-j.invariant.so_far)
    c.in-Err.past.at c.in-Err.ensures.from_start c.in-Err.ensures.past

pub loop-j-preserved : goal.loop-j-preserved
loop-j-preserved c = record {
  is_set =
      (next_of 256 c.loop-j.j-iterator c.in-Some.j c.next.new.self c.loop-j.invariant.is_set
      c.in-Some.ensures.steps).set;
  so_far = let d = c.ranges.d in
      let is : c.index-materials-j.result ≡ material_at c.args.problem.now c.in-Some.j =
      material_read c.args.problem.now c.materials.result.now c.in-Some.j
      c.index-materials-j.result c.materials.ensures
      (c.requires.known c.in-Some.j
      (c.loop-j.invariant.so_far.within c.in-Some.j
      (head_had c.loop-j.j-iterator c.in-Some.j c.next.new.self c.in-Some.ensures.steps)))
      c.index-materials-j.is in
      let lower : c.material.inside.lower ≡ (material_at c.args.problem.now c.in-Some.j).lower =
      ap (λ (x : Material). x.lower) (c.material.view_is ∙ is) in
      let q : SFits w64 c.material.inside.lower = search rules in
      let lo : SFits w128 c.range_of-range.result.low = search rules in
      let hi : SFits w128 c.range_of-range.result.high = search rules in
      let rl = simp to_z-of_z at c.range_of-range.ensures.low in
      let rh = simp to_z-of_z at c.range_of-range.ensures.high in
      let us : c.units_with-units.result
      ≡ units_at (net_of c.args.problem.now) (has c.args.set) c.in-Some.j
      = units_are c.args.problem.now c.is_valid.ensures.well_formed c.args.set
      c.units_with-units.result c.in-Some.j c.rises.ensures c.requires.set_known
      (λ u. c.units_with-units.ensures u
      ∙ ap (λ (g : Shape). (g.makes u c.in-Some.j || g.uses u c.in-Some.j) && has c.args.set u)
      c.requires.graph) in
      let few =
      length_below 128 c.units_with-units.result c.rises.ensures.rising c.rises.ensures.below in
      let b : SFits w128 c.in-Ok.balance = search rules in
      let g = simp to_z-of_z at c.is_within.ensures in
      let h = c.both-hold.ensures in
      simp to_z-of_z
      (ranges_more c.args.problem.now (has c.args.set) (entry c.args.size_at.now) c.args.d
      c.args.materials c.loop-j.hold c.loop-j.at c.loop-j.j-iterator c.in-Some.j c.next.new.self
      (next_of 256 c.loop-j.j-iterator c.in-Some.j c.next.new.self c.loop-j.invariant.is_set
      c.in-Some.ensures.steps)
      c.units_with-units.result us (simp to_z-of_z at c.loop-j.invariant.so_far)
      c.range_of-range.result.low c.range_of-range.result.high c.in-Ok.balance c.both-hold.result
      c.in-Ok.next_at
      (rl ∙ ap (λ (z : ℤ). low_end (net_of c.args.problem.now) c.in-Some.j z) lower)
      (rh ∙ ap (λ (z : ℤ). high_end (net_of c.args.problem.now) c.in-Some.j z) lower)
      c.in-Ok.ensures.value c.in-Ok.ensures.in_range c.in-Ok.ensures.count few
      (λ x. let y = h.0 x in let z = g.0 y.1 in (y.0, z.0, z.1), λ x. h.1 (x.0, g.1 (x.1, x.2))));
}
