use Rattle.std.proofs.Common.{◌≡◌, ◌∙◌, refl, sym, ap, SFits, rules, get_or, pos, ◌==◌, not, true}
use Rattle.std.proofs.Common.{false, List, length, ◌<◌, subst}
use Rattle.std.specs.Int.{w64, w128}
use Rattle.std.proofs.lemmas.Int.{to_z-of_z}
use Rattle.pgraph.specs.number_sets.Sets.{kept}
use Rattle.pgraph.specs.problem_rules.Problem.{OperatingUnit, unit_at}
use Rattle.pgraph.specs.flow_rules.Net.{net_of}
use Rattle.flow_program.specs.Entry.{entry}
use Rattle.flow_program.proofs.RateLemmas.{unit_read}
use Rattle.flow_program.proofs.WalkLemmas.{next_of, head_had, is_next, shorter, next_had}
use Rattle.flow_program.proofs.WalkLemmas.{next_below}
use Rattle.flow_program.proofs.FeasibleLemmas.{not_in_boxes, boxes_more}
use Rattle.flow_program.proofs.feasibility.in_boxes.Goals as goal

pub bounds-units-u : goal.bounds-units-u
bounds-units-u c =
    subst (λ (us : List OperatingUnit). c.in-Some.u < length us) (sym c.units.ensures)
    (c.requires.known c.in-Some.u
    (c.loop-u.invariant.so_far.within c.in-Some.u
    (head_had c.loop-u.u-iterator c.in-Some.u c.next.new.self c.in-Some.ensures.steps)))

pub returns-then-not-is_within : goal.returns-then-not-is_within
returns-then-not-is_within c =
    let d = c.ranges.d in
    let is : c.index-units-u.result ≡ unit_at c.args.problem.now c.in-Some.u =
    unit_read c.args.problem.now c.units.result.now c.in-Some.u c.index-units-u.result
    c.units.ensures
    (c.requires.known c.in-Some.u
    (c.loop-u.invariant.so_far.within c.in-Some.u
    (head_had c.loop-u.u-iterator c.in-Some.u c.next.new.self c.in-Some.ensures.steps)))
    c.index-units-u.is in
    let lo : SFits w64 c.unit.inside.lower = search rules in
    let hi : SFits w64 c.unit.inside.upper = search rules in
    let lo' : SFits w128 c.unit.inside.lower = search rules in
    let hi' : SFits w128 c.unit.inside.upper = search rules in
    let sz : SFits w128 (get_or c.args.size_at.now c.in-Some.u (pos 0)) = search rules in
    let g = simp to_z-of_z at c.is_within.ensures in
    let f = c.if-not-is_within.true in (
      λ (e : false ≡ true). cc,
      λ w. absurd
          (not_in_boxes (net_of c.args.problem.now) (entry c.args.size_at.now) c.args.d c.args.set
          c.loop-u.u-iterator c.in-Some.u c.next.new.self
          (next_of 128 c.loop-u.u-iterator c.in-Some.u c.next.new.self c.loop-u.invariant.is_set
          c.in-Some.ensures.steps)
          c.unit.inside.lower c.unit.inside.upper (get_or c.args.size_at.now c.in-Some.u (pos 0))
          (ap (λ (x : OperatingUnit). x.lower) (c.unit.view_is ∙ is))
          (ap (λ (x : OperatingUnit). x.upper) (c.unit.view_is ∙ is)) refl
          (simp to_z-of_z at c.loop-u.invariant.so_far)
          (λ q. let t : c.is_within.result ≡ true = g.1 q in cc) w),
    )

pub loop-u-preserved : goal.loop-u-preserved
loop-u-preserved c = record {
  is_set =
      (next_of 128 c.loop-u.u-iterator c.in-Some.u c.next.new.self c.loop-u.invariant.is_set
      c.in-Some.ensures.steps).set;
  so_far = let d = c.ranges.d in
      let is : c.index-units-u.result ≡ unit_at c.args.problem.now c.in-Some.u =
      unit_read c.args.problem.now c.units.result.now c.in-Some.u c.index-units-u.result
      c.units.ensures
      (c.requires.known c.in-Some.u
      (c.loop-u.invariant.so_far.within c.in-Some.u
      (head_had c.loop-u.u-iterator c.in-Some.u c.next.new.self c.in-Some.ensures.steps)))
      c.index-units-u.is in
      let lo : SFits w64 c.unit.inside.lower = search rules in
      let hi : SFits w64 c.unit.inside.upper = search rules in
      let lo' : SFits w128 c.unit.inside.lower = search rules in
      let hi' : SFits w128 c.unit.inside.upper = search rules in
      let sz : SFits w128 (get_or c.args.size_at.now c.in-Some.u (pos 0)) = search rules in
      let g = simp to_z-of_z at c.is_within.ensures in
      let f = c.if-not-is_within.false in
      let t : c.is_within.result ≡ true = search rules in
      simp to_z-of_z
      (boxes_more (net_of c.args.problem.now) (entry c.args.size_at.now) c.args.d c.args.set
      c.loop-u.u-iterator c.in-Some.u c.next.new.self
      (next_of 128 c.loop-u.u-iterator c.in-Some.u c.next.new.self c.loop-u.invariant.is_set
      c.in-Some.ensures.steps)
      c.unit.inside.lower c.unit.inside.upper (get_or c.args.size_at.now c.in-Some.u (pos 0))
      (ap (λ (x : OperatingUnit). x.lower) (c.unit.view_is ∙ is))
      (ap (λ (x : OperatingUnit). x.upper) (c.unit.view_is ∙ is)) refl
      (simp to_z-of_z at c.loop-u.invariant.so_far)
      (g.0 t));
}
