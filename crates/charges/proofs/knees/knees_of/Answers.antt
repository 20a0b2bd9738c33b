use Rattle.std.proofs.Common.{◌∙◌, sym, ap, subst, SFits, rules, get_or, pos, Bool, ℕ, List, refl}
use Rattle.std.specs.Prelude.{◌&&◌, int_lt}
use Rattle.std.specs.Int.{w64, w128}
use Rattle.std.proofs.lemmas.Int.{to_z-of_z}
use Rattle.structure_list.specs.number_sets.Sets.{has, IsSet}
use Rattle.structure_list.proofs.number_sets.Cited.{has-meet}
use Rattle.flow_program.specs.Entry.{entry}
use Rattle.flow_program.proofs.Cited.{next_of, has_next}
use Rattle.charges.proofs.KneeLemmas.{lt_from}
use Rattle.charges.proofs.PayingLemmas.{kneed_begins, kneed_more, kneed_ends, pays_rate}
use Rattle.charges.proofs.knees.knees_of.Goals as goal

pub loop-j-init : goal.loop-j-init
loop-j-init c = record {
  is_set = subst (IsSet 256) (sym c.into_iter-j-iterator.ensures.into_iter_gives.0)
      c.into_iter-j-iterator.ensures.into_iter_gives.1;
  so_far = rw c.into_iter-j-iterator.ensures.into_iter_gives.0
      (kneed_begins (entry c.args.useful.now.most) (entry c.args.rates.now) (entry c.args.ys.now)
      c.paying-set.result _ _ refl refl);
}

pub rounded_up-requires-clause-positive : goal.rounded_up-requires-clause-positive
rounded_up-requires-clause-positive c =
    let there = c.loop-j.invariant.so_far.within c.in-Some.j
    (has_next 256 c.loop-j.j-iterator c.in-Some.j c.next.new.self
    (next_of 256 c.loop-j.j-iterator c.in-Some.j c.next.new.self c.loop-j.invariant.is_set
    c.in-Some.ensures.steps)) in
    let r : SFits w64 (get_or c.args.rates.now c.in-Some.j (pos 0)) = search rules in
    simp to_z-of_z
    (lt_from (pos 0) (get_or c.args.rates.now c.in-Some.j (pos 0))
    (pays_rate _ _ _ (sym (c.paying-set.ensures c.in-Some.j) ∙ there)))

pub loop-j-preserved : goal.loop-j-preserved
loop-j-preserved c = record {
  is_set =
      (next_of 256 c.loop-j.j-iterator c.in-Some.j c.next.new.self c.loop-j.invariant.is_set
      c.in-Some.ensures.steps).set;
  so_far = let r : SFits w64 (get_or c.args.rates.now c.in-Some.j (pos 0)) = search rules in
      let y : SFits w128 (get_or c.args.ys.now c.in-Some.j (pos 0)) = search rules in
      let u : SFits w128 (get_or c.args.useful.now.most c.in-Some.j (pos 0)) = search rules in
      let a : SFits w128 c.rounded_up.result = search rules in
      let w : SFits w128 c.worth_of.result = search rules in
      simp to_z-of_z
      (kneed_more (entry c.args.useful.now.most) (entry c.args.rates.now) (entry c.args.ys.now)
      c.paying-set.result c.loop-j.at c.loop-j.worth c.loop-j.j-iterator c.in-Some.j c.next.new.self
      c.rounded_up.result c.worth_of.result
      (next_of 256 c.loop-j.j-iterator c.in-Some.j c.next.new.self c.loop-j.invariant.is_set
      c.in-Some.ensures.steps) (simp to_z-of_z at c.rounded_up.ensures)
      (simp to_z-of_z at c.worth_of.ensures) c.loop-j.invariant.so_far);
}

pub returns-clause-set : goal.returns-clause-set
returns-clause-set c =
    λ j.
    (c.paying-set.ensures j
    ∙ ap
    (λ (b : Bool). b
    && (int_lt (pos 0) (entry c.args.rates.now j) && int_lt (pos 0) (entry c.args.ys.now j)))
    (ap (λ (xs : List ℕ). has xs j) c.meet.ensures
    ∙ has-meet c.args.materials c.args.useful.now.made j))

pub returns-clause-knees : goal.returns-clause-knees
returns-clause-knees c =
    kneed_ends (entry c.args.useful.now.most) (entry c.args.rates.now) (entry c.args.ys.now)
    c.paying-set.result c.loop-j.at c.loop-j.worth c.loop-j.j-iterator c.in-None.ensures.steps.0
    c.loop-j.invariant.so_far
