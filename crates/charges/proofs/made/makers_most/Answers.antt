use Rattle.std.proofs.Common.{sym, subst, SFits, rules, to_z, arith, pos, ◌+ℤ◌, ◌*ℤ◌}
use Rattle.std.specs.Int.{int_max, w128}
use Rattle.std.proofs.lemmas.Int.{to_z-of_z}
use Rattle.structure_list.specs.number_sets.Sets.{IsSet}
use Rattle.structure_list.specs.flow_rules.Net.{net_of}
use Rattle.flow_program.proofs.Cited.{fits_small, size_add, next_of, IsNext, has_next}
use Rattle.charges.specs.Known.{facts_of}
use Rattle.charges.proofs.UseLemmas.{use_begins, use_small, use_more, use_ends}
use Rattle.charges.proofs.made.makers_most.Goals as goal

pub loop-u-init : goal.loop-u-init
loop-u-init c = record {
  is_set = subst (IsSet 128) (sym c.into_iter-u-iterator.ensures.into_iter_gives.0)
      c.into_iter-u-iterator.ensures.into_iter_gives.1;
  so_far = rw c.into_iter-u-iterator.ensures.into_iter_gives.0
      (use_begins (λ u. int_max (pos 0) ((net_of c.args.site.now).rate c.args.j u) *ℤ
      (facts_of c.args.facts.now).most u) c.args.set);
}

pub make_most-sum-requires-clause-known : goal.make_most-sum-requires-clause-known
make_most-sum-requires-clause-known c =
    let next : IsNext 128 c.loop-u.u-iterator c.in-Some.u c.next.new.self =
    next_of 128 c.loop-u.u-iterator c.in-Some.u c.next.new.self c.loop-u.invariant.is_set
    c.in-Some.ensures.steps in
    c.requires c.in-Some.u
    (c.loop-u.invariant.so_far.within c.in-Some.u
    (has_next 128 c.loop-u.u-iterator c.in-Some.u c.next.new.self next))

pub make_most-sum-requires-clause-small : goal.make_most-sum-requires-clause-small
make_most-sum-requires-clause-small c =
    (next_of 128 c.loop-u.u-iterator c.in-Some.u c.next.new.self c.loop-u.invariant.is_set
    c.in-Some.ensures.steps).below

pub overflow_add-sum : goal.overflow_add-sum
overflow_add-sum c =
    let w : SFits w128 c.make_most-sum.result = search rules in
    let small =
    use_small (λ u. int_max (pos 0) ((net_of c.args.site.now).rate c.args.j u) *ℤ
    (facts_of c.args.facts.now).most
    u) c.args.set (to_z w128 c.loop-u.sum-bits) c.loop-u.u-iterator
    c.into_iter-u-iterator.ensures.into_iter_gives.1 c.loop-u.invariant.so_far in
    let both = size_add (to_z w128 c.loop-u.sum-bits) c.make_most-sum.result _ _ small
    c.make_most-sum.ensures.small in
    simp to_z-of_z (fits_small (to_z w128 c.loop-u.sum-bits +ℤ c.make_most-sum.result)
    (omega arith))

pub loop-u-preserved : goal.loop-u-preserved
loop-u-preserved c = record {
  is_set =
      (next_of 128 c.loop-u.u-iterator c.in-Some.u c.next.new.self c.loop-u.invariant.is_set
      c.in-Some.ensures.steps).set;
  so_far = let next : IsNext 128 c.loop-u.u-iterator c.in-Some.u c.next.new.self
      = next_of 128 c.loop-u.u-iterator c.in-Some.u c.next.new.self c.loop-u.invariant.is_set
      c.in-Some.ensures.steps in
      let w : SFits w128 c.make_most-sum.result = search rules in
      let small =
      use_small (λ u. int_max (pos 0) ((net_of c.args.site.now).rate c.args.j u) *ℤ
      (facts_of c.args.facts.now).most u) c.args.set (to_z w128 c.loop-u.sum-bits)
      c.loop-u.u-iterator c.into_iter-u-iterator.ensures.into_iter_gives.1
      c.loop-u.invariant.so_far in
      let both = size_add (to_z w128 c.loop-u.sum-bits) c.make_most-sum.result _ _ small
      c.make_most-sum.ensures.small in
      let f : SFits w128 (to_z w128 c.loop-u.sum-bits +ℤ c.make_most-sum.result) =
      fits_small (to_z w128 c.loop-u.sum-bits +ℤ c.make_most-sum.result) (omega arith) in
      simp to_z-of_z
      (use_more (λ u. int_max (pos 0) ((net_of c.args.site.now).rate c.args.j u) *ℤ
      (facts_of c.args.facts.now).most u) c.args.set (to_z w128 c.loop-u.sum-bits)
      c.loop-u.u-iterator c.in-Some.u c.next.new.self c.make_most-sum.result next
      c.make_most-sum.ensures.value c.make_most-sum.ensures.small c.loop-u.invariant.so_far);
}

pub returns-clause-value : goal.returns-clause-value
returns-clause-value c =
    use_ends (λ u. int_max (pos 0) ((net_of c.args.site.now).rate c.args.j u) *ℤ
    (facts_of c.args.facts.now).most
    u) c.args.set (to_z w128 c.loop-u.sum-bits) c.loop-u.u-iterator c.in-None.ensures.steps.0
    c.loop-u.invariant.so_far

pub returns-clause-small : goal.returns-clause-small
returns-clause-small c =
    use_small (λ u. int_max (pos 0) ((net_of c.args.site.now).rate c.args.j u) *ℤ
    (facts_of c.args.facts.now).most
    u) c.args.set (to_z w128 c.loop-u.sum-bits) c.loop-u.u-iterator
    c.into_iter-u-iterator.ensures.into_iter_gives.1 c.loop-u.invariant.so_far
