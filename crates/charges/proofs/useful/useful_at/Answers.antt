use Rattle.std.proofs.Common.{◌≡◌, ◌∙◌, sym, ap, subst, SFits, rules, pos, ℕ, List, Bool, refl}
use Rattle.std.proofs.Common.{replicate, length}
use Rattle.std.specs.Prelude.{◌&&◌, not}
use Rattle.std.specs.Int.{w128}
use Rattle.std.proofs.lemmas.Int.{to_z-of_z}
use Rattle.structure_list.specs.number_sets.Sets.{has, minus, IsSet}
use Rattle.structure_list.proofs.number_sets.Cited.{has-minus}
use Rattle.structure_list.specs.pns_rules.Shape.{Shape, shape_of}
use Rattle.structure_list.specs.pns_rules.Structure.{mats}
use Rattle.structure_list.specs.pgraph.View.{node_of}
use Rattle.structure_list.specs.flow_rules.Net.{net_of}
use Rattle.structure_list.specs.flow_rules.Relaxed.{stays}
use Rattle.flow_program.proofs.Cited.{listed_had, next_of, has_next}
use Rattle.structure_list.specs.flow_rules.Charge.{useful}
use Rattle.charges.specs.Known.{facts_of}
use Rattle.charges.proofs.OwnLemmas.{same_all}
use Rattle.charges.proofs.UseLemmas.{table_begins, table_more, table_ends, first_of}
use Rattle.charges.proofs.useful.useful_at.Goals as goal

made_is : (rows raws made : List ℕ) (raw : ℕ → Bool) → made ≡ minus rows raws → has raws ≡ raw
    → (j : ℕ) → has made j ≡ (has rows j && not (raw j))
made_is rows raws made raw e is j = ap (λ (xs : List ℕ). has xs j) e ∙ has-minus rows raws j
    ∙ ap (λ (t : ℕ → Bool). has rows j && not (t j)) is

pub loop-j-init : goal.loop-j-init
loop-j-init c = record {
  is_set = subst (IsSet 256) (sym c.into_iter-j-iterator.ensures.into_iter_gives.0)
      c.into_iter-j-iterator.ensures.into_iter_gives.1;
  so_far = rw c.into_iter-j-iterator.ensures.into_iter_gives.0
      (table_begins
      (useful (net_of c.args.site.now) (node_of c.args.node.now) (facts_of c.args.facts.now))
      c.minus-made.result (replicate 256 (pos 0)) refl (λ j. same_all (pos 0) 256 j));
}

pub useful_of-requires-clause-known : goal.useful_of-requires-clause-known
useful_of-requires-clause-known c =
    let there = c.loop-j.invariant.so_far.within c.in-Some.j
    (has_next 256 c.loop-j.j-iterator c.in-Some.j c.next.new.self
    (next_of 256 c.loop-j.j-iterator c.in-Some.j c.next.new.self c.loop-j.invariant.is_set
    c.in-Some.ensures.steps)) in
    (listed_had (length c.args.site.now.materials)
    (mats (shape_of c.args.site.now) (stays (node_of c.args.node.now))) c.args.sets.now.rows
    c.in-Some.j c.requires.rows_are
    (first_of _ _
    (sym (ap (λ (xs : List ℕ). has xs c.in-Some.j) c.minus-made.ensures
    ∙ has-minus c.args.sets.now.rows c.raws.result c.in-Some.j) ∙ there))).0

pub useful_of-requires-clause-small : goal.useful_of-requires-clause-small
useful_of-requires-clause-small c =
    (next_of 256 c.loop-j.j-iterator c.in-Some.j c.next.new.self c.loop-j.invariant.is_set
    c.in-Some.ensures.steps).below

pub loop-j-preserved : goal.loop-j-preserved
loop-j-preserved c = record {
  is_set =
      (next_of 256 c.loop-j.j-iterator c.in-Some.j c.next.new.self c.loop-j.invariant.is_set
      c.in-Some.ensures.steps).set;
  so_far = let v : SFits w128 c.useful_of.result = search rules in
      simp to_z-of_z
      (table_more
      (useful (net_of c.args.site.now) (node_of c.args.node.now) (facts_of c.args.facts.now))
      c.minus-made.result c.loop-j.most c.loop-j.j-iterator c.in-Some.j c.next.new.self
      c.useful_of.result
      (next_of 256 c.loop-j.j-iterator c.in-Some.j c.next.new.self c.loop-j.invariant.is_set
      c.in-Some.ensures.steps) c.useful_of.ensures.value c.useful_of.ensures.small
      c.loop-j.invariant.so_far);
}

pub returns : goal.returns
returns c = record {
  made =
      λ j.
      (made_is c.args.sets.now.rows c.raws.result c.minus-made.result (shape_of c.args.site.now).raw
      c.minus-made.ensures (c.raws.ensures ∙ ap (λ (q : Shape). q.raw) c.graph.ensures.same) j
      ∙ ap (λ (xs : List ℕ). has xs j && not ((shape_of c.args.site.now).raw j))
      c.requires.rows_are);
  value =
      table_ends
      (useful (net_of c.args.site.now) (node_of c.args.node.now) (facts_of c.args.facts.now))
      c.minus-made.result c.loop-j.most c.loop-j.j-iterator c.in-None.ensures.steps.0
      c.loop-j.invariant.so_far;
  small = c.loop-j.invariant.so_far.small;
}
