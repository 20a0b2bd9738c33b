use Rattle.std.proofs.Common.{ap, refl, false}
use Rattle.std.proofs.lemmas.Bool.{both_ways}
use Rattle.pgraph.specs.number_sets.Sets.{has}
use Rattle.pgraph.specs.pns_rules.Ends.{IsNever}
use Rattle.pgraph.specs.Tables.{shape}
use Rattle.pgraph.specs.pns_rules.Breaks.{BreaksS1}
use Rattle.pgraph.proofs.Cited.{some_number}
use Rattle.structure_list.proofs.UnionLemmas.{set_within, structure_of, set_keeps, union_of}
use Rattle.structure_list.proofs.UnionLemmas.{none_of}
use Rattle.structure_list.proofs.UnionLemmas.{all_known, all_avoids, all_keeps}
use Rattle.structure_list.proofs.union.maximal.Goals as goal

pub balanced-kept-requires : goal.balanced-kept-requires
balanced-kept-requires c =
    all_known (shape c.args.graph.now) c.minus-all.result c.below.result c.args.without
    c.unit_count.result c.below.ensures c.unit_count.ensures c.minus-all.ensures

pub returns-then-is_empty-clause-structure : goal.returns-then-is_empty-clause-structure
returns-then-is_empty-clause-structure c =
    let g = shape c.args.graph.now in
    let kept = has c.balanced-kept.result in
    let set = has c.reaching-set.result in
    let known =
    all_known g c.minus-all.result c.below.result c.args.without c.unit_count.result
    c.below.ensures c.unit_count.ensures c.minus-all.ensures in
    let avoids =
    all_avoids g c.minus-all.result c.below.result c.args.without c.unit_count.result
    c.below.ensures c.unit_count.ensures c.minus-all.ensures in
    let none_missing : IsNever (BreaksS1 g set) =
    λ x b. both_ways (has c.breaking_s1.result x)
    (ap (λ xs. has xs x) (c.is_empty.ensures.0 c.if-is_empty.true))
    ((c.breaking_s1.ensures x).1 b) in
    record {
      meets =
          structure_of g kept set c.reaching-set.ensures c.balanced-kept.ensures.balanced
          (λ u e. known u (c.balanced-kept.ensures.within u e)) none_missing;
      contains = λ u e. absurd (both_ways false refl e);
      avoids =
          λ u e. avoids u
          (c.balanced-kept.ensures.within u (set_within g kept set c.reaching-set.ensures u e));
    }

pub returns-then-is_empty-clause-union : goal.returns-then-is_empty-clause-union
returns-then-is_empty-clause-union c =
    let g = shape c.args.graph.now in
    let kept = has c.balanced-kept.result in
    let set = has c.reaching-set.result in
    let known =
    all_known g c.minus-all.result c.below.result c.args.without c.unit_count.result
    c.below.ensures c.unit_count.ensures c.minus-all.ensures in
    let avoids =
    all_avoids g c.minus-all.result c.below.result c.args.without c.unit_count.result
    c.below.ensures c.unit_count.ensures c.minus-all.ensures in
    let keeps =
    all_keeps g c.minus-all.result c.below.result c.args.without c.unit_count.result
    c.below.ensures c.unit_count.ensures c.minus-all.ensures in
    let none_missing : IsNever (BreaksS1 g set) =
    λ x b. both_ways (has c.breaking_s1.result x)
    (ap (λ xs. has xs x) (c.is_empty.ensures.0 c.if-is_empty.true))
    ((c.breaking_s1.ensures x).1 b) in
    union_of g (has c.args.without) set
    (structure_of g kept set c.reaching-set.ensures c.balanced-kept.ensures.balanced
    (λ u e. known u (c.balanced-kept.ensures.within u e)) none_missing)
    (λ u e. avoids u
    (c.balanced-kept.ensures.within u (set_within g kept set c.reaching-set.ensures u e)))
    (λ m o h a. set_keeps g kept set c.reaching-set.ensures m o h
    (c.balanced-kept.ensures.keeps m o h (keeps m o h a)))

pub returns-else-is_empty-clause-none : goal.returns-else-is_empty-clause-none
returns-else-is_empty-clause-none c =
    let g = shape c.args.graph.now in
    let kept = has c.balanced-kept.result in
    let set = has c.reaching-set.result in
    let keeps =
    all_keeps g c.minus-all.result c.below.result c.args.without c.unit_count.result
    c.below.ensures c.unit_count.ensures c.minus-all.ensures in
    let missing =
    some_number c.breaking_s1.result
    (λ e. both_ways c.is_empty.result c.if-is_empty.false (c.is_empty.ensures.1 e)) in
    none_of g (has c.args.without) set missing.0 ((c.breaking_s1.ensures missing.0).0 missing.1)
    (λ m o h a. set_keeps g kept set c.reaching-set.ensures m o h
    (c.balanced-kept.ensures.keeps m o h (keeps m o h a)))
