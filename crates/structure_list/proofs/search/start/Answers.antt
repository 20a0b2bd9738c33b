use Rattle.std.proofs.Common.{ap}
use Rattle.std.proofs.lemmas.Bool.{both_ways}
use Rattle.pgraph.specs.number_sets.Sets.{has}
use Rattle.pgraph.specs.pns_rules.Structure.{mats}
use Rattle.pgraph.specs.Tables.{shape}
use Rattle.structure_list.proofs.StartLemmas.{starts, union_of, out_of}
use Rattle.structure_list.proofs.search.start.Goals as goal

pub returns-in_default : goal.returns-in_default
returns-in_default c = λ s h.
    c.in_default.ensures.none (mats (shape c.args.graph.now) s) s h
    (λ u e q. both_ways (has c.empty.result u) (ap (λ xs. has xs u) c.empty.ensures) q)

pub returns : goal.returns
returns c =
    let g = shape c.args.graph.now in
    let p = c.start.result in
    let most = c.in-Some.most in
    starts g c.is_proper.ensures.proper p most c.start.ensures.position c.start.ensures.inside
    (out_of g most p.decided.node.outside c.minus-others.result c.below.result c.unit_count.result
    c.start.ensures.outside c.minus-others.ensures c.below.ensures c.unit_count.ensures)
    (union_of g c.empty.result most c.empty.ensures c.in-Some.ensures.union)
    c.in-Some.ensures.structure.meets c.rises.ensures
