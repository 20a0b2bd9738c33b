use Rattle.std.specs.Prelude.{drop}
use Rattle.std.proofs.Common.{List, take, subst, rules}
use Rattle.std.proofs.lemmas.List.Sorted.{IsPartitionPoint-from_clause}
use Rattle.rank_search.proofs.PlaceLemmas.{is_no_dearer, test_is, parted, low_part, high_part}
use Rattle.rank_search.proofs.found.place_for.Goals as goal

pub returns-clause-low : goal.returns-clause-low
returns-clause-low c =
    let w = c.args.network.now in
    let fs = c.args.found.now in
    let point =
    IsPartitionPoint-from_clause (is_no_dearer w) fs c.partition_point.result
    c.partition_point.ensures.partitioned
    (parted w c.is_sized.ensures.sized.positive fs c.requires.rising c.requires.scaled)
    (λ a r q k. (test_is w a.0.now r (search rules), search rules)) in
    low_part w fs c.partition_point.result c.partition_point.ensures.bound point.0

pub returns-clause-high : goal.returns-clause-high
returns-clause-high c =
    let w = c.args.network.now in
    let fs = c.args.found.now in
    let point =
    IsPartitionPoint-from_clause (is_no_dearer w) fs c.partition_point.result
    c.partition_point.ensures.partitioned
    (parted w c.is_sized.ensures.sized.positive fs c.requires.rising c.requires.scaled)
    (λ a r q k. (test_is w a.0.now r (search rules), search rules)) in
    high_part w fs c.partition_point.result point.1
