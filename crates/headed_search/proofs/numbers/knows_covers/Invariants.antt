use Rattle.std.proofs.Common.{drop}
use Rattle.tree_parts.specs.problem_rules.Each.{Each}
use Rattle.tree_parts.specs.tree_rules.Known.{KnowsCover}
use Rattle.tree_parts.specs.pgraph.CoversView.{covers_of}
use Rattle.headed_search.proofs.numbers.knows_covers.Given as goal

-- if the plant knows those that are left, it knows all
abbrev pub invariant-covers : goal.invariant-covers
invariant-covers l = Each (KnowsCover l.fn.site) (drop l.i (covers_of l.fn.covers))
    → Each (KnowsCover l.fn.site) (covers_of l.fn.covers)
