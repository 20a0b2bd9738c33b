use Rattle.tree_parts.specs.pgraph.View.{node_of}
use Rattle.tree_parts.specs.tree_rules.Claim as claims
use Rattle.headed_search.proofs.LeanLemmas.{lean_outside}
use Rattle.headed_search.proofs.inner.search_capped.Goals as goal

pub returns : goal.returns
returns g c =
    let found = c.in-Some.found in
    lean_outside c.args.site.now c.problem.result.now c.in-Ok.plant c.of-inner.result
    c.problem.ensures.same c.of-inner.ensures c.in-Ok.ensures c.capped_claim.ensures
    c.recharged_is_lean.ensures c.recharged_knows.ensures c.recharged_is_tree.ensures.length
    c.problem.ensures.valid c.is_valid.ensures.valid (node_of c.args.known.now.node)
    (claims.network found.network) found.tree c.in-Ok-recharged.tree c.in-Ok-recharged.ensures
    c.in-Some.ensures
