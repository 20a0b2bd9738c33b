use Rattle.std.proofs.Common.{◌≤◌, ◌<◌, ℕ, subst, sym}
use Rattle.std.proofs.lemmas.Bool.{leb-true, le-leb}
use Rattle.charges.specs.pgraph.Tables.{shape}
use Rattle.charges.proofs.pgraph.Cited.{clash_from, clash_to}
use Rattle.cert_check.proofs.leaves.clashes.Goals as goal

pub returns : goal.returns
returns c =
    let g = shape c.args.graph.now in
    let known : c.args.k < g.exclusions =
    subst (λ (n : ℕ). c.args.k < n) c.exclusion_count.ensures c.if-k-exclusion_count.false in (
      λ e. clash_to g c.args.node.now.inside c.args.k c.excluded.result c.meet-both.result
          c.excluded.ensures c.meet-both.ensures known c.rises.ensures.rising
          (subst (λ (n : ℕ). 2 ≤ n) c.count.ensures (leb-true 2 c.count.result e)),
      λ h. le-leb 2 c.count.result
          (subst (λ (n : ℕ). 2 ≤ n) (sym c.count.ensures)
          (clash_from g c.args.node.now.inside c.args.k c.excluded.result c.meet-both.result
          c.excluded.ensures c.meet-both.ensures h)),
    )
