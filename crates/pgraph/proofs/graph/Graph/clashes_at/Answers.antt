use Rattle.std.proofs.Common.{◌≤◌, subst, sym}
use Rattle.std.proofs.lemmas.Bool.{leb-true, le-leb}
use Rattle.pgraph.specs.Tables.{shape}
use Rattle.pgraph.proofs.ExclusionLemmas.{clash_from, clash_to}
use Rattle.pgraph.proofs.graph.Graph.clashes_at.Goals as goal

pub returns : goal.returns
returns c =
    let g = shape c.args.self.now in (
      λ e. clash_to g c.args.set c.args.k c.excluded.result c.meet-both.result c.excluded.ensures
          c.meet-both.ensures c.requires c.rises.ensures.rising
          (subst (λ n. 2 ≤ n) c.count.ensures (leb-true 2 c.count.result e)),
      λ h. le-leb 2 c.count.result
          (subst (λ n. 2 ≤ n) (sym c.count.ensures)
          (clash_from g c.args.set c.args.k c.excluded.result c.meet-both.result c.excluded.ensures
          c.meet-both.ensures h)),
    )
