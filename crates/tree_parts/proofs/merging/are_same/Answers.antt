use Rattle.std.proofs.Common.{◌∙◌, sym}
use Rattle.std.proofs.lemmas.Bool.{both_ways}
use Rattle.std.proofs.lemmas.Slice.Eq.{bytes_eq-Decides}
use Rattle.tree_parts.proofs.MergeLemmas.{same_nodes, nodes_same}
use Rattle.tree_parts.proofs.merging.are_same.Goals as goal

pub returns-then-eq : goal.returns-then-eq
returns-then-eq c =
    let a = c.args.a.now in
    let b = c.args.b.now in
    let inside = bytes_eq-Decides a.inside b.inside in
    let outside = bytes_eq-Decides a.outside b.outside in (
      (λ h. same_nodes a b (inside.0 (sym c.eq.ensures ∙ c.if-eq.true))
          (outside.0 (sym c.eq-then-eq.ensures ∙ h))),
      (λ e. let k =
          nodes_same a b c.rises.ensures c.rises-2.ensures c.rises-3.ensures c.rises-4.ensures e in
          c.eq-then-eq.ensures ∙ outside.1 k.1),
    )

pub returns-else-eq : goal.returns-else-eq
returns-else-eq c =
    let a = c.args.a.now in
    let b = c.args.b.now in
    let inside = bytes_eq-Decides a.inside b.inside in (
      (λ h. absurd (both_ways c.eq.result c.if-eq.false h)),
      (λ e. let k =
          nodes_same a b c.rises.ensures c.rises-2.ensures c.rises-3.ensures c.rises-4.ensures e in
          c.eq.ensures ∙ inside.1 k.0),
    )
