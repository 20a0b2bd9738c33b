use Rattle.std.proofs.Common.{refl, ap, ◌∙◌, ℕ, ◌≡◌, length}
use Rattle.std.specs.Prelude.{nat_lt}
use Rattle.structure_list.specs.number_sets.Sets.{has}
use Rattle.structure_list.specs.pgraph.Tables.{shape}
use Rattle.structure_list.specs.pgraph.View.{node_of}
use Rattle.charges.proofs.FreeLemmas.{has_free, free_had}
use Rattle.charges.proofs.cover.are_free.Goals as goal

pub returns : goal.returns
returns c =
    let g = shape c.args.graph.now in
    let n = node_of c.args.node.now in
    let all : (u : ℕ) → has c.below.result u ≡ nat_lt u (length c.args.graph.now.inputs.materials) =
    λ u. c.below.ensures u ∙ ap (λ n. nat_lt u n) c.unit_count.ensures in (
      λ e. λ u h. has_free g n c.below.result c.args.node.now.inside c.args.node.now.outside
          c.minus.result c.minus-free.result all c.minus.ensures c.minus-free.ensures (λ u. refl)
          (λ u. refl) u (c.within.ensures.0 e u h),
      λ f. c.within.ensures.1
          (λ u h. free_had g n c.below.result c.args.node.now.inside c.args.node.now.outside
          c.minus.result c.minus-free.result all c.minus.ensures c.minus-free.ensures (λ u. refl)
          (λ u. refl) u (f u h)),
    )
