use Rattle.std.proofs.Common.{ap, ◌∙◌, ℕ, List}
use Rattle.structure_list.specs.number_sets.Sets.{has}
use Rattle.structure_list.proofs.number_sets.Cited.{has-union}
use Rattle.structure_list.specs.pgraph.Tables.{shape}
use Rattle.structure_list.specs.pgraph.View.{node_of}
use Rattle.structure_list.specs.pgraph.CoversView.{cover_of}
use Rattle.charges.proofs.CoverLemmas.{covers_then, covers_none}
use Rattle.charges.proofs.cover.covers_node.Goals as goal

pub returns : goal.returns
returns c =
    let g = shape c.args.graph.now in
    let n = node_of c.args.node.now in (
      λ e. covers_then g n (cover_of c.args.cover.now) (has c.with_beside.result)
          (has c.union.result) c.with_beside.ensures
          (λ u. ap (λ (xs : List ℕ). has xs u) c.union.ensures ∙ has-union c.args.node.now.outside
          c.args.cover.now.units u)
          (c.none_between.ensures.0 e),
      λ h. c.none_between.ensures.1
          (covers_none g n (cover_of c.args.cover.now) (has c.with_beside.result)
          (has c.union.result)
          c.with_beside.ensures
          (λ u. ap (λ (xs : List ℕ). has xs u) c.union.ensures ∙ has-union c.args.node.now.outside
          c.args.cover.now.units u) h),
    )
