use Rattle.std.proofs.Common.{◌≡◌, ◌∙◌, refl, ap, ◌||◌, List, ℕ, length}
use Rattle.std.specs.Prelude.{nat_lt}
use Rattle.pgraph.specs.number_sets.Sets.{has}
use Rattle.pgraph.proofs.number_sets.Cited.{has-union}
use Rattle.pgraph.specs.Tables.{shape}
use Rattle.pgraph.specs.View.{node_of}
use Rattle.flow_program.proofs.NodeSetLemmas.{units_below, units_listed, rows_listed}
use Rattle.flow_program.proofs.node_sets.sets_of.Goals as goal

pub materials-rows-requires : goal.materials-rows-requires
materials-rows-requires c =
    units_below (shape c.args.graph.now) (node_of c.args.node.now) c.below.result
    c.args.node.now.outside c.minus-units.result c.minus-units.ensures
    (λ u. c.below.ensures u ∙ ap (λ n. nat_lt u n) c.unit_count.ensures) (λ u. refl)

pub returns : goal.returns
returns c =
    let g = shape c.args.graph.now in
    let n = node_of c.args.node.now in
    let all : (u : ℕ) → has c.below.result u ≡ nat_lt u (length c.args.graph.now.inputs.materials) =
    λ u. c.below.ensures u ∙ ap (λ n. nat_lt u n) c.unit_count.ensures in
    record {
      units_are =
          units_listed g n c.below.result c.args.node.now.outside c.minus-units.result
          c.minus-units.ensures all (λ u. refl) c.rises.ensures.rising;
      rows_are =
          rows_listed g n c.below.result c.args.node.now.outside c.minus-units.result
          c.minus-units.ensures all (λ u. refl) c.is_proper.ensures.proper c.materials-rows.result
          c.materials-rows.ensures c.rises-2.ensures.rising;
      needed_are = λ j. ap (λ (xs : List ℕ). has xs j) c.union-needed.ensures
          ∙ has-union c.products.result c.materials.result j
          ∙ (λ i. c.products.ensures i j || c.materials.ensures i j);
    }
