use Rattle.std.proofs.Common.{◌≡◌, ℕ, Bool, sym, ap, subst}
use Rattle.structure_list.specs.number_sets.Sets.{has}
use Rattle.structure_list.specs.pgraph.Tables.{shape}
use Rattle.search_tree.specs.tree_rules.Ways.{decides}
use Rattle.node_evaluation.specs.declared.choice.Choice.{Choice}
use Rattle.node_evaluation.specs.Choices.{way_of}
use Rattle.node_evaluation.proofs.options.decided.Goals as goal

pub returns-in-Material : goal.returns-in-Material
returns-in-Material c =
    subst (λ (m : Choice). has c.producers.result ≡ decides (shape c.args.graph.now) (way_of m))
    (sym c.in-Material.is)
    (λ k v. ap (λ (f : ℕ → Bool). f v) c.producers.ensures k)
