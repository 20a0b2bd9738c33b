-- The units that a choice decides, and the children that its options give.
use Rattle.std.proofs.Common.{◌≡◌, ℕ, ◌≤◌, Bool, not, ◌&&◌, ◌||◌, List, ap, ◌∙◌, arith}
use Rattle.structure_list.specs.number_sets.Sets.{has, union, minus}
use Rattle.structure_list.proofs.number_sets.Cited.{has-union, has-minus}
use Rattle.structure_list.specs.pns_rules.Shape.{Shape, IsProper}
use Rattle.structure_list.specs.pns_rules.Nodes as rules
use Rattle.structure_list.specs.pgraph.View.{node_of}
use Rattle.structure_list.specs.unit_sets.declared.node.Node.{Node}
use Rattle.search_tree.specs.tree_rules.Ways.{Way, decides, child_at}
use Rattle.node_evaluation.specs.declared.choice.Choice.{Choice}
use Rattle.node_evaluation.specs.declared.choice.Choice.TheVariants as choices
use Rattle.node_evaluation.specs.Choices.{IsChoice}
use Rattle.node_evaluation.specs.Children.{IsKnown}

pub child_is : (g : Shape) (n : Node) (w : Way) (option decided rest inside outside : List ℕ)
    → inside ≡ union option n.inside → has decided ≡ decides g w → rest ≡ minus decided option
    → outside ≡ union rest n.outside
    → node_of (record { inside = inside; outside = outside }) ≡ child_at g (node_of n) w option
child_is g n w option decided rest inside outside inside_is decided_is rest_is outside_is =
    λ k. record { inside = λ u. in_at u k; outside = λ u. out_at u k }
  where
    in_at : (u : ℕ) → has inside u ≡ (has option u || has n.inside u)
    in_at u = ap (λ xs. has xs u) inside_is ∙ has-union option n.inside u

    out_at : (u : ℕ) → has outside u ≡ ((decides g w u && not (has option u)) || has n.outside u)
    out_at u =
        ap (λ xs. has xs u) outside_is
        ∙ (has-union rest n.outside u
        ∙ ap (λ b. b || has n.outside u)
        (ap (λ xs. has xs u) rest_is
        ∙ (has-minus decided option u
        ∙ ap (λ b. b && not (has option u)) (ap (λ (f : ℕ → Bool). f u) decided_is))))

-- a choice has numbers of the graph
pub choice_known : (g : Shape) (n : rules.Node) (c : Choice) → IsProper g → g.units ≤ 128
    → IsChoice g n c → IsKnown g c
choice_known g n (choices.Material x) proper few h = proper.output_known h.0.some.0 x h.0.some.2
choice_known g n (choices.Unit u) proper few h = let k = h.known in omega (arith, k, few)
