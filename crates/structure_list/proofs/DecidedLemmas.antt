-- The child of an option.
use Rattle.std.proofs.Common.{◌≡◌, ℕ, Bool, true, false, not, ◌&&◌, ◌||◌, List, refl, ap, ap₂, ◌∙◌}
use Rattle.pgraph.specs.number_sets.Sets.{has, union, minus}
use Rattle.pgraph.proofs.number_sets.Cited.{has-union, has-minus}
use Rattle.pgraph.specs.pns_rules.Shape.{Shape}
use Rattle.pgraph.specs.pns_rules.Nodes as rules
use Rattle.pgraph.proofs.pns_rules.Cited.{same_set}
use Rattle.pgraph.specs.unit_sets.declared.node.Node.{Node}
use Rattle.pgraph.specs.View.{node_of}

abbrev rules_node : (ℕ → Bool) → (ℕ → Bool) → rules.Node
rules_node inside outside = record { inside = inside; outside = outside }

swapped : (a b : Bool) → (a || b) ≡ (b || a)
swapped true true = refl
swapped true false = refl
swapped false true = refl
swapped false false = refl

pub child_is : (g : Shape) (n : Node) (x : ℕ) (set producers rest inside outside : List ℕ)
    → inside ≡ union n.inside set → has producers ≡ (λ u. g.makes u x) → rest ≡ minus producers set
    → outside ≡ union n.outside rest
    → node_of (record { inside = inside; outside = outside }) ≡ rules.child g (node_of n) x set
child_is g n x set producers rest inside outside inside_is producers_are rest_is outside_is =
    ap₂ (λ (a b : ℕ → Bool). rules_node a b)
    (same_set (has inside) (λ u. has set u || has n.inside u) (λ u.
    ap (λ xs. has xs u) inside_is
    ∙ (has-union n.inside set u ∙ swapped (has n.inside u) (has set u))))
    (same_set (has outside) (λ u. (g.makes u x && not (has set u)) || has n.outside u) (λ u.
    ap (λ xs. has xs u) outside_is
    ∙ (has-union n.outside rest u
    ∙ (swapped (has n.outside u) (has rest u)
    ∙ ap (λ b. b || has n.outside u)
    (ap (λ xs. has xs u) rest_is
    ∙ (has-minus producers set u
    ∙ ap (λ b. b && not (has set u)) (ap (λ t. t u) producers_are)))))))
