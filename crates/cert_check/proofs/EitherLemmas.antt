-- Branching in two at one unit: its options, and the nodes of the two children.
use Rattle.std.proofs.Common.{◌≡◌, ℕ, ◌==◌, Bool, true, false, not, ◌&&◌, ◌||◌, List, [], ◌∷◌}
use Rattle.std.proofs.Common.{length, get_or, refl, sym, ap, ◌∙◌, arith}
use Rattle.tree_text_rules.specs.number_sets.Sets.{has, with_number}
use Rattle.tree_text_rules.proofs.number_sets.Cited.{has-with_number}
use Rattle.tree_text_rules.specs.pns_rules.Shape.{Shape}
use Rattle.tree_text_rules.specs.tree_rules.Ways.{either, child_at}
use Rattle.charges.specs.unit_sets.declared.node.Node.{Node}
use Rattle.charges.specs.pgraph.View.{node_of}

pub two_are : (xs : List (List ℕ)) (a b : List ℕ) → length xs ≡ 2 → a ≡ get_or xs 0 a
    → b ≡ get_or xs 1 b → xs ≡ a ∷ b ∷ []
two_are [] a b e p q = absurd (omega arith)
two_are (x ∷ []) a b e p q = absurd (omega arith)
two_are (x ∷ y ∷ []) a b e p q = ap (λ w. w ∷ y ∷ []) (sym p) ∙ ap (λ w. a ∷ w ∷ []) (sym q)
two_are (x ∷ y ∷ z ∷ zs) a b e p q = absurd (omega arith)

pub second_of : (a b x y : List ℕ) → a ∷ b ∷ [] ≡ x ∷ y ∷ [] → b ≡ y
second_of a b x y e = cc

or_none : (b : Bool) → b ≡ (b || false)
or_none true = refl
or_none false = refl

and_all : (b : Bool) → b ≡ (b && true)
and_all true = refl
and_all false = refl

taken_in : (b o : Bool) → o ≡ ((b && not (b || false)) || o)
taken_in true o = refl
taken_in false o = refl

pub goes_in : (g : Shape) (n : Node) (u : ℕ) (inside : List ℕ) → inside ≡ with_number u n.inside
    → node_of (record { inside = inside; outside = n.outside })
    ≡ child_at g (node_of n) (either u) (u ∷ [])
goes_in g n u inside e =
    λ k. record { inside = λ v. in_at v k; outside = λ v. taken_in (u == v) (has n.outside v) k }
  where
    in_at : (v : ℕ) → has inside v ≡ (has (u ∷ []) v || has n.inside v)
    in_at v = ap (λ xs. has xs v) e
        ∙ (has-with_number u n.inside v ∙ ap (λ b. b || has n.inside v) (or_none (u == v)))

pub goes_out : (g : Shape) (n : Node) (u : ℕ) (outside : List ℕ) → outside ≡ with_number u n.outside
    → node_of (record { inside = n.inside; outside = outside })
    ≡ child_at g (node_of n) (either u) []
goes_out g n u outside e = λ k. record { inside = has n.inside; outside = λ v. out_at v k }
  where
    out_at : (v : ℕ) → has outside v ≡ (((u == v) && true) || has n.outside v)
    out_at v = ap (λ xs. has xs v) e
        ∙ (has-with_number u n.outside v ∙ ap (λ b. b || has n.outside v) (and_all (u == v)))
