-- Lists of nodes of which one is as H says, and of which at most one is.
use Rattle.std.proofs.Common.{◌⊎◌, List, ℕ, [], ◌∷◌, ◌++◌, map, refl, subst, inl, inr}
use Rattle.tree_rules.specs.number_sets.Options.{IsIn}
use Rattle.tree_rules.specs.pns_rules.Nodes.{Node}

module _ (H : Node → Type 0) where
  abbrev pub OneHolds : List Node → Type 0
  OneHolds [] = ⊥
  OneHolds (n ∷ ns) = H n ⊎ OneHolds ns

  abbrev pub AtMostOne : List Node → Type 0
  AtMostOne [] = Unit {0}
  AtMostOne (n ∷ ns) = (H n → OneHolds ns → ⊥) × AtMostOne ns

  pub left_one : (ns ms : List Node) → OneHolds ns → OneHolds (ns ++ ms)
  left_one [] ms h = absurd h
  left_one (n ∷ ns) ms (inl f) = inl f
  left_one (n ∷ ns) ms (inr h) = inr (left_one ns ms h)

  pub right_one : (ns ms : List Node) → OneHolds ms → OneHolds (ns ++ ms)
  right_one [] ms h = h
  right_one (n ∷ ns) ms h = inr (right_one ns ms h)

  pub split_one : (ns ms : List Node) → OneHolds (ns ++ ms) → OneHolds ns ⊎ OneHolds ms
  split_one [] ms h = inr h
  split_one (n ∷ ns) ms (inl f) = inl (inl f)
  split_one (n ∷ ns) ms (inr h) = elim (split_one ns ms h) [ inl k ↦ inl (inr k) | inr k ↦ inr k ]

  pub join_one : (ns ms : List Node) → AtMostOne ns → AtMostOne ms → (OneHolds ns → OneHolds ms → ⊥)
      → AtMostOne (ns ++ ms)
  join_one [] ms a b h = b
  join_one (n ∷ ns) ms a b h = (
    (λ f k. elim (split_one ns ms k) [ inl l ↦ a.0 f l | inr l ↦ h (inl f) l ]),
    join_one ns ms a.1 b (λ k l. h (inr k) l),
  )

  pub at_option : (f : List ℕ → Node) (t : List ℕ) (ts : List (List ℕ)) → IsIn t ts → H (f t)
      → OneHolds (map f ts)
  at_option f t [] i h = absurd i
  at_option f t (u ∷ us) (inl e) h = inl (subst (λ (w : List ℕ). H (f w)) e h)
  at_option f t (u ∷ us) (inr i) h = inr (at_option f t us i h)

  pub among : (f : List ℕ → Node) (ts : List (List ℕ)) → OneHolds (map f ts) → (t : List ℕ)
      × IsIn t ts × H (f t)
  among f [] h = absurd h
  among f (t ∷ ts) (inl k) = (t, inl refl, k)
  among f (t ∷ ts) (inr h) = let w = among f ts h in (w.0, inr w.1, w.2)
