-- Which leaves are open, and which of them is first.
use Rattle.std.proofs.Common.{◌≡◌, ◌==◌, ℕ, true, false, List, [], ◌∷◌, Some, None, ℤ, ◌≤ℤ◌, ◌<ℤ◌}
use Rattle.std.proofs.Common.{refl, sym, ap, ◌∙◌, subst, arith, true≢false}
use Rattle.std.specs.Ordering.{int_cmp}
use Rattle.std.specs.declared.cmp.Ordering.{Ordering}
use Rattle.std.specs.declared.cmp.Ordering.TheVariants.{Less, Equal, Greater}
use Rattle.std.proofs.lemmas.Cmp.{int_ranked}
use Rattle.std.proofs.lemmas.Int.{ints}
use Rattle.node_evaluation.specs.link_lists.Lists.{has, first}
use Rattle.node_evaluation.proofs.link_lists.Cited.{has-here}
use Rattle.node_evaluation.specs.node_pool.Order.{second}
use Rattle.std.proofs.lemmas.Bool.{or_right}
use Rattle.node_evaluation.specs.tree_rules.Tree.{End, branch, leaf}
use Rattle.node_evaluation.specs.tree_rules.Leaf.{Leaf, dead, clash, refuted, bounded, charged}
use Rattle.node_evaluation.specs.tree_rules.Leaf.{untried}
use Rattle.node_evaluation.specs.search_tree.Growth.{is_open, EndsOpen}

pub open_leaf : (e : End Leaf) → is_open e ≡ true → EndsOpen e
open_leaf (branch w) h = absurd (true≢false (sym h))
open_leaf (leaf (dead x)) h = absurd (true≢false (sym h))
open_leaf (leaf (clash k)) h = absurd (true≢false (sym h))
open_leaf (leaf (refuted ys)) h = absurd (true≢false (sym h))
open_leaf (leaf (bounded d ys)) h = absurd (true≢false (sym h))
open_leaf (leaf (charged c)) h = absurd (true≢false (sym h))
open_leaf (leaf (untried low)) h = (low, refl)

pub leaf_open : (e : End Leaf) → EndsOpen e → is_open e ≡ true
leaf_open e h = ap is_open h.1

pub not_untried : (e : End Leaf) → is_open e ≡ false → EndsOpen e → ⊥
not_untried e h k = true≢false (sym (leaf_open e k) ∙ h)

pub not_greater : (x y : ℤ) → (int_cmp x y ≡ Greater → ⊥) → x ≤ℤ y
not_greater x y h = by (int_cmp x y) refl
  where
    by : (r : Ordering) → r ≡ int_cmp x y → x ≤ℤ y
    by Less e = let l : x <ℤ y = int_ranked x y Less e in omega (arith, ints)
    by Equal e = let q : x ≡ y = int_ranked x y Equal e in omega (arith, ints)
    by Greater e = absurd (h (sym e))

-- ---- the first leaf

pub first_has : (xs : List ℕ) (i : ℕ) → first xs ≡ Some i → has xs i ≡ true
first_has [] i h = absurd cc
first_has (x ∷ xs) i h = let q : x ≡ i = cc in subst (λ j. has (x ∷ xs) j ≡ true) q (has_head x xs)
  where
    has_head : (x : ℕ) (xs : List ℕ) → has (x ∷ xs) x ≡ true
    has_head x xs = has-here x xs

pub second_has : (xs : List ℕ) (i : ℕ) → second xs ≡ Some i → has xs i ≡ true
second_has [] i h = absurd (let q : None ≡ Some i = h in cc)
second_has (x ∷ xs) i h = or_right (x == i) (has xs i) (first_has xs i h)

pub none_first : (xs : List ℕ) → first xs ≡ None → (j : ℕ) → has xs j ≡ true → ⊥
none_first [] h j k = true≢false (sym k)
none_first (x ∷ xs) h j k = absurd (let q : Some x ≡ None = h in cc)
