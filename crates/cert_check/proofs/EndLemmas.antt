-- The ends of subtrees, and the roots that are found by them.
use Rattle.std.proofs.Common.{◌≡◌, ℕ, zero, suc, ◌+◌, ◌-◌, ◌<◌, ◌≤◌, List, [], ◌∷◌, ◌++◌, length}
use Rattle.std.proofs.Common.{drop, get_or, refl, sym, ap, ◌∙◌, subst, inl, inr, ◌⊎◌, arith}
use Rattle.std.proofs.Common.{append_assoc, set}
use Rattle.std.proofs.lemmas.Bool.{cases_eq}
use Rattle.std.proofs.lemmas.List.{drop_all, get_or-set_same, get_or-set_other}
use Rattle.tree_text_rules.specs.tree_rules.Tree as trees
use Rattle.tree_text_rules.specs.tree_rules.Leaf.{Leaf}
use Rattle.tree_text_rules.specs.tree_rules.Accepted.{Tree}
use Rattle.cert_check.specs.Subtrees.{IsEnd, AreEnds}
use Rattle.cert_check.proofs.WalkLemmas.{skip-add, skip-nil}

-- on the way over some subtrees
pub record IsOver (ts : Tree) (count from left at : ℕ) : Type 0 where
  pub so_far : trees.skip left (drop at ts) ≡ trees.skip count (drop from ts)
  pub within : at ≤ length ts
  pub later : from ≤ at

pub over_step : (ts : Tree) (ends : List ℕ) (count from left at : ℕ) → AreEnds ts ends from
    → IsOver ts count from left at → 0 < left → at < length ts
    → IsOver ts count from (left - 1) (get_or ends at 0)
over_step ts ends count from left at are o some lt =
    let end = are at o.later lt in
    let low : at < get_or ends at 0 = end.later in
    let before : from ≤ at = o.later in
    record {
      so_far = ap (λ (us : Tree). trees.skip (left - 1) us) end.behind
          ∙ sym (skip-add 1 (left - 1) left (drop at ts) (omega arith)) ∙ o.so_far;
      within = end.within;
      later = omega arith;
    }

pub over_end : (ts : Tree) (count from left at : ℕ) → IsOver ts count from left at → (left ≡ 0)
    ⊎ (length ts ≤ at) → drop at ts ≡ trees.skip count (drop from ts)
over_end ts count from left at o (inl e) =
    subst (λ (k : ℕ). trees.skip k (drop at ts) ≡ trees.skip count (drop from ts)) e o.so_far
over_end ts count from left at o (inr le) =
    let none : drop at ts ≡ [] = drop_all at ts le in
    none ∙ sym (skip-nil left) ∙ ap (λ (us : Tree). trees.skip left us) (sym none) ∙ o.so_far

-- the node at i and what follows it
pub node_ahead : {X : Type 0} (xs : List X) (i : ℕ) (x : X) → i < length xs → x ≡ get_or xs i x
    → drop i xs ≡ x ∷ drop (suc i) xs
node_ahead [] i x h e = absurd (omega arith)
node_ahead (y ∷ ys) zero x h e = ap (λ w. w ∷ ys) (sym e)
node_ahead (y ∷ ys) (suc i) x h e = node_ahead ys i x (omega arith) e

skip_children : (t : trees.TreeNode Leaf) (us : Tree)
    → trees.skip 1 (t ∷ us) ≡ trees.skip (trees.children t.end) us
skip_children t us =
    ap (λ (k : ℕ). trees.skip k us) (let e : trees.children t.end + 0 ≡ trees.children t.end =
    omega arith in e)

-- one more end is known, the one of node i
pub ends_more : (ts : Tree) (ends : List ℕ) (i end : ℕ) (t : trees.TreeNode Leaf) → i < length ts
    → length ends ≡ length ts → drop i ts ≡ t ∷ drop (suc i) ts → AreEnds ts ends (suc i)
    → drop end ts ≡ trees.skip (trees.children t.end) (drop (suc i) ts) → end ≤ length ts
    → suc i ≤ end → AreEnds ts (set ends i end) i
ends_more ts ends i end t lt same here are behind within later j low high = elim (cases_eq j i) [
  | inl e ↦ subst (λ (k : ℕ). IsEnd ts k (get_or (set ends i end) k 0)) (sym e)
      (subst (λ (k : ℕ). IsEnd ts i k) (sym (get_or-set_same ends i end 0 (omega arith))) record {
        behind = behind ∙ sym (skip_children t (drop (suc i) ts))
            ∙ ap (λ (us : Tree). trees.skip 1 us) (sym here);
        within = within;
        later = omega arith;
      })
  | inr apart ↦ subst (λ (k : ℕ). IsEnd ts j k) (sym (get_or-set_other ends i j end 0 apart))
      (are j (omega arith) high)
]

-- the roots so far, and those that are left
pub roots_step : (ts : Tree) (ends : List ℕ) (left at : ℕ) (t : trees.TreeNode Leaf)
    (found : List (List ℕ)) → AreEnds ts ends 0 → 0 < left → at < length ts
    → drop at ts ≡ t ∷ drop (suc at) ts
    → (found ++ t.option ∷ []) ++ trees.roots (left - 1) (drop (get_or ends at 0) ts) ≡ found
    ++ trees.roots left (drop at ts)
roots_step ts ends left at t found are some lt here =
    let end = are at (omega arith) lt in
    let next : drop (get_or ends at 0) ts ≡ trees.skip 1 (t ∷ drop (suc at) ts) =
    end.behind ∙ ap (λ (us : Tree). trees.skip 1 us) here in
    let k : left ≡ suc (left - 1) = omega arith in
    append_assoc found (t.option ∷ []) (trees.roots (left - 1) (drop (get_or ends at 0) ts))
    ∙ ap (λ (us : Tree). found ++ (t.option ∷ trees.roots (left - 1) us)) next
    ∙ ap (λ (us : Tree). found ++ trees.roots (suc (left - 1)) us) (sym here)
    ∙ ap (λ (n : ℕ). found ++ trees.roots n (drop at ts)) (sym k)

pub roots_end : (ts : Tree) (left at : ℕ) → (left ≡ 0) ⊎ (length ts ≤ at)
    → trees.roots left (drop at ts) ≡ []
roots_end ts left at (inl e) = ap (λ (k : ℕ). trees.roots k (drop at ts)) e
roots_end ts left at (inr le) = ap (λ (us : Tree). trees.roots left us) (drop_all at ts le)
    ∙ none left
  where
    none : (k : ℕ) → trees.roots {L = Leaf} k [] ≡ []
    none zero = refl
    none (suc k) = refl
