-- The walk: what is still to come finishes the preorder, and weighs less after each visit. Number i
-- weighs 2 ^ (n - i), more than all its children.
use Rattle.std.proofs.Common.{◌≡◌, ℕ, zero, suc, ◌+◌, ◌-◌, ◌*◌, ◌^◌, ◌<◌, ◌≤◌, ◌==◌, Bool, true}
use Rattle.std.proofs.Common.{false, cond, List, [], ◌∷◌, ◌++◌, length, refl, sym, ap, ◌∙◌, subst}
use Rattle.std.proofs.Common.{arith, Some, inl, inr, ◌⊎◌, eqb-true, append_assoc}
use Rattle.std.specs.List.{range_with_len, slice_get}
use Rattle.std.proofs.lemmas.List.{length-map}
use Rattle.std.proofs.lemmas.Nat.{pow_pos}
use Rattle.std.proofs.Math.Pow.{pow_mono}
use Rattle.tree_laws.specs.tree_rules.Ways.{width}
use Rattle.tree_laws.specs.tree_rules.Tree.{End, branch, leaf, HasChildren}
use Rattle.tree_laws.specs.tree_rules.Leaf.{Leaf}
use Rattle.tree_laws.specs.tree_rules.Accepted.{Tree}
use Rattle.tree_laws.proofs.Cited.{double}
use Rattle.search_tree.specs.Cells.{Cell, cell_at, times, numbers_below, children_at, AreBehind}
use Rattle.search_tree.specs.Cells.{IsLinked}
use Rattle.search_tree.specs.Preorder.{IsPreorder, node_at, tree_of, IsTreeIn}
use Rattle.search_tree.proofs.TreeLemmas.{AreThere, there-append, children_there, has_children}
use Rattle.search_tree.proofs.CountLemmas.{one_if, times-append, once, preorder_has_all}

-- ---- weights
abbrev pub load : ℕ → List ℕ → ℕ
load n [] = 0
load n (i ∷ is) = 2 ^ (n - i) + load n is

load-append : (n : ℕ) (is js : List ℕ) → load n (is ++ js) ≡ load n is + load n js
load-append n [] js = omega arith
load-append n (i ∷ is) js = let h = load-append n is js in omega (arith, h)

twice : (n k : ℕ) → k < n → 2 ^ (n - k) ≡ 2 * 2 ^ (n - suc k)
twice n k h = ap (λ (m : ℕ). 2 ^ m) (next n k h) ∙ double (n - suc k)
  where
    next : (n k : ℕ) → k < n → n - k ≡ suc (n - suc k)
    next n k h = omega (arith, h)

same_power : (a b : ℕ) → a ≡ b → 2 ^ a ≡ 2 ^ b
same_power a b e = ap (λ (m : ℕ). 2 ^ m) e

load-range : (n f c : ℕ) → f + c ≤ n
    → load n (range_with_len f c) + 2 * 2 ^ (n - (f + c)) ≤ 2 * 2 ^ (n - f)
load-range n f zero h = let e = same_power (n - (f + 0)) (n - f) (omega arith) in omega (arith, e)
load-range n f (suc c) h =
    let ih = load-range n (f + 1) c (omega (arith, h)) in
    let t = twice n f (omega (arith, h)) in
    let e = same_power (n - (f + 1 + c)) (n - (f + suc c)) (omega (arith, h)) in
    let d = same_power (n - (f + 1)) (n - suc f) (omega (arith, h)) in
    omega (arith, ih, t, e, d)

load_below : (n i f : ℕ) (e : End Leaf) → AreBehind n i f e → i < n
    → load n (numbers_below f e) < 2 ^ (n - i)
load_below n i f (leaf l) h lt = pow_pos (n - i)
load_below n i f (branch w) h lt =
    let c : ℕ = width w in
    let a = load-range n f c h.2 in
    let t = twice n i lt in
    let m : 2 ^ (n - f) ≤ 2 ^ (n - suc i) =
    pow_mono {i = n - f} {j = n - suc i} (let b = h.1 in omega (arith, b)) in
    let p : 0 < 2 ^ (n - (f + c)) = pow_pos (n - (f + c)) in
    omega (arith, a, t, m, p)

pub load_falls : (cells : List Cell) → IsLinked cells → (i : ℕ) (is : List ℕ) → i < length cells
    → load (length cells) (children_at cells i ++ is) < load (length cells) (i ∷ is)
load_falls cells linked i is lt =
    let a = load-append (length cells) (children_at cells i) is in
    let b =
    load_below (length cells) i (cell_at cells i).first (cell_at cells i).end
    (linked.behind i lt) lt in
    omega (arith, a, b)

pub children_some : (cells : List Cell) → IsLinked cells → (i : ℕ) → i < length cells
    → HasChildren (cell_at cells i).end
children_some cells linked i lt =
    has_children (length cells) i (cell_at cells i).first (cell_at cells i).end (linked.behind i lt)

-- ---- places
get-seam : (xs : List ℕ) (x : ℕ) (ys : List ℕ) → slice_get (xs ++ x ∷ ys) (length xs) ≡ Some x
get-seam [] x ys = refl
get-seam (w ∷ ws) x ys = get-seam ws x ys

get-append : (xs ys : List ℕ) (k x : ℕ) → slice_get xs k ≡ Some x → slice_get (xs ++ ys) k ≡ Some x
get-append [] ys k x h = cc
get-append (w ∷ ws) ys zero x h = h
get-append (w ∷ ws) ys (suc k) x h = get-append ws ys k x h

get-within : (xs : List ℕ) (k x : ℕ) → slice_get xs k ≡ Some x → k < length xs
get-within [] k x h = cc
get-within (w ∷ ws) zero x h = omega arith
get-within (w ∷ ws) (suc k) x h = let r = get-within ws k x h in omega (arith, r)

-- ---- the invariant
pub record IsWalk (cells : List Cell) (wanted : ℕ) (waiting order : List ℕ) (nodes : Tree)
    (place : ℕ) : Type 0 where
  pub nodes_are : nodes ≡ tree_of cells order
  pub there : AreThere cells waiting
  pub finishes : (rest : List ℕ) → IsPreorder cells waiting rest
      → IsPreorder cells (0 ∷ []) (order ++ rest)
  pub seen : (slice_get order place ≡ Some wanted) ⊎ (times wanted order ≡ 0)

pub walk_starts : (cells : List Cell) → IsLinked cells → (wanted : ℕ)
    → IsWalk cells wanted (0 ∷ []) [] [] 0
walk_starts cells linked wanted =
    record { nodes_are = refl; there = (linked.some, tt); finishes = λ rest h. h; seen = inr refl }

tree_of-push : (cells : List Cell) (order : List ℕ) (i : ℕ)
    → tree_of cells (order ++ i ∷ []) ≡ tree_of cells order ++ node_at cells i ∷ []
tree_of-push cells [] i = refl
tree_of-push cells (k ∷ ks) i = ap (λ ts. node_at cells k ∷ ts) (tree_of-push cells ks i)

pub walk_goes_on : (cells : List Cell) → IsLinked cells
    → (wanted i : ℕ) (is order : List ℕ) (nodes : Tree) (place : ℕ)
    → IsWalk cells wanted (i ∷ is) order nodes place
    → IsWalk cells wanted (children_at cells i ++ is) (order ++ i ∷ [])
    (nodes ++ node_at cells i ∷ []) (cond (i == wanted) (length nodes) place)
walk_goes_on cells linked wanted i is order nodes place w = record {
  nodes_are = ap (λ (ts : Tree). ts ++ node_at cells i ∷ []) w.nodes_are
      ∙ sym (tree_of-push cells order i);
  there =
      there-append cells (children_at cells i) is (children_there cells linked i w.there.0)
      w.there.1;
  finishes =
      λ rest h. subst (λ xs. IsPreorder cells (0 ∷ []) xs) (sym (append_assoc order (i ∷ []) rest))
      (w.finishes (i ∷ rest) (refl, h));
  seen = at (i == wanted) refl w.seen;
}
  where
    count : length nodes ≡ length order
    count = ap (λ (ts : Tree). length ts) w.nodes_are ∙ length-map order (node_at cells)

    at : (b : Bool) → (i == wanted) ≡ b → (slice_get order place ≡ Some wanted)
        ⊎ (times wanted order ≡ 0)
        → (slice_get (order ++ i ∷ []) (cond b (length nodes) place) ≡ Some wanted)
        ⊎ (times wanted (order ++ i ∷ []) ≡ 0)
    at true e s =
        inl (ap (λ k. slice_get (order ++ i ∷ []) k) count
        ∙ (get-seam order i [] ∙ ap Some (eqb-true i wanted e)))
    at false e (inl s) = inl (get-append order (i ∷ []) place wanted s)
    at false e (inr none) =
        let a = times-append wanted order (i ∷ []) in
        let b : one_if (i == wanted) ≡ 0 = ap one_if e in
        inr (omega (arith, a, b, none))

pub walk_ends : (cells : List Cell) → IsLinked cells → (wanted : ℕ) → wanted < length cells
    → (order : List ℕ) (nodes : Tree) (place : ℕ) → IsWalk cells wanted [] order nodes place
    → IsTreeIn cells wanted order nodes place × (place < length cells)
walk_ends cells linked wanted lt order nodes place w =
    let s = at w.seen in (
      record { is_preorder = preorder; nodes_are = w.nodes_are; stands = s },
      (let a = get-within order place wanted s in let b =
          preorder_has_all cells order linked preorder in omega (arith, a, b)),
    )
  where
    none : (xs : List ℕ) → xs ++ [] ≡ xs
    none [] = refl
    none (x ∷ xs) = ap (λ ys. x ∷ ys) (none xs)

    preorder : IsPreorder cells (0 ∷ []) order
    preorder = subst (λ xs. IsPreorder cells (0 ∷ []) xs) (none order) (w.finishes [] tt)

    at : (slice_get order place ≡ Some wanted) ⊎ (times wanted order ≡ 0)
        → slice_get order place ≡ Some wanted
    at (inl s) = s
    at (inr gone) =
        absurd (let one = once cells linked order preorder (suc wanted) wanted (omega arith) lt in
        omega (arith, one, gone))
