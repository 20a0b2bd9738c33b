-- The open leaf that has the node of a part, the cheaper network, and open ends.
use Rattle.std.proofs.Common.{◌≡◌, ◌+◌, ◌<◌, ◌≤◌, ◌||◌, ◌*ℤ◌, ◌<ℤ◌, ℕ, zero, suc, Bool, true, false}
use Rattle.std.proofs.Common.{int_lt, if◌then◌else◌, List, [], ◌∷◌, ◌++◌, length, take, get_or}
use Rattle.std.proofs.Common.{refl, sym, ap, ◌∙◌, subst, inl, inr, ◌⊎◌, arith, add-one}
use Rattle.std.proofs.lemmas.Int.{ints}
use Rattle.std.proofs.lemmas.List.{map-append}
use Rattle.std.proofs.Math.Seq.{take-suc, take-length}
use Rattle.tree_text_laws.specs.number_sets.Sets.{has, IsSet}
use Rattle.tree_text_laws.proofs.number_sets.Cited.{same_sets}
use Rattle.tree_text_laws.specs.pns_rules.Nodes as rules
use Rattle.tree_text_laws.specs.unit_sets.declared.node.Node.{Node}
use Rattle.tree_text_laws.specs.pgraph.View.{node_of}
use Rattle.tree_text_laws.specs.tree_rules.Tree.{TreeNode}
use Rattle.tree_text_laws.specs.tree_rules.Leaf.{Leaf}
use Rattle.tree_text_laws.specs.tree_rules.Claim.{Network}
use Rattle.tree_text_laws.specs.tree_rules.Accepted.{Tree}
use Rattle.tree_text_laws.specs.tree_text_rules.OpenLeaves.{OpenAt, IsAmong}
use Rattle.tree_text_laws.specs.tree_text_rules.Graft.{is_open, has_open, cheaper}
use Rattle.cert_check.specs.declared.open_leaf.OpenLeaf.{OpenLeaf}
use Rattle.cert_check.specs.OpenLeaves.{leaf_at, leaves_at}

-- ---- nodes

pub same_nodes : (a b : Node) → a.inside ≡ b.inside → a.outside ≡ b.outside → node_of a ≡ node_of b
same_nodes a b e f = λ i. record { inside = has (e i); outside = has (f i) }

same_lists : (xs ys : List ℕ) → IsSet 128 xs → IsSet 128 ys → has xs ≡ has ys → xs ≡ ys
same_lists xs ys a b e = same_sets xs ys a.rising b.rising (λ u. ap (λ (f : ℕ → Bool). f u) e)

pub nodes_same : (a b : Node) → IsSet 128 a.inside → IsSet 128 a.outside → IsSet 128 b.inside
    → IsSet 128 b.outside → node_of a ≡ node_of b → (a.inside ≡ b.inside) × (a.outside ≡ b.outside)
nodes_same a b ai ao bi bo e = (
  same_lists a.inside b.inside ai bi (ap (λ (n : rules.Node). n.inside) e),
  same_lists a.outside b.outside ao bo (ap (λ (n : rules.Node). n.outside) e),
)

-- ---- leaves

among_here : (leaves : List OpenLeaf) (i : ℕ) (leaf : OpenLeaf) → i < length leaves
    → leaf ≡ get_or leaves i leaf → IsAmong (leaf_at leaf) (leaves_at leaves)
among_here [] i leaf h e = absurd (omega arith)
among_here (l ∷ ls) zero leaf h e = inl (ap leaf_at e)
among_here (l ∷ ls) (suc i) leaf h e = inr (among_here ls i leaf (omega arith) e)

pub leaf_found : (leaves : List OpenLeaf) (start : Node) (i : ℕ) (leaf : OpenLeaf)
    → i < length leaves → leaf ≡ get_or leaves i leaf → node_of leaf.node ≡ node_of start
    → IsAmong (record { number = leaf.number; node = node_of start }) (leaves_at leaves)
leaf_found leaves start i leaf h e same =
    subst
    (λ (n : rules.Node). IsAmong (record { number = leaf.number; node = n }) (leaves_at leaves))
    same (among_here leaves i leaf h e)

-- no leaf before place i has the node
pub record IsNotYet (leaves : List OpenLeaf) (start : Node) (i : ℕ) : Type 0 where
  pub none : (k : ℕ)
      → IsAmong (record { number = k; node = node_of start }) (leaves_at (take i leaves)) → ⊥

pub not_yet : (leaves : List OpenLeaf) (start : Node) → IsNotYet leaves start 0
not_yet leaves start = record { none = λ k h. h }

among_one : (l : OpenAt) (xs ys : List OpenAt) → IsAmong l (xs ++ ys) → IsAmong l xs ⊎ IsAmong l ys
among_one l [] ys h = inr h
among_one l (x ∷ xs) ys (inl e) = inl (inl e)
among_one l (x ∷ xs) ys (inr h) = elim (among_one l xs ys h) [ inl p ↦ inl (inr p) | inr q ↦ inr q ]

pub not_here : (leaves : List OpenLeaf) (start : Node) (i : ℕ) (leaf : OpenLeaf) → i < length leaves
    → leaf ≡ get_or leaves i leaf → (node_of leaf.node ≡ node_of start → ⊥)
    → IsNotYet leaves start i → IsNotYet leaves start (i + 1)
not_here leaves start i leaf h e apart is = record {
  none = λ k a.
      let more : leaves_at (take (i + 1) leaves) ≡ leaves_at (take i leaves) ++ leaf_at leaf ∷ [] =
      ap (λ (j : ℕ). leaves_at (take j leaves)) (add-one i)
      ∙ ap (λ (ls : List OpenLeaf). leaves_at ls) (take-suc leaves i leaf h)
      ∙ ap (λ (l : OpenLeaf). leaves_at (take i leaves ++ l ∷ [])) (sym e)
      ∙ map-append leaf_at (take i leaves) (leaf ∷ []) in
      elim
      (among_one (record { number = k; node = node_of start }) (leaves_at (take i leaves))
      (leaf_at leaf ∷ [])
      (subst (λ (ls : List OpenAt). IsAmong (record { number = k; node = node_of start }) ls)
      more a)) [
        | inl p ↦ is.none k p
        | inr q ↦ elim q [ inl s ↦ apart (ap (λ (o : OpenAt). o.node) (sym s)) | inr r ↦ absurd r ]
      ];
}

pub nowhere : (leaves : List OpenLeaf) (start : Node) (i : ℕ) → length leaves ≤ i
    → i ≤ length leaves → IsNotYet leaves start i → (k : ℕ)
    → IsAmong (record { number = k; node = node_of start }) (leaves_at leaves) → ⊥
nowhere leaves start i low high is k a =
    is.none k
    (subst
    (λ (ls : List OpenLeaf). IsAmong (record { number = k; node = node_of start })
    (leaves_at ls))
    (sym (ap (λ (j : ℕ). take j leaves) (let e : i ≡ length leaves = omega arith in e)
    ∙ take-length leaves)) a)

-- ---- costs

module _ (w v : Network) where
  pub cheaper_yes : (v.cost *ℤ w.d) <ℤ (w.cost *ℤ v.d) → v ≡ cheaper w v
  cheaper_yes h = by (int_lt (v.cost *ℤ w.d) (w.cost *ℤ v.d)) refl
    where
      by : (t : Bool) → int_lt (v.cost *ℤ w.d) (w.cost *ℤ v.d) ≡ t → v ≡ (if t then v else w)
      by true e = refl
      by false e = absurd (omega (arith, ints))

  pub cheaper_no : ((v.cost *ℤ w.d) <ℤ (w.cost *ℤ v.d) → ⊥) → w ≡ cheaper w v
  cheaper_no h = by (int_lt (v.cost *ℤ w.d) (w.cost *ℤ v.d)) refl
    where
      by : (t : Bool) → int_lt (v.cost *ℤ w.d) (w.cost *ℤ v.d) ≡ t → w ≡ (if t then v else w)
      by true e = absurd (h (omega (arith, ints)))
      by false e = refl

-- ---- open ends

or_later : (a b : Bool) → true ≡ b → true ≡ (a || b)
or_later true b e = refl
or_later false b e = e

pub open_at : (ts : Tree) (i : ℕ) (t : TreeNode Leaf) → i < length ts → t ≡ get_or ts i t
    → is_open t.end ≡ true → true ≡ has_open ts
open_at [] i t h e o = absurd (omega arith)
open_at (x ∷ xs) zero t h e o =
    sym (ap (λ (b : Bool). b || has_open xs)
    (ap (λ (y : TreeNode Leaf). is_open y.end) (sym e) ∙ o))
open_at (x ∷ xs) (suc i) t h e o =
    or_later (is_open x.end) (has_open xs) (open_at xs i t (omega arith) e o)

-- no node before place i is open
pub record IsShut (ts : Tree) (i : ℕ) : Type 0 where
  pub shut : has_open (take i ts) ≡ false

pub shut_none : (ts : Tree) → IsShut ts 0
shut_none ts = record { shut = refl }

open-append : (xs ys : Tree) → has_open (xs ++ ys) ≡ (has_open xs || has_open ys)
open-append [] ys = refl
open-append (x ∷ xs) ys = ap (λ (b : Bool). is_open x.end || b) (open-append xs ys)
    ∙ at (is_open x.end)
  where
    at : (b : Bool) → (b || (has_open xs || has_open ys)) ≡ ((b || has_open xs) || has_open ys)
    at true = refl
    at false = refl

pub shut_more : (ts : Tree) (i : ℕ) (t : TreeNode Leaf) → i < length ts → t ≡ get_or ts i t
    → is_open t.end ≡ false → IsShut ts i → IsShut ts (i + 1)
shut_more ts i t h e o is = record {
  shut =
      ap (λ (j : ℕ). has_open (take j ts)) (add-one i)
      ∙ ap (λ (us : Tree). has_open us) (take-suc ts i t h)
      ∙ open-append (take i ts) (get_or ts i t ∷ [])
      ∙ ap (λ (b : Bool). b || (is_open (get_or ts i t).end || false)) is.shut
      ∙ ap (λ (y : TreeNode Leaf). is_open y.end || false) (sym e)
      ∙ ap (λ (b : Bool). b || false) o;
}

pub shut_all : (ts : Tree) (i : ℕ) → length ts ≤ i → i ≤ length ts → IsShut ts i
    → false ≡ has_open ts
shut_all ts i low high is =
    sym (ap (λ (us : Tree). has_open us)
    (sym (ap (λ (j : ℕ). take j ts) (let e : i ≡ length ts = omega arith in e) ∙ take-length ts))
    ∙ is.shut)
