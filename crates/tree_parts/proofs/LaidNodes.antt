-- Nodes that are laid back, the last first, and parts that are put in the places of their leaves.
use Rattle.std.proofs.Common.{◌≡◌, ◌+◌, ◌<◌, ◌≤◌, ℕ, zero, suc, List, [], ◌∷◌, ◌++◌, length}
use Rattle.std.proofs.Common.{reverse, take, drop, get_or, refl, sym, ap, ◌∙◌, subst, arith}
use Rattle.std.proofs.Common.{length-append, append_assoc, add-one, take-append-drop}
use Rattle.std.proofs.lemmas.List.{append-nil, reverse-append, map-append}
use Rattle.tree_text_laws.specs.tree_rules.Tree.{TreeNode}
use Rattle.tree_text_laws.specs.tree_rules.Leaf.{Leaf}
use Rattle.tree_text_laws.specs.tree_rules.Accepted.{Tree}
use Rattle.tree_text_laws.specs.tree_text_rules.Graft.{grafted, graft_at}
use Rattle.tree_parts.specs.Splices.{Splice, spliced, AllBelow, AllAbove, AreRising, ArePut}
use Rattle.tree_text_laws.specs.problem_rules.Problem.{Problem}
use Rattle.tree_text_laws.specs.pns_rules.Shape.{shape_of}
use Rattle.tree_text_laws.specs.pns_rules.Nodes.{Node}
use Rattle.tree_text_laws.specs.tree_text_rules.OpenLeaves.{OpenAt, IsAmong}
use Rattle.tree_text_laws.specs.tree_text_rules.Part as parts
use Rattle.tree_text_laws.specs.tree_text_rules.Part.{start_of}
use Rattle.tree_parts.specs.Waiting.{AreWithin, splice_of, splices_of, IsOneMore}
use Rattle.tree_parts.proofs.GraftLists.{stands_below, some_nodes}
use Rattle.tree_parts.specs.declared.waiting.Waiting.{Waiting}

-- a node goes from the end of the one list to the other
pub one_back : (xs ys zs : Tree) (x : TreeNode Leaf) → zs ≡ ys ++ x ∷ []
    → xs ++ reverse zs ≡ (xs ++ x ∷ []) ++ reverse ys
one_back xs ys zs x e =
    ap (λ (us : Tree). xs ++ reverse us) e
    ∙ ap (λ (us : Tree). xs ++ us) (reverse-append ys (x ∷ []))
    ∙ sym (append_assoc xs (x ∷ []) (reverse ys))

-- of these nodes, `keep` and more are not laid back yet
pub record IsLaid (all : Tree) (keep : ℕ) (nodes back : Tree) : Type 0 where
  pub is : nodes ++ reverse back ≡ all
  pub enough : keep ≤ length nodes

pub none_laid : (keep : ℕ) (nodes back : Tree) → keep ≤ length nodes
    → IsLaid (nodes ++ reverse back) keep nodes back
none_laid keep nodes back h = record { is = refl; enough = h }

pub laid_is : (all : Tree) (keep : ℕ) (nodes back : Tree) → IsLaid all keep nodes back
    → nodes ++ reverse back ≡ all
laid_is all keep nodes back h = h.is

pub laid_kept : (all : Tree) (keep : ℕ) (nodes back : Tree) → length nodes ≤ keep
    → IsLaid all keep nodes back → length nodes ≡ keep
laid_kept all keep nodes back less h = let a = h.enough in omega (arith, a, less)

pub one_laid : (all : Tree) (keep : ℕ) (nodes nodes2 back back2 : Tree) (x : TreeNode Leaf)
    → nodes ≡ nodes2 ++ x ∷ [] → keep < length nodes → back2 ≡ back ++ x ∷ []
    → IsLaid all keep nodes back → IsLaid all keep nodes2 back2
one_laid all keep nodes nodes2 back back2 x pop less push h = record {
  is = one_back nodes2 back back2 x push ∙ ap (λ (us : Tree). us ++ reverse back) (sym pop) ∙ h.is;
  enough = let a = length-append nodes2 (x ∷ []) in let b =
      ap (λ (us : Tree). length us) pop in omega (arith, a, b, less);
}

-- the nodes that are left follow, the last first
pub record IsGiven (all nodes left : Tree) : Type 0 where
  pub is : nodes ++ reverse left ≡ all

pub none_given : (nodes left : Tree) → IsGiven (nodes ++ reverse left) nodes left
none_given nodes left = record { is = refl }

pub all_given : (all nodes left : Tree) → left ≡ [] → IsGiven all nodes left → nodes ≡ all
all_given all nodes left e h = sym (append-nil nodes)
    ∙ ap (λ (us : Tree). nodes ++ reverse us) (sym e) ∙ h.is

pub one_given : (all nodes nodes2 left left2 : Tree) (x : TreeNode Leaf) → left ≡ left2 ++ x ∷ []
    → nodes2 ≡ nodes ++ x ∷ [] → IsGiven all nodes left → IsGiven all nodes2 left2
one_given all nodes nodes2 left left2 x pop push h = record {
  is = ap (λ (us : Tree). us ++ reverse left2) push ∙ sym (one_back nodes left2 left x pop) ∙ h.is;
}

-- ---- a part at the end of the nodes

graft_joint : (xs ys : Tree) (t r : TreeNode Leaf) (rs : Tree) (k : ℕ) → length xs ≡ k
    → graft_at k (xs ++ t ∷ ys) (r ∷ rs) ≡ xs ++ grafted t r ∷ (rs ++ ys)
graft_joint [] ys t r rs zero e = refl
graft_joint [] ys t r rs (suc k) e = absurd (omega arith)
graft_joint (x ∷ xs) ys t r rs zero e = absurd (omega arith)
graft_joint (x ∷ xs) ys t r rs (suc k) e =
    ap (λ (us : Tree). x ∷ us) (graft_joint xs ys t r rs k (omega arith))

none_left : (xs : Tree) → length xs ≡ 0 → xs ≡ []
none_left [] e = refl
none_left (x ∷ xs) e = absurd (omega arith)

-- The nodes after the place are laid back, then those of the part after its root, and then the
-- joined node.
pub part_is_in : (k : ℕ) (nodes back nodes1 back1 other rest back2 nodes2 rest2 back3 : Tree)
    (t r joined : TreeNode Leaf) → 0 < length other
    → nodes1 ++ reverse back1 ≡ nodes ++ reverse back → length nodes1 ≡ k + 1
    → rest ++ reverse back2 ≡ other ++ reverse back1 → length rest ≡ 1
    → nodes1 ≡ nodes2 ++ t ∷ [] → rest ≡ rest2 ++ r ∷ [] → joined ≡ grafted t r
    → back3 ≡ back2 ++ joined ∷ []
    → nodes2 ++ reverse back3 ≡ graft_at k (nodes ++ reverse back) other
part_is_in k nodes back nodes1 back1 [] rest back2 nodes2 rest2 back3 t r joined some laid kept
    moved one pop root is push = absurd (omega arith)
part_is_in k nodes back nodes1 back1 (o ∷ os) rest back2 nodes2 rest2 back3 t r joined some laid
    kept moved one pop root is push =
    let none : rest2 ≡ [] =
    none_left rest2 (let a = length-append rest2 (r ∷ []) in let b =
    ap (λ (us : Tree). length us) root in omega (arith, a, b, one)) in
    let line : r ∷ reverse back2 ≡ o ∷ (os ++ reverse back1) =
    ap (λ (us : Tree). (us ++ r ∷ []) ++ reverse back2) (sym none)
    ∙ ap (λ (us : Tree). us ++ reverse back2) (sym root) ∙ moved in
    let same : r ≡ o = ap (λ (us : Tree). get_or us 0 r) line in
    let behind : reverse back2 ≡ os ++ reverse back1 = ap (λ (us : Tree). drop 1 us) line in
    let long : length nodes2 ≡ k =
    (let a = length-append nodes2 (t ∷ []) in let b =
    ap (λ (us : Tree). length us) pop in omega (arith, a, b, kept)) in
    ap (λ (us : Tree). nodes2 ++ reverse us) push
    ∙ ap (λ (us : Tree). nodes2 ++ us) (reverse-append back2 (joined ∷ []))
    ∙ ap (λ (j : TreeNode Leaf). nodes2 ++ j ∷ reverse back2)
    (is ∙ ap (λ (o1 : TreeNode Leaf). grafted t o1) same)
    ∙ ap (λ (us : Tree). nodes2 ++ grafted t o ∷ us) behind
    ∙ sym (graft_joint nodes2 (reverse back1) t o os k long)
    ∙ ap (λ (us : Tree). graft_at k us (o ∷ os))
    (sym (append_assoc nodes2 (t ∷ []) (reverse back1))
    ∙ ap (λ (us : Tree). us ++ reverse back1) (sym pop) ∙ laid)

pub part_kept : (k : ℕ) (nodes1 nodes2 : Tree) (t : TreeNode Leaf) → length nodes1 ≡ k + 1
    → nodes1 ≡ nodes2 ++ t ∷ [] → length nodes2 ≡ k
part_kept k nodes1 nodes2 t kept pop = let a = length-append nodes2 (t ∷ []) in let b =
    ap (λ (us : Tree). length us) pop in omega (arith, a, b, kept)

-- ---- all parts, from the last on

pub record IsSplicing (all : List Splice) (tree nodes back : Tree) (left : List Splice) : Type
    0 where
  pub done : List Splice
  pub all_is : all ≡ left ++ done
  pub is : nodes ++ reverse back ≡ spliced done tree
  pub within : AreWithin (length nodes) left

pub none_spliced : (all : List Splice) (tree : Tree) → AreWithin (length tree) all
    → IsSplicing all tree tree [] all
none_spliced all tree h =
    record { done = []; all_is = sym (append-nil all); is = append-nil tree; within = h }

pub all_spliced : (all : List Splice) (tree nodes back : Tree) (left : List Splice) → left ≡ []
    → IsSplicing all tree nodes back left → nodes ++ reverse back ≡ spliced all tree
all_spliced all tree nodes back left e h =
    h.is ∙ ap (λ (ss : List Splice). spliced ss tree)
    (ap (λ (ss : List Splice). ss ++ h.done) (sym e) ∙ sym h.all_is)

pub last_within : (n : ℕ) (left : List Splice) (s : Splice) → AreWithin n (left ++ s ∷ [])
    → (s.place < n) × (0 < length s.part)
last_within n [] s h = (h.0, h.1)
last_within n (l ∷ ls) s h = last_within n ls s h.2

above_last : (k : ℕ) (left done : List Splice) (s : Splice) → AllAbove k (left ++ s ∷ done)
    → k < s.place
above_last k [] done s h = h.0
above_last k (l ∷ ls) done s h = above_last k ls done s h.1

others_within : (n : ℕ) (left done : List Splice) (s : Splice) → AreRising (left ++ s ∷ done)
    → AreWithin n (left ++ s ∷ []) → AreWithin s.place left
others_within n [] done s rising h = tt
others_within n (l ∷ ls) done s rising h =
    (above_last l.place ls done s rising.0, h.1, others_within n ls done s rising.1 h.2)

pub one_spliced : (all : List Splice) (tree nodes back nodes2 back2 : Tree) (left : List Splice)
    (s : Splice) → AreRising all → IsSplicing all tree nodes back (left ++ s ∷ [])
    → nodes2 ++ reverse back2 ≡ graft_at s.place (nodes ++ reverse back) s.part
    → length nodes2 ≡ s.place → IsSplicing all tree nodes2 back2 left
one_spliced all tree nodes back nodes2 back2 left s rising h e long =
    let all_is : all ≡ left ++ s ∷ h.done = h.all_is ∙ append_assoc left (s ∷ []) h.done in
    record {
      done = s ∷ h.done;
      all_is = all_is;
      is = e ∙ ap (λ (us : Tree). graft_at s.place us s.part) h.is;
      within =
          subst (λ (n : ℕ). AreWithin n left) (sym long)
          (others_within (length nodes) left h.done s (subst AreRising all_is rising) h.within);
    }

-- ---- parts as they wait

pub splices-push : (ws : List Waiting) (w : Waiting)
    → splices_of (ws ++ w ∷ []) ≡ splices_of ws ++ splice_of w ∷ []
splices-push ws w = map-append splice_of ws (w ∷ [])

pub splices-insert : (ws : List Waiting) (w : Waiting) (i : ℕ)
    → splices_of (take i ws ++ w ∷ drop i ws) ≡ take i (splices_of ws) ++ splice_of w
    ∷ drop i (splices_of ws)
splices-insert [] w zero = refl
splices-insert [] w (suc i) = refl
splices-insert (x ∷ xs) w zero = refl
splices-insert (x ∷ xs) w (suc i) =
    ap (λ (ss : List Splice). splice_of x ∷ ss) (splices-insert xs w i)

pub one_more : (leaves : List OpenAt) (part : parts.Part) (ws new : List Waiting) (w : Waiting)
    (i : ℕ) → IsAmong (record { number = w.place; node = start_of part }) leaves
    → AllBelow w.place (take i (splices_of ws))
    → AllAbove w.place (drop i (splices_of ws)) → w.nodes.items ≡ part.tree
    → new ≡ take i ws ++ w ∷ drop i ws → IsOneMore leaves part (splices_of ws) (splices_of new)
one_more leaves part ws new w i among low high tree is = record {
  place = w.place;
  front = take i (splices_of ws);
  back = drop i (splices_of ws);
  leaf_is = among;
  low = low;
  high = high;
  old_is = sym (take-append-drop i (splices_of ws));
  new_is =
      ap (λ (us : List Waiting). splices_of us) is
      ∙ splices-insert ws w i
      ∙ ap (λ (us : Tree). take i (splices_of ws) ++ record { place = w.place; part = us }
      ∷ drop i (splices_of ws)) tree;
}

-- ---- the place of a part

below_suc : (k : ℕ) (ws : List Waiting) (i : ℕ) (w : Waiting) → i < length ws → w ≡ get_or ws i w
    → w.place < k → AllBelow k (take i (splices_of ws)) → AllBelow k (take (suc i) (splices_of ws))
below_suc k [] i w lt e less h = absurd (omega arith)
below_suc k (x ∷ xs) zero w lt e less h = (subst (λ (y : Waiting). y.place < k) e less, tt)
below_suc k (x ∷ xs) (suc i) w lt e less h = (h.0, below_suc k xs i w (omega arith) e less h.1)

pub below_more : (k : ℕ) (ws : List Waiting) (i : ℕ) (w : Waiting) → i < length ws
    → w ≡ get_or ws i w → w.place < k → AllBelow k (take i (splices_of ws))
    → AllBelow k (take (i + 1) (splices_of ws))
below_more k ws i w lt e less h =
    subst (λ (j : ℕ). AllBelow k (take j (splices_of ws))) (sym (add-one i))
    (below_suc k ws i w lt e less h)

above_less : (k j : ℕ) (ss : List Splice) → k < j → AllAbove j ss → AllAbove k ss
above_less k j [] lt h = tt
above_less k j (s ∷ ss) lt h = ((let a = h.0 in omega (arith, a, lt)), above_less k j ss lt h.1)

pub above_from : (k : ℕ) (ws : List Waiting) (i : ℕ) (w : Waiting) → AreRising (splices_of ws)
    → i < length ws → w ≡ get_or ws i w → k < w.place → AllAbove k (drop i (splices_of ws))
above_from k [] i w rising lt e less = absurd (omega arith)
above_from k (x ∷ xs) zero w rising lt e less =
    let here : k < x.place = subst (λ (y : Waiting). k < y.place) e less in
    (here, above_less k x.place (splices_of xs) here rising.0)
above_from k (x ∷ xs) (suc i) w rising lt e less = above_from k xs i w rising.1 (omega arith) e less

pub above_none : (k : ℕ) (ws : List Waiting) (i : ℕ) → i ≡ length ws
    → AllAbove k (drop i (splices_of ws))
above_none k [] zero e = tt
above_none k [] (suc i) e = tt
above_none k (x ∷ xs) zero e = absurd (omega arith)
above_none k (x ∷ xs) (suc i) e = above_none k xs i (omega arith)

-- ---- parts that wait are within the tree

pub put_within : (p : Problem) (start : Node) (tree : Tree) (ss : List Splice)
    → ArePut p start tree ss → AreWithin (length tree) ss
put_within p start tree [] h = tt
put_within p start tree (s ∷ ss) h = (
  stands_below (shape_of p) (start ∷ []) tree s.place h.0.node h.0.stands,
  some_nodes s.part h.0.whole,
  put_within p start tree ss h.1,
)
