-- A tree with open leaves in the place of all, and the refuted leaves of a tree that is accepted.
use Rattle.std.proofs.Common.{◌≡◌, ℕ, zero, suc, ◌+◌, true, false, None, Some, List, [], ◌∷◌, ◌++◌}
use Rattle.std.proofs.Common.{map, take, drop, refl, sym, ap, subst, ◌∙◌, append-nil, append_assoc}
use Rattle.std.proofs.Common.{add-one, get_or, length, ◌<◌, ◌≤◌}
use Rattle.std.specs.Prelude.{slice_get, flat_map, Option}
use Rattle.std.specs.List.{AllByRecursion}
use Rattle.std.proofs.lemmas.Grind.{flat_map-append}
use Rattle.std.proofs.lemmas.List.{drop_more, drop_all}
use Rattle.text_lines.specs.problem_rules.Problem.{Problem}
use Rattle.cert_check.specs.pns_rules.Shape.{Shape, shape_of}
use Rattle.cert_check.specs.pns_rules.Nodes.{Node}
use Rattle.cert_check.specs.tree_rules.Tree.{End, branch, leaf, TreeNode, children, HasChildren}
use Rattle.cert_check.specs.tree_rules.Tree.{IsForest}
use Rattle.cert_check.specs.tree_rules.Tree.{IsTree, after_all, EndPasses, below, Pass}
use Rattle.cert_check.specs.tree_rules.Claim.{CostOver}
use Rattle.cert_check.specs.tree_rules.Leaf.{Leaf, dead, clash, refuted, bounded, charged, untried}
use Rattle.cert_check.specs.tree_rules.Leaf.{LeafPasses}
use Rattle.cert_check.specs.tree_rules.Accepted.{Tree}
use Rattle.cert_check.specs.tree_text_rules.OpenLeaves.{OpenAt, open_here, open_leaves}
use Rattle.report_amounts.specs.report_rules.Clash.{RefutedAt, refuted_here, refuted_leaves}
use Rattle.cert_check.specs.Known.{KnowsInside}
use Rattle.cert_check.specs.declared.open_leaf.OpenLeaf.{OpenLeaf}
use Rattle.cert_check.specs.OpenLeaves.{leaf_at, leaves_at}
use Rattle.cert_check.specs.Subtrees.{AllKnown}
use Rattle.cert_check.proofs.Cited.{known_after_all, known_below, known_both}
use Rattle.report_tables.specs.Opened.{opened_end, opened_node, ends_refuted, ys_of, is_refuted}
use Rattle.report_tables.specs.Opened.{ys_in, refuted_in, refuted_at, leaf_in}
use Rattle.report_tables.specs.View.{leaf_of, leaves_of, IsGood}

-- ---- the copy is one whole tree

same_children : (e : End Leaf) → children e ≡ children (opened_end e)
same_children (branch w) = refl
same_children (leaf l) = refl

has_children : (e : End Leaf) → HasChildren e → HasChildren (opened_end e)
has_children (branch w) h = h
has_children (leaf l) h = tt

forest_opened : (k : ℕ) (ts : Tree) → IsForest k ts → IsForest k (map opened_node ts)
forest_opened zero [] h = h
forest_opened zero (t ∷ ts) h = absurd h
forest_opened (suc k) [] h = absurd h
forest_opened (suc k) (t ∷ ts) h = (
  has_children t.end h.0,
  subst (λ (c : ℕ). IsForest (c + k) (map opened_node ts)) (same_children t.end)
      (forest_opened (children t.end + k) ts h.1),
)

pub tree_opened : (ts : Tree) → IsTree ts → IsTree (map opened_node ts)
tree_opened [] h = absurd h
tree_opened (t ∷ ts) h = (h.0, forest_opened 1 (t ∷ ts) h.1)

-- ---- its leaves

got : (all : Tree) (k : ℕ) (t : TreeNode Leaf) (ts : Tree) → drop k all ≡ t ∷ ts
    → slice_get all k ≡ Some t
got [] zero t ts e = cc
got [] (suc k) t ts e = cc
got (x ∷ xs) zero t ts e = cc
got (x ∷ xs) (suc k) t ts e = got xs k t ts e

behind : (all : Tree) (k : ℕ) (t : TreeNode Leaf) (ts : Tree) → drop k all ≡ t ∷ ts
    → drop (suc k) all ≡ ts
behind [] zero t ts e = cc
behind [] (suc k) t ts e = cc
behind (x ∷ xs) zero t ts e = cc
behind (x ∷ xs) (suc k) t ts e = behind xs k t ts e

one_leaf : (all : Tree) (k : ℕ) (m : Node) (e : End Leaf)
    → refuted_at all (record { number = k; node = m }) ≡ refuted_here k m e
    → flat_map (refuted_at all) (open_here k m (opened_end e)) ≡ refuted_here k m e
one_leaf all k m (branch w) h = refl
one_leaf all k m (leaf l) h = append-nil (refuted_at all (record { number = k; node = m })) ∙ h

same_below : (g : Shape) (m : Node) (e : End Leaf) → below g m (opened_end e) ≡ below g m e
same_below g m (branch w) = refl
same_below g m (leaf l) = refl

-- at the leaves of the copy are the refuted leaves of the tree
pub refuted_are : (g : Shape) (ns : List Node) (ts all : Tree) (k : ℕ) → drop k all ≡ ts
    → flat_map (refuted_at all) (open_leaves g ns (map opened_node ts) k) ≡ refuted_leaves g ns ts k
refuted_are g [] ts all k e = refl
refuted_are g (n ∷ ns) [] all k e = refl
refuted_are g (n ∷ ns) (t ∷ ts) all k e =
    let m : Node = after_all g n t.steps in
    let here = open_here k m (opened_end t.end) in
    let there : refuted_at all (record { number = k; node = m }) ≡ refuted_here k m t.end =
    ap (λ (o : Option (TreeNode Leaf)). refuted_in (record { number = k; node = m }) o)
    (got all k t ts e) in
    flat_map-append (refuted_at all) here
    (open_leaves g (below g m (opened_end t.end) ++ ns) (map opened_node ts) (k + 1))
    ∙ (λ i. one_leaf all k m t.end there i
    ++ flat_map (refuted_at all)
    (open_leaves g (same_below g m t.end i ++ ns) (map opened_node ts) (k + 1)))
    ∙ ap (λ (ls : List RefutedAt). refuted_here k m t.end ++ ls)
    (refuted_are g (below g m t.end ++ ns) ts all (k + 1)
    (ap (λ (j : ℕ). drop j all) (add-one k) ∙ behind all k t ts e))

-- ---- each refuted leaf of a tree that passes is refuted

both : (P : RefutedAt → Type 0) (xs ys : List RefutedAt) → AllByRecursion P xs → AllByRecursion P ys
    → AllByRecursion P (xs ++ ys)
both P [] ys a b = b
both P (x ∷ xs) ys a b = (a.0, both P xs ys a.1 b)

module _ (p : Problem) (claimed : Option CostOver) where
  one_good : (k : ℕ) (m : Node) (e : End Leaf) (ts : Tree) → KnowsInside (shape_of p) m
      → EndPasses (shape_of p) (LeafPasses false p claimed) m e ts
      → AllByRecursion (IsGood p) (refuted_here k m e)
  one_good k m (branch w) ts known h = tt
  one_good k m (leaf (dead x)) ts known h = tt
  one_good k m (leaf (clash x)) ts known h = tt
  one_good k m (leaf (refuted ys)) ts known h = (record { known = known; refuted = h }, tt)
  one_good k m (leaf (bounded d ys)) ts known h = tt
  one_good k m (leaf (charged c)) ts known h = tt
  one_good k m (leaf (untried low)) ts known h = tt

  pub all_good : (ns : List Node) (ts : Tree) (k : ℕ) → AllKnown (shape_of p) ns
      → Pass (shape_of p) (LeafPasses false p claimed) ns ts
      → AllByRecursion (IsGood p) (refuted_leaves (shape_of p) ns ts k)
  all_good [] ts k known h = tt
  all_good (n ∷ ns) [] k known h = tt
  all_good (n ∷ ns) (t ∷ ts) k known h =
      let g : Shape = shape_of p in
      let m : Node = after_all g n t.steps in
      let there : KnowsInside g m = known_after_all g n t.steps known.0 h.0 in
      both (IsGood p) (refuted_here k m t.end) (refuted_leaves g (below g m t.end ++ ns) ts (k + 1))
      (one_good k m t.end ts there h.1)
      (all_good (below g m t.end ++ ns) ts (k + 1)
      (known_both g (below g m t.end) ns
      (known_below g (LeafPasses false p claimed) m t.end ts there h.1) known.1) h.2)

-- ---- walks over lists

pub all_taken : (P : RefutedAt → Type 0) (n : ℕ) (xs : List RefutedAt) → AllByRecursion P xs
    → AllByRecursion P (take n xs)
all_taken P zero xs h = tt
all_taken P (suc n) [] h = tt
all_taken P (suc n) (x ∷ xs) h = (h.0, all_taken P n xs h.1)

-- ---- which leaves are refuted

end_refuted : (k : ℕ) (m : Node) (e : End Leaf) → ends_refuted e ≡ true
    → refuted_here k m e ≡ record { number = k; node = m; ys = ys_of e } ∷ []
end_refuted k m (branch w) h = let f : false ≡ true = h in cc
end_refuted k m (leaf (dead x)) h = let f : false ≡ true = h in cc
end_refuted k m (leaf (clash x)) h = let f : false ≡ true = h in cc
end_refuted k m (leaf (refuted ys)) h = refl
end_refuted k m (leaf (bounded d ys)) h = let f : false ≡ true = h in cc
end_refuted k m (leaf (charged c)) h = let f : false ≡ true = h in cc
end_refuted k m (leaf (untried low)) h = let f : false ≡ true = h in cc

end_other : (k : ℕ) (m : Node) (e : End Leaf) → ends_refuted e ≡ false → refuted_here k m e ≡ []
end_other k m (branch w) h = refl
end_other k m (leaf (dead x)) h = refl
end_other k m (leaf (clash x)) h = refl
end_other k m (leaf (refuted ys)) h = let f : true ≡ false = h in cc
end_other k m (leaf (bounded d ys)) h = refl
end_other k m (leaf (charged c)) h = refl
end_other k m (leaf (untried low)) h = refl

one_in : (o : OpenAt) (x : Option (TreeNode Leaf)) → is_refuted x ≡ true
    → refuted_in o x ≡ record { number = o.number; node = o.node; ys = ys_in x } ∷ []
one_in o None h = let f : false ≡ true = h in cc
one_in o (Some t) h = end_refuted o.number o.node t.end h

none_in : (o : OpenAt) (x : Option (TreeNode Leaf)) → is_refuted x ≡ false → refuted_in o x ≡ []
none_in o None h = refl
none_in o (Some t) h = end_other o.number o.node t.end h

one_refuted : (tree : Tree) (o : OpenAt) → is_refuted (slice_get tree o.number) ≡ true
    → refuted_at tree o ≡ leaf_in tree o ∷ []
one_refuted tree o h = one_in o (slice_get tree o.number) h

none_refuted : (tree : Tree) (o : OpenAt) → is_refuted (slice_get tree o.number) ≡ false
    → refuted_at tree o ≡ []
none_refuted tree o h = none_in o (slice_get tree o.number) h

-- ---- a walk over leaves: what is found so far and what is left give the whole

-- the leaf at a place, and those after it
next_leaf : (xs : List OpenLeaf) (i : ℕ) (x : OpenLeaf) → i < length xs → x ≡ get_or xs i x
    → drop i xs ≡ x ∷ drop (i + 1) xs
next_leaf xs i x less is =
    drop_more xs i x less ∙ ap (λ (y : OpenLeaf). y ∷ drop (i + 1) xs) (sym is)

pub found_more : (tree : Tree) (xs : List OpenLeaf) (i : ℕ) (x : OpenLeaf)
    (found new whole : List RefutedAt) → i < length xs → x ≡ get_or xs i x
    → new ≡ found ++ refuted_at tree (leaf_at x)
    → found ++ flat_map (refuted_at tree) (leaves_at (drop i xs)) ≡ whole
    → new ++ flat_map (refuted_at tree) (leaves_at (drop (i + 1) xs)) ≡ whole
found_more tree xs i x found new whole less is e h =
    ap (λ (ls : List RefutedAt). ls
    ++ flat_map (refuted_at tree) (leaves_at (drop (i + 1) xs))) e
    ∙ append_assoc found (refuted_at tree (leaf_at x))
    (flat_map (refuted_at tree) (leaves_at (drop (i + 1) xs)))
    ∙ ap (λ (ls : List OpenLeaf). found ++ flat_map (refuted_at tree) (leaves_at ls))
    (sym (next_leaf xs i x less is)) ∙ h

pub found_all : (tree : Tree) (xs : List OpenLeaf) (i : ℕ) (found whole : List RefutedAt)
    → length xs ≤ i → found ++ flat_map (refuted_at tree) (leaves_at (drop i xs)) ≡ whole
    → found ≡ whole
found_all tree xs i found whole low h =
    sym (append-nil found)
    ∙ ap (λ (ls : List OpenLeaf). found ++ flat_map (refuted_at tree) (leaves_at ls))
    (sym (drop_all i xs low)) ∙ h

-- one leaf more is found
leaves_and_one : (tree : Tree) (xs : List OpenLeaf) (x : OpenLeaf)
    → leaves_of tree (xs ++ x ∷ []) ≡ leaves_of tree xs ++ leaf_of tree x ∷ []
leaves_and_one tree [] x = refl
leaves_and_one tree (y ∷ xs) x =
    ap (λ (ls : List RefutedAt). leaf_of tree y ∷ ls) (leaves_and_one tree xs x)

pub found_one : (tree : Tree) (xs new : List OpenLeaf) (x : OpenLeaf) → new ≡ xs ++ x ∷ []
    → is_refuted (slice_get tree x.number) ≡ true
    → leaves_of tree new ≡ leaves_of tree xs ++ refuted_at tree (leaf_at x)
found_one tree xs new x e is =
    ap (λ (ls : List OpenLeaf). leaves_of tree ls) e ∙ leaves_and_one tree xs x
    ∙ ap (λ (ls : List RefutedAt). leaves_of tree xs ++ ls)
    (sym (one_refuted tree (leaf_at x) is))

pub found_none : (tree : Tree) (xs : List OpenLeaf) (x : OpenLeaf)
    → is_refuted (slice_get tree x.number) ≡ false
    → leaves_of tree xs ≡ leaves_of tree xs ++ refuted_at tree (leaf_at x)
found_none tree xs x is =
    sym (append-nil (leaves_of tree xs))
    ∙ ap (λ (ls : List RefutedAt). leaves_of tree xs ++ ls)
    (sym (none_refuted tree (leaf_at x) is))
