-- Several parts in the places of open leaves: one more of them is put in at the place that its leaf
-- has by then.
use Rattle.std.proofs.Common.{◌≡◌, ℕ, zero, suc, ◌+◌, ◌<◌, ◌≤◌, Bool, true, false, if◌then◌else◌}
use Rattle.std.proofs.Common.{List, [], ◌∷◌, ◌++◌, length, Option, refl, sym, ap, ◌∙◌, subst, arith}
use Rattle.std.proofs.Common.{append_assoc}
use Rattle.std.proofs.lemmas.List.{append-nil}
use Rattle.tree_text_laws.specs.problem_rules.Problem.{Problem}
use Rattle.tree_text_laws.specs.pns_rules.Shape.{Shape, shape_of}
use Rattle.tree_text_laws.specs.pns_rules.Nodes.{Node}
use Rattle.tree_text_laws.specs.tree_rules.Tree.{End, leaf, TreeNode, IsForest, IsTree, after_all}
use Rattle.tree_text_laws.specs.tree_rules.Tree.{below, Stands}
use Rattle.tree_text_laws.specs.tree_rules.Tree.{Pass}
use Rattle.tree_text_laws.specs.tree_rules.Claim.{CostOver, Claim, network, infeasible, unknown}
use Rattle.tree_text_laws.specs.tree_rules.Leaf.{Leaf, untried, LeafPasses}
use Rattle.tree_text_laws.specs.tree_rules.Accepted.{Tree}
use Rattle.tree_text_laws.specs.tree_text_rules.Graft.{grafted, graft_at, has_open, claim_of_both}
use Rattle.tree_text_laws.specs.tree_text_rules.OpenLeaves.{StandsOpen}
use Rattle.tree_parts.specs.Splices.{Splice, spliced, AllBelow, AllAbove, AreRising, IsPut, ArePut}
use Rattle.tree_parts.specs.Splices.{settled, cheapest}
use Rattle.tree_parts.proofs.ForestLemmas.{after_all-append, forest_below}

-- ---- one after the other

-- a part after other nodes
graft_behind : (xs : Tree) (m j : ℕ) (us : Tree) (q : TreeNode Leaf) (qs : Tree) → m ≡ length xs + j
    → graft_at m (xs ++ us) (q ∷ qs) ≡ xs ++ graft_at j us (q ∷ qs)
graft_behind [] m j us q qs e =
    ap (λ (i : ℕ). graft_at i us (q ∷ qs)) (let s : m ≡ j = omega arith in s)
graft_behind (x ∷ xs) zero j us q qs e = absurd (omega arith)
graft_behind (x ∷ xs) (suc m) j us q qs e =
    ap (λ (vs : Tree). x ∷ vs) (graft_behind xs m j us q qs (omega arith))

-- the part at the later place moves by the nodes that the part at the earlier one adds
pub grafts_turn : (k j m : ℕ) (ts : Tree) (r : TreeNode Leaf) (rs : Tree) (q : TreeNode Leaf)
    (qs : Tree) → k < j → m ≡ length rs + j
    → graft_at k (graft_at j ts (q ∷ qs)) (r ∷ rs) ≡ graft_at m (graft_at k ts (r ∷ rs)) (q ∷ qs)
grafts_turn k j m [] r rs q qs lt e = refl
grafts_turn k zero m (t ∷ ts) r rs q qs lt e = absurd (omega arith)
grafts_turn k (suc j) zero (t ∷ ts) r rs q qs lt e = absurd (omega arith)
grafts_turn zero (suc j) (suc m) (t ∷ ts) r rs q qs lt e =
    ap (λ (vs : Tree). grafted t r ∷ vs) (sym (graft_behind rs m j ts q qs (omega arith)))
grafts_turn (suc k) (suc j) (suc m) (t ∷ ts) r rs q qs lt e =
    ap (λ (vs : Tree). t ∷ vs) (grafts_turn k j m ts r rs q qs (omega arith) (omega arith))

-- ---- the places of the others

-- a node before the part keeps its place
stands_before : (g : Shape) (ns : List Node) (ts : Tree) (k j : ℕ) (n : Node) (e : End Leaf)
    (q : TreeNode Leaf) (qs : Tree) → k < j → Stands g ns ts k n e
    → Stands g ns (graft_at j ts (q ∷ qs)) k n e
stands_before g [] ts k j n e q qs lt s = absurd s
stands_before g (m ∷ ms) [] k j n e q qs lt s = absurd s
stands_before g (m ∷ ms) (t ∷ ts) k zero n e q qs lt s = absurd (omega arith)
stands_before g (m ∷ ms) (t ∷ ts) zero (suc j) n e q qs lt s = s
stands_before g (m ∷ ms) (t ∷ ts) (suc k) (suc j) n e q qs lt s =
    stands_before g (below g (after_all g m t.steps) t.end ++ ms) ts k j n e q qs (omega arith) s

module _ (g : Shape) (P : Node → Leaf → Type 0) where
  -- a node after whole subtrees that pass
  stands-append : (ls ms : List Node) (xs ys : Tree) (k m : ℕ) (n : Node) (e : End Leaf)
      → m ≡ length xs + k → IsForest (length ls) xs → Pass g P ls xs → Stands g ms ys k n e
      → Stands g (ls ++ ms) (xs ++ ys) m n e
  stands-append [] ms [] ys k m n e is f h s =
      subst (λ (i : ℕ). Stands g ms ys i n e) (let same : k ≡ m = omega arith in same) s
  stands-append [] ms (x ∷ xs) ys k m n e is f h s = absurd h
  stands-append (l ∷ ls) ms [] ys k m n e is f h s = absurd h
  stands-append (l ∷ ls) ms (x ∷ xs) ys k zero n e is f h s = absurd (omega arith)
  stands-append (l ∷ ls) ms (x ∷ xs) ys k (suc m) n e is f h s =
      let a : Node = after_all g l x.steps in
      subst (λ (ns : List Node). Stands g ns (xs ++ ys) m n e)
      (append_assoc (below g a x.end) ls ms)
      (stands-append (below g a x.end ++ ls) ms xs ys k m n e (omega arith)
      (forest_below g P a x.end ls xs h.1 f.1) h.2 s)

  -- a node after the part comes after the part's nodes
  pub stands_behind : (ns : List Node) (ts : Tree) (j k m : ℕ) (a n : Node) (e : End Leaf)
      (q : TreeNode Leaf) (qs : Tree) → j < k → m ≡ length qs + k → IsForest 1 (q ∷ qs)
      → Pass g P (a ∷ []) (q ∷ qs)
      → StandsOpen g ns ts j a → Stands g ns ts k n e → Stands g ns (graft_at j ts (q ∷ qs)) m n e
  stands_behind [] ts j k m a n e q qs lt is f h at s = absurd s
  stands_behind (b ∷ bs) [] j k m a n e q qs lt is f h at s = absurd s
  stands_behind (b ∷ bs) (t ∷ ts) j zero m a n e q qs lt is f h at s = absurd (omega arith)
  stands_behind (b ∷ bs) (t ∷ ts) j (suc k) zero a n e q qs lt is f h at s = absurd (omega arith)
  stands_behind (b ∷ bs) (t ∷ ts) (suc j) (suc k) (suc m) a n e q qs lt is f h at s =
      stands_behind (below g (after_all g b t.steps) t.end ++ bs) ts j k m a n e q qs (omega arith)
      (omega arith) f h at s
  stands_behind (b ∷ bs) (t ∷ ts) zero (suc k) (suc m) a n e q qs lt is f h at s =
      let c : Node = after_all g b t.steps in
      let behind : Stands g bs ts k n e =
      subst (λ (end : End Leaf). Stands g (below g c end ++ bs) ts k n e) at.1.1 s in
      let passes : Pass g P (c ∷ []) (q ∷ qs) =
      subst (λ (i : Node). Pass g P (i ∷ []) (q ∷ qs)) (sym at.1.0) h in
      let z : Node = after_all g c q.steps in
      let some : Pass g P (below g z q.end) qs =
      subst (λ (is : List Node). Pass g P is qs) (append-nil (below g z q.end)) passes.2 in
      let forest : IsForest (length (below g z q.end)) qs =
      subst (λ (is : List Node). IsForest (length is) qs) (append-nil (below g z q.end))
      (forest_below g P z q.end [] qs passes.1 f.1) in
      subst (λ (y : Node). Stands g (below g y q.end ++ bs) (qs ++ ts) m n e)
      (sym (after_all-append g b t.steps q.steps))
      (stands-append (below g z q.end) bs qs ts k m n e (omega arith) forest some behind)

-- ---- many

module _ (p : Problem) (start : Node) (tree : Tree) where
  pub kept_by : (part : Tree) (ts : Tree) (k j : ℕ) (n : Node) → IsTree part → k < j
      → StandsOpen (shape_of p) (start ∷ []) ts k n
      → StandsOpen (shape_of p) (start ∷ []) (graft_at j ts part) k n
  kept_by [] ts k j n h lt s = absurd h
  kept_by (q ∷ qs) ts k j n h lt s =
      (s.0, stands_before (shape_of p) (start ∷ []) ts k j n (leaf (untried s.0)) q qs lt s.1)

  -- a leaf before all parts keeps its place
  stands_kept : (k : ℕ) (n : Node) (ss : List Splice) → AllAbove k ss → ArePut p start tree ss
      → StandsOpen (shape_of p) (start ∷ []) tree k n
      → StandsOpen (shape_of p) (start ∷ []) (spliced ss tree) k n
  stands_kept k n [] above put s = s
  stands_kept k n (h ∷ ss) above put s =
      kept_by h.part (spliced ss tree) k h.place n put.0.whole above.0
      (stands_kept k n ss above.1 put.1 s)

  -- the place that the leaf of one more part has by then
  pub record IsIn (front back : List Splice) (s : Splice) (n : Node) : Type 0 where
    pub place : ℕ
    pub later : s.place ≤ place
    pub stands : StandsOpen (shape_of p) (start ∷ []) (spliced (front ++ back) tree) place n
    pub is : spliced (front ++ s ∷ back) tree ≡ graft_at place (spliced (front ++ back) tree) s.part

  one_before : (k : ℕ) (part new : Tree) (ts us : Tree) (place : ℕ) (a n : Node)
      (claimed : Option CostOver) → IsTree part → IsTree new
      → Pass (shape_of p) (LeafPasses true p claimed) (a ∷ []) part → k < place
      → StandsOpen (shape_of p) (start ∷ []) ts k a
      → StandsOpen (shape_of p) (start ∷ []) ts place n → us ≡ graft_at place ts new
      → (m : ℕ) × (place ≤ m) × StandsOpen (shape_of p) (start ∷ []) (graft_at k ts part) m n
      × (graft_at k us part ≡ graft_at m (graft_at k ts part) new)
  one_before k [] new ts us place a n claimed h w q lt at s e = absurd h
  one_before k (r ∷ rs) [] ts us place a n claimed h w q lt at s e = absurd w
  one_before k (r ∷ rs) (v ∷ vs) ts us place a n claimed h w q lt at s e = (
    length rs + place,
    omega arith,
    (
      s.0,
      stands_behind (shape_of p) (LeafPasses true p claimed) (start ∷ []) ts k place
          (length rs + place) a n (leaf (untried s.0)) r rs lt refl h.1 q at s.1,
    ),
    ap (λ (xs : Tree). graft_at k xs (r ∷ rs)) e
        ∙ grafts_turn k place (length rs + place) ts r rs v vs lt refl,
  )

  pub put_in : (front back : List Splice) (s : Splice) (h : IsPut p start tree s)
      → AreRising (front ++ back) → AllBelow s.place front → AllAbove s.place back
      → ArePut p start tree (front ++ back) → IsIn front back s h.node
  put_in [] back s h rising low high put = record {
    place = s.place;
    later = omega arith;
    stands = stands_kept s.place h.node back high put h.stands;
    is = refl;
  }
  put_in (f ∷ fs) back s h rising low high put =
      let i : IsIn fs back s h.node = put_in fs back s h rising.1 low.1 high put.1 in
      let lt : f.place < i.place = (let a = low.0 in let b = i.later in omega (arith, a, b)) in
      let o =
      one_before f.place f.part s.part (spliced (fs ++ back) tree)
      (spliced (fs ++ s ∷ back) tree) i.place put.0.node h.node put.0.claimed put.0.whole
      h.whole put.0.passes lt
      (stands_kept f.place put.0.node (fs ++ back) rising.0 put.1 put.0.stands) i.stands i.is in
      record {
        place = o.0;
        later = (let a = i.later in let b = o.1 in omega (arith, a, b));
        stands = o.2;
        is = o.3;
      }

  -- ---- the list with one more

  above_more : (k : ℕ) (front back : List Splice) (s : Splice) → k < s.place
      → AllAbove k (front ++ back) → AllAbove k (front ++ s ∷ back)
  above_more k [] back s lt h = (lt, h)
  above_more k (f ∷ fs) back s lt h = (h.0, above_more k fs back s lt h.1)

  pub rising_more : (front back : List Splice) (s : Splice) → AreRising (front ++ back)
      → AllBelow s.place front → AllAbove s.place back → AreRising (front ++ s ∷ back)
  rising_more [] back s rising low high = (high, rising)
  rising_more (f ∷ fs) back s rising low high =
      (above_more f.place fs back s low.0 rising.0, rising_more fs back s rising.1 low.1 high)

  pub put_more : (front back : List Splice) (s : Splice) → IsPut p start tree s
      → ArePut p start tree (front ++ back) → ArePut p start tree (front ++ s ∷ back)
  put_more [] back s h put = (h, put)
  put_more (f ∷ fs) back s h put = (put.0, put_more fs back s h put.1)

-- ---- claims

-- what the first part and the tree claim together
pub first_claims : (own other : Claim) (ts : Tree)
    → claim_of_both own other ts ≡ settled (cheapest own other) ts
first_claims (network w) (network v) ts = refl
first_claims (network w) infeasible ts = refl
first_claims (network w) unknown ts = refl
first_claims infeasible (network v) ts = refl
first_claims infeasible infeasible ts = refl
first_claims infeasible unknown ts = refl
first_claims unknown (network v) ts = refl
first_claims unknown infeasible ts = refl
first_claims unknown unknown ts = refl

-- whatever was claimed of an earlier tree, if there is no network
no_network : (b : Bool) (own other : Claim) (ts : Tree) → own ≡ (if b then unknown else infeasible)
    → claim_of_both own other ts ≡ settled (cheapest (if b then unknown else infeasible) other) ts
no_network b own other ts e =
    subst (λ (c : Claim). claim_of_both own other ts ≡ settled (cheapest c other) ts) e
    (first_claims own other ts)

unknown_either : (b : Bool) (other : Claim) (ts : Tree)
    → settled (cheapest (if b then unknown else infeasible) other) ts
    ≡ settled (cheapest unknown other) ts
unknown_either true other ts = refl
unknown_either false (network v) ts = refl
unknown_either false infeasible ts = refl
unknown_either false unknown ts = refl

infeasible_either : (other : Claim) (ts : Tree)
    → settled (cheapest unknown other) ts ≡ settled (cheapest infeasible other) ts
infeasible_either (network v) ts = refl
infeasible_either infeasible ts = refl
infeasible_either unknown ts = refl

-- what the next part and the tree claim together
pub next_claims : (own other : Claim) (before ts : Tree)
    → claim_of_both (settled own before) other ts ≡ settled (cheapest own other) ts
next_claims (network w) other before ts = first_claims (network w) other ts
next_claims infeasible other before ts =
    no_network (has_open before) (settled infeasible before) other ts refl
    ∙ unknown_either (has_open before) other ts ∙ infeasible_either other ts
next_claims unknown other before ts =
    no_network (has_open before) (settled unknown before) other ts refl
    ∙ unknown_either (has_open before) other ts
