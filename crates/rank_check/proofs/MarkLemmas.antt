-- A tree with open leaves, which are judged by their marks, passes or has its first fault as a
-- ranked tree does.
use Rattle.std.proofs.Common.{◌≡◌, ◌⊎◌, ℕ, zero, suc, ◌+◌, ◌<◌, ◌≤◌, Bool, true, false, List, []}
use Rattle.std.proofs.Common.{◌∷◌}
use Rattle.std.proofs.Common.{◌++◌, length, Option, Some, None, refl, sym, ap, ◌∙◌, subst, inl, inr}
use Rattle.std.proofs.Common.{arith}
use Rattle.rank_laws.specs.problem_rules.Problem.{Problem}
use Rattle.rank_laws.specs.pns_rules.Shape.{Shape, shape_of}
use Rattle.rank_laws.specs.pns_rules.Nodes.{Node}
use Rattle.rank_laws.specs.tree_rules.declared.why.Why.{Why}
use Rattle.rank_laws.specs.tree_rules.declared.why.Why.TheVariants as causes
use Rattle.rank_laws.specs.tree_rules.Ways.{width, MayBranch, options_at}
use Rattle.rank_laws.specs.tree_rules.Tree as trees
use Rattle.rank_laws.specs.tree_rules.Tree.{End, branch, leaf, TreeNode, StepsPass, after_all}
use Rattle.rank_laws.specs.tree_rules.Tree.{below}
use Rattle.rank_laws.specs.tree_rules.Tree.{EndPasses, Pass}
use Rattle.rank_laws.specs.tree_rules.Fault.{Fails, EndFails, NodeFails, IsFirstFault}
use Rattle.rank_laws.specs.tree_rules.Claim.{Network, CostOver}
use Rattle.rank_laws.specs.tree_rules.Leaf as leaves
use Rattle.rank_laws.specs.tree_rules.Accepted as plain_trees
use Rattle.rank_laws.specs.tree_rules.Accepted.{first_node}
use Rattle.rank_laws.specs.tree_text_rules.OpenLeaves.{OpenAt, open_here, open_leaves}
use Rattle.rank_laws.specs.rank_rules.declared.why.RankWhy.{RankWhy}
use Rattle.rank_laws.specs.rank_rules.declared.why.RankWhy.TheVariants.{Plain}
use Rattle.rank_laws.specs.rank_rules.Leaf.{Leaf, plain, named, LeafPasses, LeafFails, IsTold}
use Rattle.rank_laws.specs.rank_rules.Ranked.{IsToldAt}
use Rattle.rank_laws.specs.rank_rules.Marked.{Mark, marked_leaf, first_mark, marked_end}
use Rattle.rank_laws.specs.rank_rules.Marked.{marks_behind, marked}
use Rattle.cert_check.specs.Known.{KnowsInside}
use Rattle.cert_check.specs.Bare.{BarePasses, BareFails}
use Rattle.cert_check.specs.Subtrees.{AllKnown}
use Rattle.cert_check.specs.OpenLeaves.{AllBefore, NoneBefore}
use Rattle.cert_check.proofs.Cited.{known_after_all, known_below, known_both, none_before}
use Rattle.rank_check.specs.Marks.{MarksPass, IsFirstMark, AreKnown}

-- ---- the form of the tree stays

children_same : (ms : List Mark) (e : End leaves.Leaf)
    → trees.children (marked_end ms e) ≡ trees.children e
children_same ms (branch w) = refl
children_same ms (leaf (leaves.dead x)) = refl
children_same ms (leaf (leaves.clash k)) = refl
children_same ms (leaf (leaves.refuted ys)) = refl
children_same ms (leaf (leaves.bounded d ys)) = refl
children_same ms (leaf (leaves.charged c)) = refl
children_same ms (leaf (leaves.untried low)) = refl

pub below_same : (g : Shape) (n : Node) (ms : List Mark) (e : End leaves.Leaf)
    → below g n (marked_end ms e) ≡ below g n e
below_same g n ms (branch w) = refl
below_same g n ms (leaf (leaves.dead x)) = refl
below_same g n ms (leaf (leaves.clash k)) = refl
below_same g n ms (leaf (leaves.refuted ys)) = refl
below_same g n ms (leaf (leaves.bounded d ys)) = refl
below_same g n ms (leaf (leaves.charged c)) = refl
below_same g n ms (leaf (leaves.untried low)) = refl

skip_marked : (k : ℕ) (ms : List Mark) (ts : plain_trees.Tree) → (rest : List Mark)
    × (trees.skip k (marked ms ts) ≡ marked rest (trees.skip k ts))
skip_marked zero ms ts = (ms, refl)
skip_marked (suc k) ms [] = (ms, refl)
skip_marked (suc k) ms (t ∷ ts) =
    let q = skip_marked (trees.children t.end + k) (marks_behind ms t.end) ts in (
      q.0,
      ap (λ (c : ℕ). trees.skip (c + k) (marked (marks_behind ms t.end) ts))
          (children_same ms t.end) ∙ q.1,
    )

pub roots_marked : (k : ℕ) (ms : List Mark) (ts : plain_trees.Tree)
    → trees.roots k (marked ms ts) ≡ trees.roots k ts
roots_marked zero ms ts = refl
roots_marked (suc k) ms [] = refl
roots_marked (suc k) ms (t ∷ ts) =
    let q = skip_marked 1 ms (t ∷ ts) in
    ap (λ (us : List (TreeNode Leaf)). t.option ∷ trees.roots k us) q.1
    ∙ ap (λ (os : List (List ℕ)). t.option ∷ os) (roots_marked k q.0 (trees.skip 1 (t ∷ ts)))

-- ---- lists of open leaves

same_head : (l m : OpenAt) (ls ks : List OpenAt) → (l ∷ ls) ≡ (m ∷ ks) → l ≡ m
same_head l m ls ks e = cc

same_rest : (l m : OpenAt) (ls ks : List OpenAt) → (l ∷ ls) ≡ (m ∷ ks) → ls ≡ ks
same_rest l m ls ks e = cc

not_none : (m : OpenAt) (ks : List OpenAt) → [] ≡ (m ∷ ks) → ⊥
not_none m ks e = absurd cc

first_before : (k : ℕ) (ls found others : List OpenAt) (l : OpenAt) (rest : List OpenAt)
    → ls ≡ found ++ others → found ≡ l ∷ rest → NoneBefore k ls → AllBefore k found → ⊥
first_before k ls found others l rest e is none all =
    let h : NoneBefore k (l ∷ rest ++ others) =
    subst (λ (xs : List OpenAt). NoneBefore k xs)
    (e ∙ ap (λ (xs : List OpenAt). xs ++ others) is) none in
    let j : AllBefore k (l ∷ rest) = subst (λ (xs : List OpenAt). AllBefore k xs) is all in
    let low : k ≤ l.number = h.0 in
    let high : l.number < k = j.0 in
    absurd (omega arith)

-- ---- the units that are taken in at open leaves

-- the leaves with numbers below k know their units
abbrev pub KnownBefore : Problem → ℕ → List OpenAt → Type 0
KnownBefore p k [] = Unit {0}
KnownBefore p k (l ∷ ls) =
    (l.number < k → KnowsInside (shape_of p) l.node) × KnownBefore p k ls

pub known_if_before : (p : Problem) (k : ℕ) (found others : List OpenAt)
    → KnownBefore p k (found ++ others) → AllBefore k found → AreKnown p found
known_if_before p k [] others h all = tt
known_if_before p k (l ∷ ls) others h all =
    (h.0 all.0, known_if_before p k ls others h.1 all.1)

-- no leaf is among them
known_of_none : (p : Problem) (k : ℕ) (ls : List OpenAt) → NoneBefore k ls → KnownBefore p k ls
known_of_none p k [] h = tt
known_of_none p k (l ∷ ls) h = (
  (λ lt. let le : k ≤ l.number = h.0 in absurd (omega arith)),
  known_of_none p k ls h.1,
)

known_here : (p : Problem) (k i : ℕ) (n : Node) (e : End leaves.Leaf) (ls : List OpenAt)
    → KnowsInside (shape_of p) n → KnownBefore p k ls → KnownBefore p k (open_here i n e ++ ls)
known_here p k i n (branch w) ls known h = h
known_here p k i n (leaf (leaves.dead x)) ls known h = h
known_here p k i n (leaf (leaves.clash x)) ls known h = h
known_here p k i n (leaf (leaves.refuted ys)) ls known h = h
known_here p k i n (leaf (leaves.bounded d ys)) ls known h = h
known_here p k i n (leaf (leaves.charged c)) ls known h = h
known_here p k i n (leaf (leaves.untried low)) ls known h = ((λ lt. known), h)

-- at the first node nothing is taken in
pub first_known : (g : Shape) → AllKnown g (first_node ∷ [])
first_known g = ((λ u e. absurd cc), tt)

module _ (distinct : Bool) (p : Problem) (ws : List Network) (undercut : Option CostOver) where
  abbrev P : Node → leaves.Leaf → Type 0
  P = BarePasses p undercut

  abbrev F : Node → leaves.Leaf → Why → Type 0
  F = BareFails p undercut

  abbrev P' : Node → Leaf → Type 0
  P' = LeafPasses distinct false p ws undercut

  abbrev F' : Node → Leaf → Why → Type 0
  F' = LeafFails distinct false p ws undercut

  -- if the leaf at the node itself is open, it passes by its mark
  abbrev HerePasses : List Mark → Node → End leaves.Leaf → Type 0
  HerePasses ms n (branch w) = Unit {0}
  HerePasses ms n (leaf (leaves.dead x)) = Unit {0}
  HerePasses ms n (leaf (leaves.clash k)) = Unit {0}
  HerePasses ms n (leaf (leaves.refuted ys)) = Unit {0}
  HerePasses ms n (leaf (leaves.bounded d ys)) = Unit {0}
  HerePasses ms n (leaf (leaves.charged c)) = Unit {0}
  HerePasses ms n (leaf (leaves.untried low)) = P' n (marked_leaf None (first_mark ms))

  -- whatever the bound of an open leaf is, its mark judges it
  low_passes : (n : Node) (low : Option leaves.Scaled) (m : Mark)
      → P' n (marked_leaf None m)
      → P' n (marked_leaf low m)
  low_passes n low None h = absurd (let no : false ≡ true = h.0 in cc)
  low_passes n low (Some m) h = h

  low_fails : (n : Node) (low : Option leaves.Scaled) (m : Mark) (why : Why)
      → F' n (marked_leaf None m) why → F' n (marked_leaf low m) why
  low_fails n low None why (inl h) = inl h
  low_fails n low None why (inr h) = absurd (let no : false ≡ true = h.0 in cc)
  low_fails n low (Some m) why h = h

  low_told : (low : Option leaves.Scaled) (m : Mark) (cause : Why) (why : RankWhy)
      → IsTold (leaf (marked_leaf None m)) cause why
      → IsTold (leaf (marked_leaf low m)) cause why
  low_told low None cause why h = h
  low_told low (Some m) cause why h = h

  end_passes : (ms : List Mark) (n : Node) (e : End leaves.Leaf) (ts : plain_trees.Tree)
      → EndPasses (shape_of p) P n e ts → HerePasses ms n e
      → EndPasses (shape_of p) P' n (marked_end ms e) (marked (marks_behind ms e) ts)
  end_passes ms n (branch w) ts h here = (h.0, roots_marked (width w) ms ts ∙ h.1)
  end_passes ms n (leaf (leaves.dead x)) ts h here = h
  end_passes ms n (leaf (leaves.clash k)) ts h here = h
  end_passes ms n (leaf (leaves.refuted ys)) ts h here = h
  end_passes ms n (leaf (leaves.bounded d ys)) ts h here = h
  end_passes ms n (leaf (leaves.charged c)) ts h here = h
  end_passes ms n (leaf (leaves.untried low)) ts h here =
      low_passes n low (first_mark ms) here

  -- an open leaf does not fail if leaves may be open
  end_fails : (ms : List Mark) (n : Node) (e : End leaves.Leaf) (ts : plain_trees.Tree) (why : Why)
      → EndFails (shape_of p) F n e ts why
      → EndFails (shape_of p) F' n (marked_end ms e) (marked (marks_behind ms e) ts) why
      × IsTold (marked_end ms e) why (Plain why)
  end_fails ms n (branch w) ts why h = (
    subst
        (λ (os : List (List ℕ)). Fails
        (MayBranch (shape_of p) n w × (os ≡ options_at (shape_of p) n w)) causes.Options ⊥ why)
        (sym (roots_marked (width w) ms ts)) h,
    refl,
  )
  end_fails ms n (leaf (leaves.dead x)) ts why h = (h, refl)
  end_fails ms n (leaf (leaves.clash k)) ts why h = (h, refl)
  end_fails ms n (leaf (leaves.refuted ys)) ts why h = (h, refl)
  end_fails ms n (leaf (leaves.bounded d ys)) ts why h = (h, refl)
  end_fails ms n (leaf (leaves.charged c)) ts why h = (h, refl)
  end_fails ms n (leaf (leaves.untried low)) ts why (inl h) = absurd (h.1 refl)
  end_fails ms n (leaf (leaves.untried low)) ts why (inr h) = absurd h.1

  -- a step that fails has its own cause
  step_told : (e : End Leaf) (why : Why) → why ≡ causes.Step → IsTold e why (Plain why)
  step_told (branch w) why s = refl
  step_told (leaf (plain l)) why s = refl
  step_told (leaf (named way k d ys)) why s =
      inr ((λ b. absurd (let q : causes.Step ≡ causes.Bound = sym s ∙ b in cc)), refl)

  node_fails : (ms : List Mark) (n : Node) (t : TreeNode leaves.Leaf) (ts : plain_trees.Tree)
      (why : Why) → NodeFails (shape_of p) F n t ts why
      → NodeFails (shape_of p) F' n
      (record { option = t.option; steps = t.steps; end = marked_end ms t.end })
      (marked (marks_behind ms t.end) ts) why
      × IsTold (marked_end ms t.end) why (Plain why)
  node_fails ms n t ts why (inl h) = (inl h, step_told (marked_end ms t.end) why h.0)
  node_fails ms n t ts why (inr h) =
      let q = end_fails ms (after_all (shape_of p) n t.steps) t.end ts why h.1 in
      (inr (h.0, q.0), q.1)

  -- ---- all pass

  here_and_rest : (ms : List Mark) (i : ℕ) (n : Node) (e : End leaves.Leaf) (ls : List OpenAt)
      → MarksPass P' (open_here i n e ++ ls) ms → HerePasses ms n e
      × MarksPass P' ls (marks_behind ms e)
  here_and_rest ms i n (branch w) ls h = (tt, h)
  here_and_rest ms i n (leaf (leaves.dead x)) ls h = (tt, h)
  here_and_rest ms i n (leaf (leaves.clash k)) ls h = (tt, h)
  here_and_rest ms i n (leaf (leaves.refuted ys)) ls h = (tt, h)
  here_and_rest ms i n (leaf (leaves.bounded d ys)) ls h = (tt, h)
  here_and_rest ms i n (leaf (leaves.charged c)) ls h = (tt, h)
  here_and_rest ms i n (leaf (leaves.untried low)) ls h = h

  pub marked_passes : (ns : List Node) (ts : plain_trees.Tree) (ms : List Mark) (i : ℕ)
      → Pass (shape_of p) P ns ts → MarksPass P' (open_leaves (shape_of p) ns ts i) ms
      → Pass (shape_of p) P' ns (marked ms ts)
  marked_passes [] [] ms i h m = tt
  marked_passes [] (t ∷ ts) ms i h m = absurd h
  marked_passes (n ∷ ns) [] ms i h m = absurd h
  marked_passes (n ∷ ns) (t ∷ ts) ms i h m =
      let o : Node = after_all (shape_of p) n t.steps in
      let q =
      here_and_rest ms i o t.end
      (open_leaves (shape_of p) (below (shape_of p) o t.end ++ ns) ts (i + 1)) m in (
        h.0,
        end_passes ms o t.end ts h.1 q.0,
        subst
            (λ (os : List Node). Pass (shape_of p) P' (os ++ ns)
            (marked (marks_behind ms t.end) ts)) (sym (below_same (shape_of p) o ms t.end))
            (marked_passes (below (shape_of p) o t.end ++ ns) ts (marks_behind ms t.end) (i + 1) h.2
            q.1),
      )

  -- ---- all numbers

  here_before : (i l : ℕ) (n : Node) (e : End leaves.Leaf) (ls : List OpenAt) → i < l
      → AllBefore l ls → AllBefore l (open_here i n e ++ ls)
  here_before i l n (branch w) ls lt h = h
  here_before i l n (leaf (leaves.dead x)) ls lt h = h
  here_before i l n (leaf (leaves.clash x)) ls lt h = h
  here_before i l n (leaf (leaves.refuted ys)) ls lt h = h
  here_before i l n (leaf (leaves.bounded d ys)) ls lt h = h
  here_before i l n (leaf (leaves.charged c)) ls lt h = h
  here_before i l n (leaf (leaves.untried low)) ls lt h = (lt, h)

  -- the nodes of all open leaves are before the end of the list
  pub all_before : (ns : List Node) (ts : plain_trees.Tree) (i l : ℕ) → l ≡ i + length ts
      → AllBefore l (open_leaves (shape_of p) ns ts i)
  all_before [] ts i l e = tt
  all_before (n ∷ ns) [] i l e = tt
  all_before (n ∷ ns) (t ∷ ts) i l e =
      let o : Node = after_all (shape_of p) n t.steps in
      here_before i l o t.end
      (open_leaves (shape_of p) (below (shape_of p) o t.end ++ ns) ts (i + 1)) (omega arith)
      (all_before (below (shape_of p) o t.end ++ ns) ts (i + 1) l (omega arith))

  -- ---- the open leaves before a node

  pub record IsParted (i : ℕ) (n : Node) (e : End leaves.Leaf)
      (ls found others : List OpenAt) : Type 0 where
    pub rest : List OpenAt
    pub is : found ≡ open_here i n e ++ rest
    pub all : ls ≡ rest ++ others

  -- those that were found begin with the one of this node, if it has one
  part : (i k : ℕ) (n : Node) (e : End leaves.Leaf) (ls found others : List OpenAt) → i < k
      → open_here i n e ++ ls ≡ found ++ others → NoneBefore k others
      → IsParted i n e ls found others
  part i k n (branch w) ls found others lt h none = record { rest = found; is = refl; all = h }
  part i k n (leaf (leaves.dead x)) ls found others lt h none =
      record { rest = found; is = refl; all = h }
  part i k n (leaf (leaves.clash x)) ls found others lt h none =
      record { rest = found; is = refl; all = h }
  part i k n (leaf (leaves.refuted ys)) ls found others lt h none =
      record { rest = found; is = refl; all = h }
  part i k n (leaf (leaves.bounded d ys)) ls found others lt h none =
      record { rest = found; is = refl; all = h }
  part i k n (leaf (leaves.charged c)) ls found others lt h none =
      record { rest = found; is = refl; all = h }
  part i k n (leaf (leaves.untried low)) ls (l ∷ rest) others lt h none = record {
    rest = rest;
    is =
        ap (λ (x : OpenAt). x ∷ rest)
        (sym (same_head (record { number = i; node = n }) l ls (rest ++ others) h));
    all = same_rest (record { number = i; node = n }) l ls (rest ++ others) h;
  }
  part i k n (leaf (leaves.untried low)) ls [] others lt h none =
      let q : NoneBefore k (record { number = i; node = n } ∷ ls) =
      subst (λ (xs : List OpenAt). NoneBefore k xs) (sym h) none in
      let low : k ≤ i = q.0 in
      absurd (omega arith)

  -- if the leaves before a node pass by their marks, the node is the first that fails
  pub marked_fault : (ns : List Node) (ts : plain_trees.Tree) (ms : List Mark) (i j k : ℕ)
      (why : Why) (found others : List OpenAt)
      → k ≡ i + j → IsFirstFault (shape_of p) P F ns ts j why
      → open_leaves (shape_of p) ns ts i ≡ found ++ others → NoneBefore k others
      → MarksPass P' found ms
      → IsFirstFault (shape_of p) P' F' ns (marked ms ts) j why
      × IsToldAt (marked ms ts) j why (Plain why)
  marked_fault [] ts ms i j k why found others e f h none m = absurd f
  marked_fault (n ∷ ns) [] ms i j k why found others e f h none m = absurd f
  marked_fault (n ∷ ns) (t ∷ ts) ms i zero k why found others e f h none m =
      node_fails ms n t ts why f
  marked_fault (n ∷ ns) (t ∷ ts) ms i (suc j) k why found others e f h none m =
      let o : Node = after_all (shape_of p) n t.steps in
      let ls : List OpenAt =
      open_leaves (shape_of p) (below (shape_of p) o t.end ++ ns) ts (i + 1) in
      let w = part i k o t.end ls found others (omega arith) h none in
      let q =
      here_and_rest ms i o t.end w.rest
      (subst (λ (xs : List OpenAt). MarksPass P' xs ms) w.is m) in
      let r =
      marked_fault (below (shape_of p) o t.end ++ ns) ts (marks_behind ms t.end) (i + 1) j k why
      w.rest others (omega arith) f.2 w.all none q.1 in (
        (
          f.0,
          end_passes ms o t.end ts f.1 q.0,
          subst
              (λ (os : List Node). IsFirstFault (shape_of p) P' F' (os ++ ns)
              (marked (marks_behind ms t.end) ts) j why) (sym (below_same (shape_of p) o ms t.end))
              r.0,
        ),
        r.1,
      )

  -- ---- a leaf fails by its mark

  -- the first j nodes pass
  abbrev pub PassTo : ℕ → List Node → plain_trees.Tree → Type 0
  PassTo zero ns ts = Unit {0}
  PassTo (suc j) [] ts = Unit {0}
  PassTo (suc j) (n ∷ ns) [] = Unit {0}
  PassTo (suc j) (n ∷ ns) (t ∷ ts) =
      StepsPass (shape_of p) n t.steps
      × EndPasses (shape_of p) P (after_all (shape_of p) n t.steps) t.end ts
      × PassTo j (below (shape_of p) (after_all (shape_of p) n t.steps) t.end ++ ns) ts

  pub pass_to : (j : ℕ) (ns : List Node) (ts : plain_trees.Tree) → Pass (shape_of p) P ns ts
      → PassTo j ns ts
  pass_to zero ns ts h = tt
  pass_to (suc j) [] ts h = tt
  pass_to (suc j) (n ∷ ns) [] h = tt
  pass_to (suc j) (n ∷ ns) (t ∷ ts) h = (
    h.0,
    h.1,
    pass_to j (below (shape_of p) (after_all (shape_of p) n t.steps) t.end ++ ns) ts h.2,
  )

  pub fault_to : (j : ℕ) (ns : List Node) (ts : plain_trees.Tree) (why : Why)
      → IsFirstFault (shape_of p) P F ns ts j why → PassTo j ns ts
  fault_to zero ns ts why h = tt
  fault_to (suc j) [] ts why h = tt
  fault_to (suc j) (n ∷ ns) [] why h = tt
  fault_to (suc j) (n ∷ ns) (t ∷ ts) why h = (
    h.0,
    h.1,
    fault_to j (below (shape_of p) (after_all (shape_of p) n t.steps) t.end ++ ns) ts why h.2,
  )

  -- node d of the ranked tree is the first that fails, and this is the cause that is given
  pub record IsFaultAt (ns : List Node) (ts : plain_trees.Tree) (ms : List Mark) (d : ℕ)
      (why : RankWhy) : Type 0 where
    pub cause : Why
    pub first : IsFirstFault (shape_of p) P' F' ns (marked ms ts) d cause
    pub told : IsToldAt (marked ms ts) d cause why

  -- the mark of this node fails, or it passes and one after it fails
  here_or_rest : (ms : List Mark) (i k : ℕ) (n : Node) (e : End leaves.Leaf) (ts : plain_trees.Tree)
      (ls : List OpenAt) (why : RankWhy) → IsFirstMark P' F' (open_here i n e ++ ls) ms k why
      → ((i ≡ k)
      × ((cause : Why)
      × EndFails (shape_of p) F' n (marked_end ms e) (marked (marks_behind ms e) ts) cause
      × IsTold (marked_end ms e) cause why))
      ⊎ (HerePasses ms n e × IsFirstMark P' F' ls (marks_behind ms e) k why)
  here_or_rest ms i k n (branch w) ts ls why h = inr (tt, h)
  here_or_rest ms i k n (leaf (leaves.dead x)) ts ls why h = inr (tt, h)
  here_or_rest ms i k n (leaf (leaves.clash x)) ts ls why h = inr (tt, h)
  here_or_rest ms i k n (leaf (leaves.refuted ys)) ts ls why h = inr (tt, h)
  here_or_rest ms i k n (leaf (leaves.bounded d ys)) ts ls why h = inr (tt, h)
  here_or_rest ms i k n (leaf (leaves.charged c)) ts ls why h = inr (tt, h)
  here_or_rest ms i k n (leaf (leaves.untried low)) ts ls why (inl h) =
      let f = h.1 in
      inl (
        h.0,
        (
          f.0,
          low_fails n low (first_mark ms) f.0 f.1,
          low_told low (first_mark ms) f.0 why f.2,
        ),
      )
  here_or_rest ms i k n (leaf (leaves.untried low)) ts ls why (inr h) = inr h

  rest_before : (i l : ℕ) (n : Node) (e : End leaves.Leaf) (ls : List OpenAt)
      → AllBefore l (open_here i n e ++ ls) → AllBefore l ls
  rest_before i l n (branch w) ls h = h
  rest_before i l n (leaf (leaves.dead x)) ls h = h
  rest_before i l n (leaf (leaves.clash x)) ls h = h
  rest_before i l n (leaf (leaves.refuted ys)) ls h = h
  rest_before i l n (leaf (leaves.bounded d ys)) ls h = h
  rest_before i l n (leaf (leaves.charged c)) ls h = h
  rest_before i l n (leaf (leaves.untried low)) ls h = h.1

  pub mark_fault : (ns : List Node) (ts : plain_trees.Tree) (ms : List Mark) (i j l k : ℕ)
      (why : RankWhy) (found others : List OpenAt)
      → l ≡ i + j → PassTo j ns ts → open_leaves (shape_of p) ns ts i ≡ found ++ others
      → AllBefore l found → NoneBefore l others → IsFirstMark P' F' found ms k why
      → (d : ℕ) × (k ≡ i + d) × IsFaultAt ns ts ms d why
  mark_fault ns ts ms i j l k why [] others e go h all none f = absurd f
  mark_fault [] ts ms i j l k why (x ∷ xs) others e go h all none f =
      absurd (not_none x (xs ++ others) h)
  mark_fault (n ∷ ns) [] ms i j l k why (x ∷ xs) others e go h all none f =
      absurd (not_none x (xs ++ others) h)
  mark_fault (n ∷ ns) (t ∷ ts) ms i zero l k why (x ∷ xs) others e go h all none f =
      absurd
      (first_before l (open_leaves (shape_of p) (n ∷ ns) (t ∷ ts) i) (x ∷ xs) others x xs h refl
      (subst (λ (c : ℕ). NoneBefore c (open_leaves (shape_of p) (n ∷ ns) (t ∷ ts) i))
      (let q : i ≡ l = omega arith in q) (none_before (shape_of p) (n ∷ ns) (t ∷ ts) i)) all)
  mark_fault (n ∷ ns) (t ∷ ts) ms i (suc j) l k why (x ∷ xs) others e go h all none f =
      let o : Node = after_all (shape_of p) n t.steps in
      let ls : List OpenAt =
      open_leaves (shape_of p) (below (shape_of p) o t.end ++ ns) ts (i + 1) in
      let w = part i l o t.end ls (x ∷ xs) others (omega arith) h none in
      elim
      (here_or_rest ms i k o t.end ts w.rest why
      (subst (λ (ys : List OpenAt). IsFirstMark P' F' ys ms k why) w.is f)) [
        | inl q
            ↦ (
              zero,
              (let same = q.0 in let z : k ≡ i + 0 = omega arith in z),
              record { cause = q.1.0; first = inr (go.0, q.1.1); told = q.1.2 },
            )
        | inr q ↦
            let before =
            rest_before i l o t.end w.rest
            (subst (λ (ys : List OpenAt). AllBefore l ys) w.is all) in
            let r =
            mark_fault (below (shape_of p) o t.end ++ ns) ts (marks_behind ms t.end) (i + 1) j l
            k why w.rest others (omega arith) go.2 w.all before none q.1 in (
              suc r.0,
              (let same = r.1 in let z : k ≡ i + suc r.0 = omega arith in z),
              record {
                cause = r.2.cause;
                first = (
                  go.0,
                  end_passes ms o t.end ts go.1 q.0,
                  subst
                      (λ (os : List Node). IsFirstFault (shape_of p) P' F' (os ++ ns)
                      (marked (marks_behind ms t.end) ts) r.0 r.2.cause)
                      (sym (below_same (shape_of p) o ms t.end)) r.2.first,
                );
                told = r.2.told;
              },
            )
      ]

  -- ---- the leaves before a node know their units

  pub known_to : (ns : List Node) (ts : plain_trees.Tree) (i j l : ℕ) → l ≡ i + j
      → AllKnown (shape_of p) ns → PassTo j ns ts
      → KnownBefore p l (open_leaves (shape_of p) ns ts i)
  known_to [] ts i j l e known go = tt
  known_to (n ∷ ns) [] i j l e known go = tt
  known_to (n ∷ ns) (t ∷ ts) i zero l e known go =
      known_of_none p l (open_leaves (shape_of p) (n ∷ ns) (t ∷ ts) i)
      (subst (λ (c : ℕ). NoneBefore c (open_leaves (shape_of p) (n ∷ ns) (t ∷ ts) i))
      (let q : i ≡ l = omega arith in q) (none_before (shape_of p) (n ∷ ns) (t ∷ ts) i))
  known_to (n ∷ ns) (t ∷ ts) i (suc j) l e known go =
      let o : Node = after_all (shape_of p) n t.steps in
      let there : KnowsInside (shape_of p) o =
      known_after_all (shape_of p) n t.steps known.0 go.0 in
      known_here p l i o t.end
      (open_leaves (shape_of p) (below (shape_of p) o t.end ++ ns) ts (i + 1)) there
      (known_to (below (shape_of p) o t.end ++ ns) ts (i + 1) j l (omega arith)
      (known_both (shape_of p) (below (shape_of p) o t.end) ns
      (known_below (shape_of p) P o t.end ts there go.1) known.1) go.2)
