-- A tree whose named leaves are open leaves, with its marks, is the ranked tree in which these
-- leaves name networks.
use Rattle.std.proofs.Common.{◌≡◌, ℕ, zero, suc, ◌+◌, Bool, List, [], ◌∷◌, ◌++◌, length, map, take}
use Rattle.std.proofs.Common.{drop}
use Rattle.std.proofs.Common.{slice_set, Option, Some, None, refl, sym, ap, ap₂, ◌∙◌, subst, arith}
use Rattle.std.specs.List.{slice_get}
use Rattle.rank_check.specs.problem_rules.Each.{Each}
use Rattle.rank_check.specs.problem_rules.Problem.{Problem}
use Rattle.rank_check.specs.tree_rules.Tree.{End, branch, leaf, TreeNode, children, HasChildren}
use Rattle.rank_check.specs.tree_rules.Tree.{IsForest}
use Rattle.rank_check.specs.tree_rules.Tree.{IsTree}
use Rattle.rank_check.specs.tree_rules.Leaf.{Leaf, dead, clash, refuted, bounded, charged, untried}
use Rattle.rank_check.specs.tree_rules.Accepted.{Tree}
use Rattle.rank_check.specs.rank_rules.declared.naming.Naming.{Naming}
use Rattle.rank_check.specs.rank_rules.Leaf as ranks
use Rattle.rank_check.specs.rank_rules.Ranked as ranked
use Rattle.rank_check.specs.tree_rules.Known.{KnowsEnd, KnowsTree}
use Rattle.rank_check.specs.rank_rules.Marked.{Mark, marked, marked_end, first_mark, marks_behind}
use Rattle.rank_check.specs.declared.mark.Mark as code
use Rattle.rank_check.specs.View.{mark_of}
use Rattle.rank_check.specs.rank_rules.Text.{AreNumbered, FitsWay, FitWays, IsBareAt, AreBare}
use Rattle.abb_search.specs.search_tree.Preorder.{told_end}
use Rattle.rank_search.specs.Naming.{Names, opened_end, opened_node, opened, marks_at, marks_in}
use Rattle.rank_search.specs.Naming.{marks_of}
use Rattle.rank_search.proofs.NameLemmas.{IsCountedName}

-- ---- what a leaf with a name becomes

abbrev pub named_leaf : Naming → Option ℕ → Leaf → ranks.Leaf
named_leaf way None l = ranks.plain l
named_leaf way (Some k) (dead x) = ranks.plain (dead x)
named_leaf way (Some k) (clash x) = ranks.plain (clash x)
named_leaf way (Some k) (refuted ys) = ranks.plain (refuted ys)
named_leaf way (Some k) (bounded d ys) = ranks.named way k d ys
named_leaf way (Some k) (charged c) = ranks.plain (charged c)
named_leaf way (Some k) (untried low) = ranks.plain (untried low)

abbrev pub named_node : Naming → Option ℕ → TreeNode Leaf → TreeNode ranks.Leaf
named_node way n t =
    record { option = t.option; steps = t.steps; end = told_end (named_leaf way n) t.end }

abbrev pub named_tree : Naming → Names → Tree → ranked.Tree
named_tree way [] ts = []
named_tree way (n ∷ ns) [] = []
named_tree way (n ∷ ns) (t ∷ ts) = named_node way n t ∷ named_tree way ns ts

marked_one : (way : Naming) (n : Option ℕ) (e : End Leaf) (ms : List Mark)
    → marked_end (marks_at way n e ++ ms) (opened_end n e) ≡ told_end (named_leaf way n) e
marked_one way None (branch w) ms = refl
marked_one way None (leaf (dead x)) ms = refl
marked_one way None (leaf (clash x)) ms = refl
marked_one way None (leaf (refuted ys)) ms = refl
marked_one way None (leaf (bounded d ys)) ms = refl
marked_one way None (leaf (charged c)) ms = refl
marked_one way None (leaf (untried low)) ms = refl
marked_one way (Some k) (branch w) ms = refl
marked_one way (Some k) (leaf (dead x)) ms = refl
marked_one way (Some k) (leaf (clash x)) ms = refl
marked_one way (Some k) (leaf (refuted ys)) ms = refl
marked_one way (Some k) (leaf (bounded d ys)) ms = refl
marked_one way (Some k) (leaf (charged c)) ms = refl
marked_one way (Some k) (leaf (untried low)) ms = refl

behind_one : (way : Naming) (n : Option ℕ) (e : End Leaf) (ms : List Mark)
    → marks_behind (marks_at way n e ++ ms) (opened_end n e) ≡ ms
behind_one way None (branch w) ms = refl
behind_one way None (leaf (dead x)) ms = refl
behind_one way None (leaf (clash x)) ms = refl
behind_one way None (leaf (refuted ys)) ms = refl
behind_one way None (leaf (bounded d ys)) ms = refl
behind_one way None (leaf (charged c)) ms = refl
behind_one way None (leaf (untried low)) ms = refl
behind_one way (Some k) (branch w) ms = refl
behind_one way (Some k) (leaf (dead x)) ms = refl
behind_one way (Some k) (leaf (clash x)) ms = refl
behind_one way (Some k) (leaf (refuted ys)) ms = refl
behind_one way (Some k) (leaf (bounded d ys)) ms = refl
behind_one way (Some k) (leaf (charged c)) ms = refl
behind_one way (Some k) (leaf (untried low)) ms = refl

pub marked_is : (way : Naming) (ns : Names) (ts : Tree) → length ns ≡ length ts
    → marked (marks_in way ns ts) (opened ns ts) ≡ named_tree way ns ts
marked_is way [] [] l = refl
marked_is way [] (t ∷ ts) l = absurd (omega (arith, l))
marked_is way (n ∷ ns) [] l = absurd (omega (arith, l))
marked_is way (n ∷ ns) (t ∷ ts) l =
    ap₂ (λ (e : End ranks.Leaf) (us : ranked.Tree).
    record { option = t.option; steps = t.steps; end = e } ∷ us)
    (marked_one way n t.end (marks_in way ns ts))
    (ap (λ (ms : List Mark). marked ms (opened ns ts)) (behind_one way n t.end (marks_in way ns ts))
    ∙ marked_is way ns ts (omega (arith, l)))

-- ---- the form of the tree

same_children : (n : Option ℕ) (e : End Leaf) → children (opened_end n e) ≡ children e
same_children None e = refl
same_children (Some k) (branch w) = refl
same_children (Some k) (leaf (dead x)) = refl
same_children (Some k) (leaf (clash x)) = refl
same_children (Some k) (leaf (refuted ys)) = refl
same_children (Some k) (leaf (bounded d ys)) = refl
same_children (Some k) (leaf (charged c)) = refl
same_children (Some k) (leaf (untried low)) = refl

has_same : (n : Option ℕ) (e : End Leaf) → HasChildren e → HasChildren (opened_end n e)
has_same None e h = h
has_same (Some k) (branch w) h = h
has_same (Some k) (leaf (dead x)) h = tt
has_same (Some k) (leaf (clash x)) h = tt
has_same (Some k) (leaf (refuted ys)) h = tt
has_same (Some k) (leaf (bounded d ys)) h = tt
has_same (Some k) (leaf (charged c)) h = tt
has_same (Some k) (leaf (untried low)) h = tt

opened_forest : (k : ℕ) (ns : Names) (ts : Tree) → IsForest k ts → IsForest k (opened ns ts)
opened_forest k [] ts h = h
opened_forest zero (n ∷ ns) [] h = h
opened_forest (suc k) (n ∷ ns) [] h = h
opened_forest zero (n ∷ ns) (t ∷ ts) h = absurd h
opened_forest (suc k) (n ∷ ns) (t ∷ ts) h = (
  has_same n t.end h.0,
  subst (λ (c : ℕ). IsForest (c + k) (opened ns ts)) (sym (same_children n t.end))
      (opened_forest (children t.end + k) ns ts h.1),
)

pub opened_is_tree : (ns : Names) (ts : Tree) → IsTree ts → IsTree (opened ns ts)
opened_is_tree [] ts h = h
opened_is_tree (n ∷ ns) [] h = h
opened_is_tree (n ∷ ns) (t ∷ ts) h = (h.0, opened_forest 1 (n ∷ ns) (t ∷ ts) h.1)

pub length-opened : (ns : Names) (ts : Tree) → length (opened ns ts) ≡ length ts
length-opened [] ts = refl
length-opened (n ∷ ns) [] = refl
length-opened (n ∷ ns) (t ∷ ts) = ap suc (length-opened ns ts)

knows_opened : (p : Problem) (n : Option ℕ) (e : End Leaf) → KnowsEnd p e
    → KnowsEnd p (opened_end n e)
knows_opened p None e h = h
knows_opened p (Some k) (branch w) h = h
knows_opened p (Some k) (leaf (dead x)) h = h
knows_opened p (Some k) (leaf (clash x)) h = h
knows_opened p (Some k) (leaf (refuted ys)) h = h
knows_opened p (Some k) (leaf (bounded d ys)) h = tt
knows_opened p (Some k) (leaf (charged c)) h = h
knows_opened p (Some k) (leaf (untried low)) h = h

pub opened_known : (p : Problem) (ns : Names) (ts : Tree) → KnowsTree p ts
    → KnowsTree p (opened ns ts)
opened_known p [] ts h = h
opened_known p (n ∷ ns) [] h = tt
opened_known p (n ∷ ns) (t ∷ ts) h = (
  record { option = h.0.option; steps = h.0.steps; end = knows_opened p n t.end h.0.end },
  opened_known p ns ts h.1,
)

-- ---- the marks are numbered

numbered_with : (way : Naming) (n : Option ℕ) (e : End Leaf) (ms : List Mark) → IsCountedName n
    → AreNumbered ms
    → AreNumbered (marks_at way n e ++ ms)
numbered_with way None (branch w) ms c h = h
numbered_with way None (leaf (dead x)) ms c h = h
numbered_with way None (leaf (clash x)) ms c h = h
numbered_with way None (leaf (refuted ys)) ms c h = h
numbered_with way None (leaf (bounded d ys)) ms c h = h
numbered_with way None (leaf (charged c)) ms d h = h
numbered_with way None (leaf (untried low)) ms c h = h
numbered_with way (Some k) (branch w) ms c h = h
numbered_with way (Some k) (leaf (dead x)) ms c h = h
numbered_with way (Some k) (leaf (clash x)) ms c h = h
numbered_with way (Some k) (leaf (refuted ys)) ms c h = h
numbered_with way (Some k) (leaf (bounded d ys)) ms c h = (c, h)
numbered_with way (Some k) (leaf (charged c)) ms d h = h
numbered_with way (Some k) (leaf (untried low)) ms c h = h

pub marks_numbered : (way : Naming) (ns : Names) (ts : Tree) → Each IsCountedName ns
    → AreNumbered (marks_in way ns ts)
marks_numbered way [] ts h = tt
marks_numbered way (n ∷ ns) [] h = tt
marks_numbered way (n ∷ ns) (t ∷ ts) h =
    numbered_with way n t.end (marks_in way ns ts) h.0 (marks_numbered way ns ts h.1)

-- ---- each named leaf names its network in this way

ways_with : (way : Naming) (distinct : Bool) → FitsWay distinct way
    → (n : Option ℕ) (e : End Leaf) (ms : List Mark) → FitWays distinct ms
    → FitWays distinct (marks_at way n e ++ ms)
ways_with way distinct fits None (branch w) ms h = h
ways_with way distinct fits None (leaf (dead x)) ms h = h
ways_with way distinct fits None (leaf (clash x)) ms h = h
ways_with way distinct fits None (leaf (refuted ys)) ms h = h
ways_with way distinct fits None (leaf (bounded d ys)) ms h = h
ways_with way distinct fits None (leaf (charged c)) ms h = h
ways_with way distinct fits None (leaf (untried low)) ms h = h
ways_with way distinct fits (Some k) (branch w) ms h = h
ways_with way distinct fits (Some k) (leaf (dead x)) ms h = h
ways_with way distinct fits (Some k) (leaf (clash x)) ms h = h
ways_with way distinct fits (Some k) (leaf (refuted ys)) ms h = h
ways_with way distinct fits (Some k) (leaf (bounded d ys)) ms h = (fits, h)
ways_with way distinct fits (Some k) (leaf (charged c)) ms h = h
ways_with way distinct fits (Some k) (leaf (untried low)) ms h = h

pub marks_fit : (way : Naming) (distinct : Bool) → FitsWay distinct way
    → (ns : Names) (ts : Tree) → FitWays distinct (marks_in way ns ts)
marks_fit way distinct fits [] ts = tt
marks_fit way distinct fits (n ∷ ns) [] = tt
marks_fit way distinct fits (n ∷ ns) (t ∷ ts) =
    ways_with way distinct fits n t.end (marks_in way ns ts) (marks_fit way distinct fits ns ts)

-- ---- a leaf that names a network has no bound of its own

bare_with : (way : Naming) (n : Option ℕ) (e : End Leaf) (ms : List Mark)
    → IsBareAt (first_mark (marks_at way n e ++ ms)) (opened_end n e)
bare_with way None (branch w) ms = tt
bare_with way None (leaf (dead x)) ms = tt
bare_with way None (leaf (clash x)) ms = tt
bare_with way None (leaf (refuted ys)) ms = tt
bare_with way None (leaf (bounded d ys)) ms = tt
bare_with way None (leaf (charged c)) ms = tt
bare_with way None (leaf (untried None)) ms = tt
bare_with way None (leaf (untried (Some low))) ms = refl
bare_with way (Some k) (branch w) ms = tt
bare_with way (Some k) (leaf (dead x)) ms = tt
bare_with way (Some k) (leaf (clash x)) ms = tt
bare_with way (Some k) (leaf (refuted ys)) ms = tt
bare_with way (Some k) (leaf (bounded d ys)) ms = tt
bare_with way (Some k) (leaf (charged c)) ms = tt
bare_with way (Some k) (leaf (untried None)) ms = tt
bare_with way (Some k) (leaf (untried (Some low))) ms = refl

pub marks_bare : (way : Naming) (ns : Names) (ts : Tree) → length ns ≡ length ts
    → AreBare (marks_in way ns ts) (opened ns ts)
marks_bare way [] [] l = tt
marks_bare way [] (t ∷ ts) l = absurd (omega (arith, l))
marks_bare way (n ∷ ns) [] l = absurd (omega (arith, l))
marks_bare way (n ∷ ns) (t ∷ ts) l = (
  bare_with way n t.end (marks_in way ns ts),
  subst (λ (ms : List Mark). AreBare ms (opened ns ts)) (sym (behind_one way n t.end
      (marks_in way ns ts)))
      (marks_bare way ns ts (omega (arith, l))),
)

-- ---- node after node

-- the first i nodes are opened, and then the next
pub opened_next : (ns : Names) (ts : Tree) (i : ℕ) (n : Option ℕ) (t : TreeNode Leaf)
    → slice_get ns i ≡ Some n → slice_get (opened (take i ns) ts) i ≡ Some t
    → slice_set (opened (take i ns) ts) i (opened_node n t) ≡ opened (take (suc i) ns) ts
opened_next [] ts i n t hn ht = cc
opened_next (m ∷ ms) [] zero n t hn ht = cc
opened_next (m ∷ ms) [] (suc i) n t hn ht = cc
opened_next (m ∷ ms) (u ∷ us) zero n t hn ht =
    let a : m ≡ n = cc in
    let b : u ≡ t = cc in
    ap₂ (λ (o : Option ℕ) (w : TreeNode Leaf). opened_node o w ∷ us) (sym a) (sym b)
opened_next (m ∷ ms) (u ∷ us) (suc i) n t hn ht =
    ap (λ (ws : Tree). opened_node m u ∷ ws) (opened_next ms us i n t hn ht)

-- with their marks
pub marks_next : (way : Naming) (ns : Names) (ts : Tree) (i : ℕ) (n : Option ℕ) (t : TreeNode Leaf)
    → slice_get ns i ≡ Some n → slice_get (opened (take i ns) ts) i ≡ Some t
    → marks_in way (take i ns) ts ++ marks_at way n t.end ≡ marks_in way (take (suc i) ns) ts
marks_next way [] ts i n t hn ht = cc
marks_next way (m ∷ ms) [] zero n t hn ht = cc
marks_next way (m ∷ ms) [] (suc i) n t hn ht = cc
marks_next way (m ∷ ms) (u ∷ us) zero n t hn ht =
    let a : m ≡ n = cc in
    let b : u ≡ t = cc in
    ap₂ (λ (o : Option ℕ) (w : TreeNode Leaf). marks_at way o w.end) (sym a) (sym b)
    ∙ none (marks_at way m u.end)
  where
    none : (xs : List Mark) → xs ≡ xs ++ []
    none [] = refl
    none (x ∷ xs) = ap (λ (ys : List Mark). x ∷ ys) (none xs)
marks_next way (m ∷ ms) (u ∷ us) (suc i) n t hn ht =
    let ih = marks_next way ms us i n t hn ht in
    together (marks_at way m u.end) (marks_in way (take i ms) us) (marks_at way n t.end)
    ∙ ap (λ (ks : List Mark). marks_at way m u.end ++ ks) ih
  where
    together : (xs ys zs : List Mark) → (xs ++ ys) ++ zs ≡ xs ++ (ys ++ zs)
    together [] ys zs = refl
    together (x ∷ xs) ys zs = ap (λ (ks : List Mark). x ∷ ks) (together xs ys zs)

-- the marks of the code, and one more
pub marks_pushed : (ms : List code.Mark) (m : code.Mark)
    → map mark_of (ms ++ m ∷ []) ≡ map mark_of ms ++ marks_of (Some m)
marks_pushed [] m = refl
marks_pushed (x ∷ xs) m = ap (λ (ks : List Mark). mark_of x ∷ ks) (marks_pushed xs m)

pub marks_stay : (ms : List code.Mark) → map mark_of ms ≡ map mark_of ms ++ marks_of None
marks_stay [] = refl
marks_stay (x ∷ xs) = ap (λ (ks : List Mark). mark_of x ∷ ks) (marks_stay xs)

next : (n : ℕ) → suc n ≡ n + 1
next n = omega arith

-- what becomes of the nodes and the marks if the next node is taken
pub take_next : (way : Naming) (ns : Names) (ts now : Tree) (ks : List Mark) (i : ℕ) (n : Option ℕ)
    (t u : TreeNode Leaf) (r : List Mark)
    → slice_get ns i ≡ Some n → now ≡ opened (take i ns) ts → slice_get now i ≡ Some t
    → u ≡ opened_node n t → r ≡ marks_at way n t.end → ks ≡ marks_in way (take i ns) ts
    → (slice_set now i u ≡ opened (take (i + 1) ns) ts) × (ks ++ r ≡ marks_in way (take
    (i + 1) ns) ts)
take_next way ns ts now ks i n t u r hn is ht ut rt kt =
    let there : slice_get (opened (take i ns) ts) i ≡ Some t =
    subst (λ (us : Tree). slice_get us i ≡ Some t) is ht in (
      ap₂ (λ (us : Tree) (w : TreeNode Leaf). slice_set us i w) is ut
          ∙ (opened_next ns ts i n t hn there ∙ ap (λ (j : ℕ). opened (take j ns) ts) (next i)),
      ap₂ (λ (xs ys : List Mark). xs ++ ys) kt rt
          ∙ (marks_next way ns ts i n t hn there ∙ ap (λ (j : ℕ). marks_in way (take j ns) ts)
          (next i)),
    )

-- a list that was overwritten whole
pub written_over : {X : Type 0} (xs ys : List X) (n : ℕ) → length xs ≡ length ys → n ≡ length ys
    → take n (xs ++ drop (length xs) ys) ≡ xs
written_over {X} [] [] n l h = subst (λ (k : ℕ). take {A = X} k [] ≡ []) (sym h) refl
written_over {X} [] (y ∷ ys) n l h = absurd (omega (arith, l))
written_over {X} (x ∷ xs) [] n l h = absurd (omega (arith, l))
written_over {X} (x ∷ xs) (y ∷ ys) n l h =
    subst (λ (k : ℕ). take {A = X} k (x ∷ (xs ++ drop (length xs) ys)) ≡ x ∷ xs) (sym h)
    (ap (λ (ws : List X). x ∷ ws) (written_over xs ys (length ys) (omega (arith, l)) refl))
