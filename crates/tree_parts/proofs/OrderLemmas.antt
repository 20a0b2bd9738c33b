-- Parts in the places of open leaves, in any order: the same tree.
use Rattle.std.proofs.Common.{◌≡◌, ℕ, zero, suc, ◌+◌, ◌<◌, true, List, [], ◌∷◌, ◌++◌, length, refl}
use Rattle.std.proofs.Common.{sym, ap, ◌∙◌, subst, inl, inr}
use Rattle.std.proofs.lemmas.Bool.{cases_order}
use Rattle.std.proofs.lemmas.List.Sorted.{IsPermutation-to_front}
use Rattle.tree_text_laws.specs.problem_rules.Each.{Each}
use Rattle.tree_text_laws.specs.problem_rules.Problem.{Problem}
use Rattle.tree_text_laws.specs.problem_rules.Validity.{IsValid}
use Rattle.tree_text_laws.specs.pns_rules.Shape.{Shape, shape_of}
use Rattle.tree_text_laws.specs.pns_rules.Nodes.{Node}
use Rattle.tree_text_laws.proofs.pns_rules.Cited.{proper_if_valid}
use Rattle.tree_text_laws.specs.tree_rules.Tree.{End, leaf, IsTree, after_all, below, Stands, Pass}
use Rattle.tree_text_laws.specs.tree_rules.Claim.{Claim, claimed_cost}
use Rattle.tree_text_laws.specs.tree_rules.Leaf.{Leaf, untried, LeafPasses}
use Rattle.tree_text_laws.specs.tree_rules.Accepted.{Tree, first_node, IsPartial}
use Rattle.cert_check.proofs.tree_laws.Cited.{leaves_apart, passes_too, stands_apart, IsOver}
use Rattle.cert_check.proofs.tree_laws.Cited.{over_goes_up}
use Rattle.tree_text_laws.specs.tree_text_rules.Graft.{graft_at, claim_of_both}
use Rattle.tree_text_laws.specs.tree_text_rules.Part.{Part, start_of}
use Rattle.tree_text_laws.specs.tree_text_rules.Merge.{IsLeafOf, IsMerged}
use Rattle.tree_text_laws.specs.tree_text_rules.OpenLeaves.{StandsOpen}
use Rattle.tree_text_laws.specs.tree_text_rules.Several.{AreMerged}
use Rattle.tree_parts.specs.Order.{StartApart, OthersStayOpen, EitherOrder, AnyOrder, EachOrder}
use Rattle.tree_parts.proofs.GraftLemmas.{passes-graft}
use Rattle.tree_parts.proofs.OpenLemmas.{graft_is_tree, graft_is_partial}
use Rattle.tree_parts.proofs.SpliceLemmas.{grafts_turn, stands_behind, kept_by}
use Rattle.tree_parts.proofs.ReorderLemmas.{Reorders, stay, under, turn, next, IsOut, reorders}
use Rattle.tree_parts.proofs.ReorderLemmas.{each_reordered, each_front, taken_out, none_left}
use Rattle.tree_parts.proofs.CostLemmas.{costs_agree}

-- ---- the form of a tree, whatever its leaves are

abbrev AnyLeaf : Node → Leaf → Type 0
AnyLeaf n l = Unit {0}

abbrev HasForm : Problem → Node → Tree → Type 0
HasForm p start tree = Pass (shape_of p) AnyLeaf (start ∷ []) tree

abbrev IsOpenAt : Problem → Tree → ℕ → Node → Type 0
IsOpenAt p tree k n = StandsOpen (shape_of p) (first_node ∷ []) tree k n

record IsFormed (p : Problem) (part : Part) : Type 0 where
  whole : IsTree part.tree
  form : HasForm p (start_of part) part.tree

-- a place has one node
one_node : (g : Shape) (ns : List Node) (ts : Tree) (k : ℕ) (n m : Node) (e d : End Leaf)
    → Stands g ns ts k n e → Stands g ns ts k m d → n ≡ m
one_node g [] ts k n m e d s r = absurd s
one_node g (o ∷ os) [] k n m e d s r = absurd s
one_node g (o ∷ os) (t ∷ ts) zero n m e d s r = sym s.0 ∙ r.0
one_node g (o ∷ os) (t ∷ ts) (suc k) n m e d s r =
    one_node g (below g (after_all g o t.steps) t.end ++ os) ts k n m e d s r

-- a node has one open leaf
one_place : (p : Problem) → IsValid p → (tree : Tree) → HasForm p first_node tree
    → (n : Node) (j k : ℕ) → IsOpenAt p tree j n → IsOpenAt p tree k n → j ≡ k
one_place p valid tree h n j k s r =
    let proper = proper_if_valid p valid in
    let apart : (u : ℕ) → n.inside u ≡ true → n.outside u ≡ true → ⊥
    = stands_apart (shape_of p) proper AnyLeaf (first_node ∷ []) tree j n (leaf (untried s.0)) h
    ((λ u e o. absurd cc), tt) s.1 in
    let itself : IsOver n n = record { inside = λ u e. e; outside = λ u e. e } in
    leaves_apart (shape_of p) (IsOver n) (over_goes_up (shape_of p) proper n apart) AnyLeaf
    (first_node ∷ []) tree j k n n (untried s.0) (untried r.0) h ((λ g none. none), tt) s.1 itself
    r.1
    itself

-- ---- two parts

-- The parts x and y, for the leaves k and j of the tree: the place of each once the other is in.
-- Both orders give the same tree.
record IsTurned (p : Problem) (tree : Tree) (x y : Part) (k j : ℕ) : Type 0 where
  x_place : ℕ
  y_place : ℕ
  x_stands : IsLeafOf p (graft_at j tree y.tree) x x_place
  y_stands : IsLeafOf p (graft_at k tree x.tree) y y_place
  same : graft_at x_place (graft_at j tree y.tree) x.tree
      ≡ graft_at y_place (graft_at k tree x.tree) y.tree

module _ (p : Problem) where
  -- an open leaf after the part, and the place of each other part then
  behind : (tree part : Tree) (k j : ℕ) (n o : Node) → k < j → IsTree part → HasForm p n part
      → IsOpenAt p tree k n → IsOpenAt p tree j o
      → (m : ℕ) × IsOpenAt p (graft_at k tree part) m o
      × ((other : Tree) → IsTree other
      → graft_at k (graft_at j tree other) part ≡ graft_at m (graft_at k tree part) other)
  behind tree [] k j n o lt w form s r = absurd w
  behind tree (x ∷ xs) k j n o lt w form s r = (
    length xs + j,
    (
      r.0,
      stands_behind (shape_of p) AnyLeaf (first_node ∷ []) tree k j (length xs + j) n o
          (leaf (untried r.0)) x xs lt refl w.1 form s r.1,
    ),
    turns,
  )
    where
      turns : (other : Tree) → IsTree other → graft_at k (graft_at j tree other) (x ∷ xs)
          ≡ graft_at (length xs + j) (graft_at k tree (x ∷ xs)) other
      turns [] v = absurd v
      turns (y ∷ ys) v = grafts_turn k j (length xs + j) tree x xs y ys lt refl

  before : (tree part : Tree) (k j : ℕ) (n : Node) → k < j → IsTree part → IsOpenAt p tree k n
      → IsOpenAt p (graft_at j tree part) k n
  before tree part k j n lt w s = kept_by p first_node tree part tree k j n w lt s

  not_same : (tree : Tree) (k j : ℕ) (n o : Node) → k ≡ j → (n ≡ o → ⊥) → IsOpenAt p tree k n
      → IsOpenAt p tree j o → ⊥
  not_same tree k j n o e apart s r =
      let there : IsOpenAt p tree j n = subst (λ (i : ℕ). IsOpenAt p tree i n) e s in
      apart
      (one_node (shape_of p) (first_node ∷ []) tree j n o (leaf (untried there.0))
      (leaf (untried r.0)) there.1 r.1)

  stays_open : (tree part : Tree) (k j : ℕ) (n o : Node) → IsTree part → HasForm p n part
      → (n ≡ o → ⊥) → IsOpenAt p tree k n → IsOpenAt p tree j o
      → (m : ℕ) × IsOpenAt p (graft_at k tree part) m o
  stays_open tree part k j n o w form apart s r = elim (cases_order k j) [
    | inl e ↦ absurd (not_same tree k j n o e apart s r)
    | inr (inl lt) ↦ let b = behind tree part k j n o lt w form s r in (b.0, b.1)
    | inr (inr lt) ↦ (j, before tree part j k o lt w r)
  ]

  turned : (tree : Tree) (x y : Part) (k j : ℕ) → IsFormed p x → IsFormed p y
      → (start_of x ≡ start_of y → ⊥) → IsLeafOf p tree x k → IsLeafOf p tree y j
      → IsTurned p tree x y k j
  turned tree x y k j fx fy apart s r = elim (cases_order k j) [
    | inl e ↦ absurd (not_same tree k j (start_of x) (start_of y) e apart s r)
    | inr (inl lt) ↦
        let b = behind tree x.tree k j (start_of x) (start_of y) lt fx.whole fx.form s r in
        record {
          x_place = k;
          y_place = b.0;
          x_stands = before tree y.tree k j (start_of x) lt fy.whole s;
          y_stands = b.1;
          same = b.2 y.tree fy.whole;
        }
    | inr (inr lt) ↦
        let b = behind tree y.tree j k (start_of y) (start_of x) lt fy.whole fy.form r s in
        record {
          x_place = b.0;
          y_place = j;
          x_stands = b.1;
          y_stands = before tree x.tree j k (start_of y) lt fx.whole r;
          same = sym (b.2 x.tree fx.whole);
        }
  ]

-- ---- many parts

record IsGrown (p : Problem) (tree : Tree) (part : Part) (whole : Tree) : Type 0 where
  place : ℕ
  leaf_is : IsLeafOf p tree part place
  is : whole ≡ graft_at place tree part.tree

abbrev AreGrown : Problem → Tree → List Part → Tree → Type 0
AreGrown p tree [] whole = whole ≡ tree
AreGrown p tree (part ∷ more) whole =
    (grown : Tree) × IsGrown p tree part grown × AreGrown p grown more whole

-- none of the parts starts at the node of x
abbrev AreAway : Part → List Part → Type 0
AreAway x = Each (λ other. start_of x ≡ start_of other → ⊥)

module _ (p : Problem) (valid : IsValid p) where
  keeps_form : (tree : Tree) (part : Part) (k : ℕ) → HasForm p first_node tree → IsFormed p part
      → IsLeafOf p tree part k → HasForm p first_node (graft_at k tree part.tree)
  keeps_form tree part k h f s =
      passes-graft (shape_of p) AnyLeaf (first_node ∷ []) tree part.tree k (start_of part)
      f.whole h s f.form

  -- a part whose leaf is one of the tree may come before the others, if it is after them
  to_front : (x : Part) (front back : List Part) (tree whole : Tree) (k : ℕ)
      → HasForm p first_node tree → IsFormed p x → Each (IsFormed p) front → AreAway x front
      → IsLeafOf p tree x k
      → AreGrown p tree (front ++ x ∷ back) whole → AreGrown p tree (x ∷ (front ++ back)) whole
  to_front x [] back tree whole k form fx fs away s h = h
  to_front x (y ∷ ys) back tree whole k form fx fs away s h =
      let m = h.1 in
      let w : IsTurned p tree x y k m.place
      = turned p tree x y k m.place fx fs.0 away.0 s m.leaf_is in
      let grown : Tree = graft_at m.place tree y.tree in
      let grown_form : HasForm p first_node grown = keeps_form tree y m.place form fs.0 m.leaf_is in
      let rest : AreGrown p grown (ys ++ x ∷ back) whole
      = subst (λ (ts : Tree). AreGrown p ts (ys ++ x ∷ back) whole) m.is h.2 in
      let moved : AreGrown p grown (x ∷ (ys ++ back)) whole
      = to_front x ys back grown whole w.x_place grown_form fx fs.1 away.1 w.x_stands rest in
      let there : moved.1.place ≡ w.x_place
      = one_place p valid grown grown_form (start_of x) moved.1.place w.x_place
      moved.1.leaf_is w.x_stands in
      let same : moved.0 ≡ graft_at w.y_place (graft_at k tree x.tree) y.tree
      = moved.1.is ∙ ap (λ (i : ℕ). graft_at i grown x.tree) there ∙ w.same in (
        graft_at k tree x.tree,
        record { place = k; leaf_is = s; is = refl },
        (moved.0, record { place = w.y_place; leaf_is = w.y_stands; is = same }, moved.2),
      )

  trees_agree : (ps qs : List Part) (tree one other : Tree) → Reorders ps qs → Each (IsFormed p) ps
      → StartApart ps → HasForm p first_node tree
      → AreGrown p tree ps one → AreGrown p tree qs other → one ≡ other
  trees_agree [] qs tree one other r fs apart form h k =
      h ∙ sym (subst (λ (l : List Part). AreGrown p tree l other) (none_left [] qs r refl) k)
  trees_agree (x ∷ ps) qs tree one other r fs apart form h k =
      let o : IsOut x ps qs = taken_out x (x ∷ ps) qs [] ps r refl in
      let others : List Part = o.front ++ o.back in
      let formed : Each (IsFormed p) others = each_reordered (IsFormed p) ps others o.others fs.1 in
      let away : AreAway x others
      = each_reordered (λ part. start_of x ≡ start_of part → ⊥) ps others o.others apart.0 in
      let m = h.1 in
      let moved : AreGrown p tree (x ∷ others) other
      = to_front x o.front o.back tree other m.place form fs.0
      (each_front (IsFormed p) o.front o.back formed)
      (each_front (λ part. start_of x ≡ start_of part → ⊥) o.front o.back away) m.leaf_is
      (subst (λ (l : List Part). AreGrown p tree l other) o.is k) in
      let there : moved.1.place ≡ m.place
      = one_place p valid tree form (start_of x) moved.1.place m.place moved.1.leaf_is m.leaf_is in
      let same : moved.0 ≡ h.0
      = moved.1.is ∙ ap (λ (i : ℕ). graft_at i tree x.tree) there ∙ sym m.is in
      let grown_form : HasForm p first_node h.0
      = subst (λ (ts : Tree). HasForm p first_node ts) (sym m.is)
      (keeps_form tree x m.place form fs.0 m.leaf_is) in
      trees_agree ps others h.0 one other o.others fs.1 apart.1 grown_form h.2
      (subst (λ (ts : Tree). AreGrown p ts others other) same moved.2)

-- ---- merges

module _ (p : Problem) where
  grown_of : (claim both : Claim) (tree whole : Tree) (ps : List Part)
      → AreMerged p claim tree ps both whole → AreGrown p tree ps whole
  grown_of claim both tree whole [] h = h.1
  grown_of claim both tree whole (part ∷ more) h =
      let m = h.2 in
      let rest = grown_of h.0 both h.1 whole more h.3 in
      (h.1, record { place = m.place; leaf_is = m.leaf_is; is = m.tree_is }, rest)

  form_of : (start : Node) (claim : Claim) (tree : Tree) → IsPartial p start claim tree
      → HasForm p start tree
  form_of start claim tree h =
      passes_too (shape_of p) (LeafPasses true p (claimed_cost claim)) AnyLeaf (start ∷ []) tree
      (λ k n l s q. tt) h.passes

  -- the tree and the part of a merge have form
  merged_form : (claim both : Claim) (tree whole : Tree) (part : Part) → IsTree part.tree
      → IsMerged p claim tree part both whole → HasForm p first_node tree × IsFormed p part
  merged_form claim both tree whole part w m = (
    form_of first_node claim tree m.tree_proves,
    record { whole = w; form = form_of (start_of part) part.claim part.tree m.part_proves },
  )

  formed_of : (claim both : Claim) (tree whole : Tree) (ps : List Part)
      → Each (λ part. IsTree part.tree) ps → AreMerged p claim tree ps both whole
      → Each (IsFormed p) ps
  formed_of claim both tree whole [] w h = tt
  formed_of claim both tree whole (part ∷ more) w h =
      let here = merged_form claim h.0 tree h.1 part w.0 h.2 in
      (here.1, formed_of h.0 both h.1 whole more w.1 h.3)

  merged_agree : IsValid p → (claim : Claim) (tree : Tree) (ps qs : List Part)
      → Each (λ part. IsTree part.tree) ps → StartApart ps → Reorders ps qs
      → (one other : Claim) (whole same : Tree)
      → AreMerged p claim tree ps one whole → AreMerged p claim tree qs other same → whole ≡ same
  merged_agree valid claim tree [] qs w apart r one other whole same h k =
      let none = none_left [] qs r refl in
      h.1 ∙ sym (subst (λ (l : List Part). AreMerged p claim tree l other same) none k).1
  merged_agree valid claim tree (x ∷ ps) qs w apart r one other whole same h k =
      let formed = formed_of claim one tree whole (x ∷ ps) w h in
      let first = merged_form claim h.0 tree h.1 x w.0 h.2 in
      trees_agree p valid (x ∷ ps) qs tree whole same r formed apart first.0
      (grown_of claim one tree whole (x ∷ ps) h) (grown_of claim other tree same qs k)

-- ---- each order of parts of different leaves

start_apart_reordered : (ps qs : List Part) → Reorders ps qs → StartApart ps → StartApart qs
start_apart_reordered ps qs stay a = a
start_apart_reordered ps qs (under {x = x} {xs = us} {ys = vs} r) a =
    let away = each_reordered (λ other. start_of x ≡ start_of other → ⊥) us vs r a.0 in
    (away, start_apart_reordered us vs r a.1)
start_apart_reordered ps qs turn a = (((λ e. a.0.0 (sym e)), a.1.0), (a.0.1, a.1.1))
start_apart_reordered ps qs (next {ys = us} r s) a =
    start_apart_reordered us qs s (start_apart_reordered ps us r a)

-- the part is one whole tree, which proves its claim, for an open leaf of the tree
record IsReady (p : Problem) (tree : Tree) (part : Part) : Type 0 where
  whole : IsTree part.tree
  proves : IsPartial p (start_of part) part.claim part.tree
  place : ℕ
  leaf_is : IsLeafOf p tree part place

module _ (p : Problem) where
  all_ready : (claim both : Claim) (tree whole first : Tree) (ps : List Part)
      → Each (λ part. IsTree part.tree) ps → Each (λ part. (k : ℕ) × IsLeafOf p first part k) ps
      → AreMerged p claim tree ps both whole → Each (IsReady p first) ps
  all_ready claim both tree whole first [] w s h = tt
  all_ready claim both tree whole first (part ∷ more) w s h = (
    record { whole = w.0; proves = h.2.part_proves; place = s.0.0; leaf_is = s.0.1 },
    all_ready h.0 both h.1 whole first more w.1 s.1 h.3,
  )

  -- those that start elsewhere
  still_ready : (tree : Tree) (x : Part) (k : ℕ) (qs : List Part) → IsTree x.tree
      → HasForm p (start_of x) x.tree → IsLeafOf p tree x k → AreAway x qs
      → Each (IsReady p tree) qs
      → Each (IsReady p (graft_at k tree x.tree)) qs
  still_ready tree x k [] w form s away ready = tt
  still_ready tree x k (q ∷ qs) w form s away ready =
      let r = ready.0 in
      let there
      = stays_open p tree x.tree k r.place (start_of x) (start_of q) w form away.0 s r.leaf_is in (
        record { whole = r.whole; proves = r.proves; place = there.0; leaf_is = there.1 },
        still_ready tree x k qs w form s away.1 ready.1,
      )

  all_merge : (claim : Claim) (tree : Tree) (qs : List Part) → IsTree tree
      → IsPartial p first_node claim tree → StartApart qs → Each (IsReady p tree) qs
      → (both : Claim) × (whole : Tree) × AreMerged p claim tree qs both whole
  all_merge claim tree [] w h apart ready = (claim, tree, (refl, refl))
  all_merge claim tree (q ∷ qs) w h apart ready =
      let r = ready.0 in
      let k : ℕ = r.place in
      let n : Node = start_of q in
      let s = r.leaf_is in
      let grown : Tree = graft_at k tree q.tree in
      let both : Claim = claim_of_both claim q.claim grown in
      let partial : IsPartial p first_node both grown
      = graft_is_partial p first_node n claim q.claim tree q.tree k w r.whole h r.proves s in
      let tree_is = graft_is_tree (shape_of p) (first_node ∷ []) k n tree q.tree s w r.whole in
      let form = form_of p n q.claim q.tree r.proves in
      let rest
      = all_merge both grown qs tree_is partial apart.1
      (still_ready tree q k qs r.whole form r.leaf_is apart.0 ready.1) in
      let here : IsMerged p claim tree q both grown
      = record {
        tree_proves = h;
        part_proves = r.proves;
        place = k;
        leaf_is = r.leaf_is;
        tree_is = refl;
        claim_is = refl;
        partial = partial;
      } in
      (rest.0, rest.1, (both, grown, here, rest.2))

-- ---- the laws

pub others_stay_open : OthersStayOpen
others_stay_open p claim both tree whole part k n w m apart s =
    let form = (merged_form p claim both tree whole part w m).1.form in
    let there = stays_open p tree part.tree m.place k (start_of part) n w form apart m.leaf_is s in
    (there.0, subst (λ (ts : Tree). IsOpenAt p ts there.0 n) (sym m.tree_is) there.1)

pub any_order : AnyOrder
any_order p valid claim tree ps qs w apart moved one other whole same h k =
    let r : Reorders ps qs = reorders ps qs moved in
    let trees : whole ≡ same
    = merged_agree p valid claim tree ps qs w apart r one other whole same h k in
    let back = subst (λ (ts : Tree). AreMerged p claim tree qs other ts) (sym trees) k in
    (trees, costs_agree p claim tree ps qs one other whole r h back)

pub either_order : EitherOrder
either_order p valid claim tree a b tree_a tree_b apart c1 c12 c2 c21 t1 t12 t2 t21 h k i j =
    any_order p valid claim tree (a ∷ b ∷ []) (b ∷ a ∷ []) (tree_a, (tree_b, tt))
    ((apart, tt), (tt, tt)) (IsPermutation-to_front (a ∷ []) b) c12 c21 t12 t21
    (c1, t1, h, (c12, t12, k, (refl, refl))) (c2, t2, i, (c21, t21, j, (refl, refl)))

pub each_order : EachOrder
each_order p valid claim tree [] qs is_tree w apart s moved one whole h =
    let none = none_left [] qs (reorders [] qs moved) refl in
    (claim, subst (λ (l : List Part). AreMerged p claim tree l claim whole) (sym none) (refl, h.1))
each_order p valid claim tree (x ∷ ps) qs is_tree w apart s moved one whole h =
    let r : Reorders (x ∷ ps) qs = reorders (x ∷ ps) qs moved in
    let ready
    = each_reordered (IsReady p tree) (x ∷ ps) qs r
    (all_ready p claim one tree whole tree (x ∷ ps) w s h) in
    let others = start_apart_reordered (x ∷ ps) qs r apart in
    let m = all_merge p claim tree qs is_tree h.2.tree_proves others ready in
    let same = (any_order p valid claim tree (x ∷ ps) qs w apart moved one m.0 whole m.1 h m.2).0 in
    (m.0, subst (λ (ts : Tree). AreMerged p claim tree qs m.0 ts) (sym same) m.2)
