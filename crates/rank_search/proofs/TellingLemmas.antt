-- The answer of a search: the tree, with its networks and marks, is ranked, lean, and spent if the
-- search is.
use Rattle.std.specs.Prelude.{IfOk}
use Rattle.std.proofs.Common.{◌≡◌, ℕ, suc, ◌+◌, ◌-◌, ◌^◌, ◌<◌, ◌≤◌, Bool, true, false, List, []}
use Rattle.std.proofs.Common.{◌∷◌}
use Rattle.std.proofs.Common.{length, Option, Some, None, Result, Ok, Err, refl, sym, ap, ap₂, ◌∙◌}
use Rattle.std.proofs.Common.{subst, arith}
use Rattle.std.specs.List.{slice_get}
use Rattle.std.proofs.lemmas.List.{length-map}
use Rattle.rank_check.specs.number_sets.Sets.{listed}
use Rattle.rank_check.specs.problem_rules.Each.{Each}
use Rattle.rank_check.specs.problem_rules.Problem.{Problem}
use Rattle.rank_check.specs.problem_rules.Validity.{IsValid}
use Rattle.rank_check.specs.pns_rules.Shape.{shape_of}
use Rattle.rank_check.specs.pns_rules.Nodes.{Node}
use Rattle.rank_check.proofs.pns_rules.Cited.{proper_if_valid}
use Rattle.rank_check.specs.pgraph.View.{node_of}
use Rattle.rank_check.specs.tree_rules.Ways.{options_at}
use Rattle.rank_check.specs.tree_rules.Tree.{End, branch, leaf, Pass, Stands}
use Rattle.rank_check.specs.tree_rules.Leaf as leaves
use Rattle.rank_check.specs.tree_rules.Leaf.{Leaf, dead, clash, refuted, bounded, charged, untried}
use Rattle.rank_check.specs.tree_rules.Leaf.{IsUntried}
use Rattle.rank_check.specs.tree_rules.Claim.{Network, CostOver, claimed_cost, IsSized}
use Rattle.rank_check.specs.tree_rules.Lean.{IsLean}
use Rattle.rank_check.specs.tree_rules.Stops.{IsOpenAt, IsPending, IsSpent}
use Rattle.rank_check.specs.tree_rules.Accepted.{Tree, first_node}
use Rattle.rank_check.specs.Known.{KnowsNetwork}
use Rattle.rank_check.specs.rank_rules.declared.naming.Naming.{Naming}
use Rattle.rank_check.specs.rank_rules.declared.naming.Naming.TheVariants.{Only}
use Rattle.rank_check.specs.rank_rules.Leaf as ranks
use Rattle.rank_check.specs.rank_rules.Networks.{ArePassing, to_undercut}
use Rattle.rank_check.specs.rank_rules.Ranked as ranked
use Rattle.rank_check.specs.tree_rules.Known.{KnowsEnd, KnowsTree}
use Rattle.rank_check.specs.rank_rules.Marked.{Mark, marked}
use Rattle.rank_check.specs.rank_rules.Text.{AreNumbered, FitsWay, FitWays, AreBare}
use Rattle.abb_search.specs.search_tree.declared.shut.Shut.{Shut}
use Rattle.abb_search.specs.search_tree.declared.shut.Shut.TheVariants as shuts
use Rattle.abb_search.specs.search_tree.Cells.{Cell, place_of, cell_at, IsLinked}
use Rattle.abb_search.specs.search_tree.Growth.{as_shut, EndsOpen}
use Rattle.abb_search.specs.search_tree.Preorder.{IsPreorder, node_at, tree_of, told_tree}
use Rattle.abb_search.specs.search_tree.Shut.{shut_as, shut_end, shut_cells}
use Rattle.abb_search.proofs.search_tree.Cited.{preorder_has_all, passes, cells_stand, told_passes}
use Rattle.abb_search.proofs.search_tree.Cited.{aligned_start, proof_of, shut_at, shut_length}
use Rattle.abb_search.proofs.search_tree.Cited.{shut_linked}
use Rattle.abb_search.proofs.search_tree.Cited.{kept_is_lean}
use Rattle.abb_search.specs.node_evaluation.Children.{claim_with}
use Rattle.abb_search.specs.node_evaluation.Looks.{KnowsCell}
use Rattle.abb_search.specs.declared.growing.Growing.{Growing}
use Rattle.abb_search.specs.Growing.{IsTreeKeptFor}
use Rattle.abb_search.specs.Closing.{EndsNode, LeavesOpen, IsSpentFor}
use Rattle.rank_check.specs.tree_rules.Proved.{IsBelowLimit}
use Rattle.abb_search.proofs.Cited.{AreKnown, known_end, knows_tree, few_nodes}
use Rattle.rank_search.specs.Found.{FoundAt, networks_of, undercut_by, AreBest}
use Rattle.rank_search.specs.Naming.{Names, name_at, names_at, names_of, marks_in, IsNamedTree}
use Rattle.rank_check.specs.rank_rules.Leaf.{IsOpenLeaf}
use Rattle.rank_search.specs.Told.{IsTelling, IsTellingOf, IsSpentOf}
use Rattle.rank_search.proofs.FewLemmas.{few_with_next}
use Rattle.rank_search.proofs.NamedLeafLemmas.{ClosesAt, Closes, leaf_passes, still_open, told_open}
use Rattle.rank_search.proofs.NamedLeafLemmas.{told_left}
use Rattle.rank_search.proofs.MarkLemmas.{named_leaf, marked_is, length-opened, opened_known}
use Rattle.rank_search.proofs.MarkLemmas.{marks_numbered, marks_fit, marks_bare}
use Rattle.rank_search.proofs.NameLemmas.{IsCountedName, counted_name}
use Rattle.rank_search.proofs.NetworkLemmas.{each_there, knows_networks, networks_pass}
use Rattle.rank_search.proofs.OrderLemmas.{leaf_told, shut_order, named_is_told, length-names_at}
use Rattle.rank_search.proofs.OrderLemmas.{each_name}
use Rattle.rank_search.proofs.ToldTreeLemmas.{told_is_lean, told_stands, told_is_spent}

-- ---- numbers are known

knows_by : (p : Problem) (partial : Bool) (undercut : Option CostOver) (n : Node) (m : Shut)
    → EndsNode partial p undercut n m → KnowsEnd p (leaf (shut_as m))
knows_by p partial undercut n (shuts.Bounded m) h = (h.scale, h.multipliers)
knows_by p partial undercut n (shuts.Refuted ys) h = h.multipliers
knows_by p partial undercut n (shuts.Low m) h = (h.1.scale, h.1.multipliers)

knows_shut : (p : Problem) (partial : Bool) (undercut : Option CostOver) (n : Node)
    (m : Option Shut) (e : End Leaf) → KnowsEnd p e → (EndsOpen e → ClosesAt partial p undercut n m)
    → KnowsEnd p (shut_end m e)
knows_shut p partial undercut n None (branch w) k h = k
knows_shut p partial undercut n None (leaf l) k h = k
knows_shut p partial undercut n (Some m) (branch w) k h = k
knows_shut p partial undercut n (Some m) (leaf (dead x)) k h = k
knows_shut p partial undercut n (Some m) (leaf (clash x)) k h = k
knows_shut p partial undercut n (Some m) (leaf (refuted ys)) k h = k
knows_shut p partial undercut n (Some m) (leaf (bounded d ys)) k h = k
knows_shut p partial undercut n (Some m) (leaf (charged c)) k h = k
knows_shut p partial undercut n (Some m) (leaf (untried low)) k h =
    knows_by p partial undercut n m (h (low, refl))

module _ (p : Problem) (partial : Bool) (undercut : Option CostOver) (cells : List Cell)
    (known : AreKnown p cells) (ms : List (Option Shut))
    (closes : Closes partial p undercut cells ms) where
  known_shut : AreKnown p (shut_cells ms cells)
  known_shut j lt =
      let there : j < length cells = let e = shut_length ms cells in omega (arith, lt, e) in
      subst (λ (d : Cell). KnowsCell p d) (sym (shut_at ms cells j there))
      (known_end p (cell_at cells j)
      (as_shut (cell_at cells j) (shut_end (proof_of ms j) (cell_at cells j).end))
      (known j there) refl refl
      (knows_shut p partial undercut (place_of (cell_at cells j)) (proof_of ms j)
      (cell_at cells j).end (known j there).end (closes j there)))

head_is : (cells : List Cell) (order : List ℕ) → IsPreorder cells (0 ∷ []) order
    → slice_get order 0 ≡ Some 0
head_is cells [] h = absurd h
head_is cells (k ∷ ks) h = ap (λ (i : ℕ). Some i) h.0

module _ (p : Problem) (valid : IsValid p) (undercut : Option CostOver) (s : Growing)
    (t : IsTreeKeptFor p undercut s) (first : node_of s.start ≡ first_node)
    (way : Naming) (names : Names)
    (ms : List (Option Shut)) (wanted place : ℕ) (tree : Tree) (marks : List Mark)
    (of : IsNamedTree s.pool.payloads way names ms wanted tree marks place) where
  abbrev cells : List Cell
  cells = s.pool.payloads

  abbrev told : ℕ → Leaf → ranks.Leaf
  told = leaf_told way names ms

  linked : IsLinked s.pool.payloads
  linked = t.kept.grown.linked

  preorder : IsPreorder s.pool.payloads (0 ∷ []) of.order
  preorder = shut_order way names ms cells linked of.order of.is_preorder

  marked_tree : marked marks tree ≡ told_tree told s.pool.payloads of.order
  marked_tree =
      let a : length (names_at names of.order) ≡ length of.order = length-names_at names of.order in
      let b : length (tree_of (shut_cells ms cells) of.order) ≡ length of.order =
      length-map of.order (node_at (shut_cells ms cells)) in
      ap₂ (λ (ks : List Mark) (us : Tree). marked ks us) of.marks_are of.tree_is
      ∙ (marked_is way (names_at names of.order) (tree_of (shut_cells ms cells) of.order)
      (a ∙ sym b)
      ∙ named_is_told way names ms cells linked of.order preorder)

  lean_plain : IsLean p IsUntried undercut (node_of s.start)
      (tree_of s.pool.payloads of.order)
  lean_plain =
      kept_is_lean p (node_of s.start) (claim_with s.best) undercut t.last
      s.pool.payloads of.order t.kept preorder

  still : (i : ℕ) (l : Leaf) → IsOpenLeaf (told i l) → IsUntried l
  still i l o = still_open way (name_at names i) (proof_of ms i) l o

  lean : IsLean p IsOpenLeaf undercut first_node (marked marks tree)
  lean =
      subst (λ (n : Node). IsLean p IsOpenLeaf undercut n (marked marks tree)) first
      (subst (λ (w : ranked.Tree). IsLean p IsOpenLeaf undercut (node_of s.start) w)
      (sym marked_tree)
      (told_is_lean p (leaves.LeafPasses true p (claimed_cost (claim_with s.best)))
      (node_of s.start) s.pool.payloads linked t.kept.grown.fits of.order preorder told
      IsOpenLeaf still undercut lean_plain))

  stands_plain : (k v : ℕ) → slice_get of.order k ≡ Some v
      → Stands (shape_of p) (node_of s.start ∷ []) (tree_of s.pool.payloads of.order) k
      (place_of (cell_at s.pool.payloads v)) (cell_at s.pool.payloads v).end
  stands_plain k v h =
      cells_stand (shape_of p) (leaves.LeafPasses true p (claimed_cost (claim_with s.best)))
      (node_of s.start) s.pool.payloads linked t.kept.grown.fits (node_of s.start ∷ []) (0 ∷ [])
      of.order
      (aligned_start (shape_of p) (leaves.LeafPasses true p (claimed_cost (claim_with s.best)))
      (node_of s.start) s.pool.payloads linked t.kept.grown.fits) preorder k v h

  passes_plain : Pass (shape_of p) (leaves.LeafPasses true p (claimed_cost (claim_with s.best)))
      (node_of s.start ∷ []) (tree_of s.pool.payloads of.order)
  passes_plain =
      passes (shape_of p) (leaves.LeafPasses true p (claimed_cost (claim_with s.best)))
      (node_of s.start) s.pool.payloads linked t.kept.grown.fits (node_of s.start ∷ []) (0 ∷ [])
      of.order
      (aligned_start (shape_of p) (leaves.LeafPasses true p (claimed_cost (claim_with s.best)))
      (node_of s.start) s.pool.payloads linked t.kept.grown.fits) preorder

  -- ---- it proves what is answered
  pub known_cells : (partial : Bool) (goal : Option CostOver)
      → Closes partial p goal s.pool.payloads ms → AreKnown p (shut_cells ms s.pool.payloads)
  known_cells partial goal closes = known_shut p partial goal s.pool.payloads t.known ms closes

  known_tree : AreKnown p (shut_cells ms s.pool.payloads) → KnowsTree p tree
  known_tree known = subst (λ (w : Tree). KnowsTree p w) (sym of.tree_is)
      (opened_known p (names_at names of.order) (tree_of (shut_cells ms cells) of.order)
      (knows_tree p (shut_cells ms cells) (shut_linked ms cells linked) known of.order
      of.is_preorder))

  few : AreKnown p (shut_cells ms s.pool.payloads) → length tree < 2 ^ 32 - 1
  few known =
      let a : length tree ≡ length (tree_of (shut_cells ms cells) of.order) =
      ap (λ (w : Tree). length w) of.tree_is
      ∙ length-opened (names_at names of.order) (tree_of (shut_cells ms cells) of.order) in
      let shut : length (shut_cells ms cells) < 2 ^ 32 - 1 =
      subst (λ n. n < 2 ^ 32 - 1) (sym (shut_length ms cells)) t.numbered in
      subst (λ n. n < 2 ^ 32 - 1) (sym a)
      (few_nodes p (shut_cells ms cells) (shut_linked ms cells linked) known of.order
      of.is_preorder shut)

  -- so many networks were asked for, and these are answered. The leaves pass for them.
  module _ (distinct partial : Bool) (count : ℕ) (ws : List Network)
      (leaf_passes : (i : ℕ) → i < length s.pool.payloads → (l : Leaf)
      → (cell_at s.pool.payloads i).end ≡ leaf l
      → ranks.LeafPasses distinct partial p ws (to_undercut count ws)
      (place_of (cell_at s.pool.payloads i)) (leaf_told way names ms i l)) where
    passes_told : Pass (shape_of p)
        (ranks.LeafPasses distinct partial p ws (to_undercut count ws)) (node_of s.start ∷ [])
        (told_tree told s.pool.payloads of.order)
    passes_told =
        told_passes (shape_of p) (leaves.LeafPasses true p (claimed_cost (claim_with s.best)))
        (node_of s.start) s.pool.payloads linked t.kept.grown.fits told
        (ranks.LeafPasses distinct partial p ws (to_undercut count ws)) leaf_passes
        (node_of s.start ∷ []) (0 ∷ []) of.order
        (aligned_start (shape_of p)
        (leaves.LeafPasses true p (claimed_cost (claim_with s.best))) (node_of s.start)
        s.pool.payloads linked t.kept.grown.fits) preorder

    passes_marked : Pass (shape_of p)
        (ranks.LeafPasses distinct partial p ws (to_undercut count ws)) (first_node ∷ [])
        (marked marks tree)
    passes_marked =
        subst
        (λ (n : Node). Pass (shape_of p)
        (ranks.LeafPasses distinct partial p ws (to_undercut count ws)) (n ∷ [])
        (marked marks tree)) first
        (subst
        (λ (w : ranked.Tree). Pass (shape_of p)
        (ranks.LeafPasses distinct partial p ws (to_undercut count ws))
        (node_of s.start ∷ []) w) (sym marked_tree) passes_told)

    pub is_telling_of : AreKnown p (shut_cells ms s.pool.payloads) → ArePassing distinct p [] ws
        → Each (KnowsNetwork p) ws → 1 ≤ count → length ws ≤ count → FitsWay distinct way
        → ((i : ℕ) → IsCountedName (name_at names i))
        → IsTellingOf distinct partial p count undercut ws tree marks
    is_telling_of known passing networks asked within fits numbered = record {
      proves = record { listed = passing; passes = passes_marked };
      lean = lean;
      counted = record {
        asked = asked;
        within = within;
        numbered = subst (λ (ks : List Mark). AreNumbered ks) (sym of.marks_are)
            (marks_numbered way (names_at names of.order) (tree_of (shut_cells ms cells) of.order)
            (each_name IsCountedName names numbered of.order));
        ways =
            subst (λ (ks : List Mark). FitWays distinct ks) (sym of.marks_are)
            (marks_fit way distinct fits (names_at names of.order)
            (tree_of (shut_cells ms cells) of.order));
        bare =
            let a : length (names_at names of.order) ≡ length of.order =
            length-names_at names of.order in
            let b : length (tree_of (shut_cells ms cells) of.order) ≡ length of.order =
            length-map of.order (node_at (shut_cells ms cells)) in
            subst (λ (ks : List Mark). AreBare ks tree) (sym of.marks_are)
            (subst
            (λ (w : Tree). AreBare
            (marks_in way (names_at names of.order) (tree_of (shut_cells ms cells) of.order)) w)
            (sym of.tree_is)
            (marks_bare way (names_at names of.order) (tree_of (shut_cells ms cells) of.order)
            (a ∙ sym b)));
      };
      of_networks = networks;
      of_tree = known_tree known;
      few = few known;
    }

  -- ---- an open leaf that stays open
  module _ (there : wanted < length s.pool.payloads) (left : LeavesOpen (proof_of ms wanted)) where
    stands_told : EndsOpen (cell_at s.pool.payloads wanted).end
        → IsOpenAt p IsOpenLeaf (node_of s.start) (told_tree told s.pool.payloads of.order) place
        (place_of (cell_at s.pool.payloads wanted))
    stands_told is =
        told_stands p (leaves.LeafPasses true p (claimed_cost (claim_with s.best)))
        (node_of s.start) s.pool.payloads linked t.kept.grown.fits of.order preorder told
        IsOpenLeaf still
        wanted place there of.stands is
        (told_open way (name_at names wanted) (proof_of ms wanted) is.0 left)

    pub stands_open : EndsOpen (cell_at s.pool.payloads wanted).end
        → IsOpenAt p IsOpenLeaf first_node (marked marks tree) place
        (place_of (cell_at s.pool.payloads wanted))
    stands_open is =
        subst
        (λ (n : Node). IsOpenAt p IsOpenLeaf n (marked marks tree) place
        (place_of (cell_at s.pool.payloads wanted))) first
        (subst
        (λ (w : ranked.Tree). IsOpenAt p IsOpenLeaf (node_of s.start) w place
        (place_of (cell_at s.pool.payloads wanted))) (sym marked_tree) (stands_told is))

    module _ (options : ℕ) (h : IsSpentFor p undercut s ms wanted options) where
      pending : (j : ℕ) → j < length s.pool.payloads
          → (is : EndsOpen (cell_at s.pool.payloads j).end) → IsOpenLeaf (told j (untried is.0))
          → IsPending p (place_of (cell_at s.pool.payloads j))
      pending j lt is o = h.pending j lt is (told_left way (name_at names j) (proof_of ms j) is.0 o)

      spent : IsSpent p IsOpenLeaf undercut first_node (marked marks tree) place
          options s.budget
      spent =
          subst
          (λ (n : Node). IsSpent p IsOpenLeaf undercut n (marked marks tree) place
          options s.budget) first
          (subst
          (λ (w : ranked.Tree). IsSpent p IsOpenLeaf undercut (node_of s.start) w
          place options s.budget) (sym marked_tree)
          (told_is_spent p (leaves.LeafPasses true p (claimed_cost (claim_with s.best)))
          (node_of s.start) s.pool.payloads linked t.kept.grown.fits of.order preorder told
          IsOpenLeaf still
          undercut wanted place options s.budget (stands_told h.can.is_open) h.may
          h.least pending h.count_is h.over))

      exceeds : s.budget < length (tree_of s.pool.payloads of.order) + options
      exceeds =
          let a : length (tree_of s.pool.payloads of.order) ≡ length of.order =
          length-map of.order (node_at s.pool.payloads) in
          let b = preorder_has_all s.pool.payloads of.order linked preorder in
          let o = h.over in
          omega (arith, a, b, o)

      below_limit : IsBelowLimit p s.budget
      below_limit = λ all union.
          let leaf_there : Stands (shape_of p) (node_of s.start ∷ [])
          (tree_of s.pool.payloads of.order) place (place_of (cell_at s.pool.payloads wanted))
          (leaf (untried h.can.is_open.0))
          = subst
          (λ (e : End Leaf). Stands (shape_of p) (node_of s.start ∷ [])
          (tree_of s.pool.payloads of.order) place (place_of (cell_at s.pool.payloads wanted))
          e) h.can.is_open.1 (stands_plain place wanted of.stands) in
          let most =
          few_with_next (shape_of p) (proper_if_valid p valid) all union
          (leaves.LeafPasses true p (claimed_cost (claim_with s.best))) (node_of s.start)
          (tree_of s.pool.payloads of.order) passes_plain
          lean_plain.reduced lean_plain.splits (place_of (cell_at s.pool.payloads 0))
          (cell_at s.pool.payloads 0).end
          (stands_plain 0 0 (head_is s.pool.payloads of.order preorder))
          (t.kept.sound 0 linked.some)
          place (place_of (cell_at s.pool.payloads wanted)) (untried h.can.is_open.0) leaf_there
          h.can.reduced h.way h.can.may h.can.splits in
          under_limit s.budget (length (tree_of s.pool.payloads of.order)) options
          (length (options_at (shape_of p) (place_of (cell_at s.pool.payloads wanted)) h.way))
          (2 ^ suc (length (listed (shape_of p).units all)))
          exceeds h.as_many most
        where
          under_limit : (b n c k m : ℕ) → b < n + c → c ≡ k → n + k < m → b < m
          under_limit b n c k m h e l = omega (arith, h, e, l)

      pub spent_telling : IsSpentOf p undercut tree marks place options s.budget
      spent_telling = record { spent = spent; below_limit = below_limit }

-- ---- the answer of a search for the best networks

module _ (p : Problem) (valid : IsValid p) (count : ℕ) (s : Growing) (fs : List FoundAt)
    (t : IsTreeKeptFor p (undercut_by count fs) s) (first : node_of s.start ≡ first_node)
    (best : AreBest p count s.pool.payloads fs)
    (ms : List (Option Shut)) (wanted place : ℕ) (tree : Tree) (marks : List Mark)
    (of : IsNamedTree s.pool.payloads Only (names_of (length s.pool.payloads) fs) ms wanted tree
    marks place) where
  pub is_telling : (partial : Bool)
      → Closes partial p (undercut_by count fs) s.pool.payloads ms
      → Each IsSized (networks_of fs) → 1 ≤ count
      → IsTelling partial p count (networks_of fs) tree marks
  is_telling partial closes sized asked =
      is_telling_of p valid (undercut_by count fs) s t first Only
      (names_of (length s.pool.payloads) fs) ms wanted place tree marks of false partial count
      (networks_of fs)
      (leaf_passes partial p count (node_of s.start) (claimed_cost (claim_with s.best))
      s.pool.payloads t.kept.grown.fits fs best ms closes)
      (known_cells p valid (undercut_by count fs) s t first Only
      (names_of (length s.pool.payloads) fs) ms wanted place tree marks of partial
      (undercut_by count fs) closes)
      (networks_pass p s.pool.payloads valid (node_of s.start) (claim_with s.best) t.kept.grown
      t.passes t.kept.sound of.order
      (shut_order Only (names_of (length s.pool.payloads) fs) ms s.pool.payloads
      t.kept.grown.linked of.order of.is_preorder) fs
      (each_there p s.pool.payloads fs best.there) best.apart best.rising)
      (knows_networks p s.pool.payloads fs (each_there p s.pool.payloads fs best.there) sized)
      asked
      (let e : length (networks_of fs) ≡ length fs =
      length-map fs (λ (f : FoundAt). f.network) in let b = best.few in omega (arith, e, b))
      tt (counted_name (length s.pool.payloads) fs)

-- ---- three facts of what is answered

pub with_three : {T E : Type 0} {A B C G : T → Type 0} (r : Result T E)
    → ((t : T) → A t → B t → C t → G t) → IfOk r A → IfOk r B → IfOk r C → IfOk r G
with_three (Ok t) f a b c = f t a b c
with_three (Err e) f a b c = tt
