-- A node of a tree whose leaves became others is a node of the tree of the cells, at some place.
use Rattle.std.proofs.Common.{◌≡◌, ℕ, ◌+◌, ◌<◌, List, [], ◌∷◌, length, Option, Some, refl, sym}
use Rattle.std.proofs.Common.{ap}
use Rattle.std.proofs.Common.{◌∙◌, subst, arith, inl, inr}
use Rattle.std.specs.List.{slice_get}
use Rattle.std.proofs.lemmas.Bool.{cases_eq}
use Rattle.std.proofs.lemmas.List.{length-map}
use Rattle.rank_check.specs.problem_rules.Problem.{Problem}
use Rattle.rank_check.specs.pns_rules.Shape.{shape_of}
use Rattle.rank_check.specs.pns_rules.Nodes.{Node}
use Rattle.rank_check.specs.tree_rules.Ways.{Way}
use Rattle.rank_check.specs.tree_rules.Tree.{End, branch, leaf, Stands}
use Rattle.rank_check.specs.tree_rules.Leaf.{Leaf, Scaled, untried, IsUntried}
use Rattle.rank_check.specs.tree_rules.Claim.{CostOver}
use Rattle.rank_check.specs.tree_rules.Lean.{MayUndercut, IsNoDearer, IsLean}
use Rattle.rank_check.specs.tree_rules.Stops.{IsOpenAt, IsPending, IsNextCount, IsSpent}
use Rattle.abb_search.specs.search_tree.Growth.{EndsOpen}
use Rattle.abb_search.specs.search_tree.Cells.{Cell, place_of, cell_at, IsLinked}
use Rattle.abb_search.specs.search_tree.Fits.{Fits}
use Rattle.abb_search.specs.search_tree.Preorder.{IsPreorder, tree_of, told_end, told_at, told_tree}
use Rattle.abb_search.proofs.search_tree.Cited.{preorder_has_all, nodes_are_told, told_cells_stand}
use Rattle.abb_search.proofs.search_tree.Cited.{cells_stand, aligned_start, no_dearer_self}
use Rattle.abb_search.specs.search_tree.Turns.{IsLeastOpen}
use Rattle.rank_search.proofs.OrderLemmas.{stands_in}

module _ {L : Type 0} (f : Leaf → L) where
  told_branch : (e : End Leaf) (w : Way) → told_end f e ≡ branch w → e ≡ branch w
  told_branch (branch v) w h = let q : v ≡ w = cc in ap (λ (u : Way). branch u) q
  told_branch (leaf l) w h = cc

  record IsToldAs (e : End Leaf) (l : L) : Type 0 where
    pub was : Leaf
    pub end_is : e ≡ leaf was
    pub told : f was ≡ l

  told_leaf : (e : End Leaf) (l : L) → told_end f e ≡ leaf l → IsToldAs e l
  told_leaf (branch v) l h = cc
  told_leaf (leaf k) l h = record { was = k; end_is = refl; told = cc }

module _ (p : Problem) (P : Node → Leaf → Type 0) (start : Node) (cells : List Cell)
    (linked : IsLinked cells) (fits : Fits (shape_of p) P start cells) (order : List ℕ)
    (preorder : IsPreorder cells (0 ∷ []) order) {L : Type 0} (f : ℕ → Leaf → L) where
  record StandsPlain (n : Node) (e : End L) : Type 0 where
    pub place : ℕ
    pub number : ℕ
    pub there : number < length cells
    pub stands : Stands (shape_of p) (start ∷ []) (tree_of cells order) place n
        (cell_at cells number).end
    pub told : told_end (f number) (cell_at cells number).end ≡ e

  plain : (k : ℕ) (n : Node) (e : End L)
      → Stands (shape_of p) (start ∷ []) (told_tree f cells order) k n e → StandsPlain n e
  plain k n e s =
      let c =
      nodes_are_told (shape_of p) P start cells linked fits f (start ∷ []) (0 ∷ []) order
      (aligned_start (shape_of p) P start cells linked fits) preorder k n e s in
      let w = stands_in cells order linked preorder c.number c.there in
      record {
        place = w.place;
        number = c.number;
        there = c.there;
        stands =
            subst
            (λ (m : Node). Stands (shape_of p) (start ∷ []) (tree_of cells order) w.place m
            (cell_at cells c.number).end) c.node_is
            (cells_stand (shape_of p) P start cells linked fits (start ∷ []) (0 ∷ []) order
            (aligned_start (shape_of p) P start cells linked fits) preorder w.place c.number
            w.is);
        told = c.end_is;
      }

  -- a branch is a branch there
  record IsBranchThere (n : Node) (w : Way) : Type 0 where
    pub place : ℕ
    pub stands : Stands (shape_of p) (start ∷ []) (tree_of cells order) place n (branch w)

  branch_there : (k : ℕ) (n : Node) (w : Way)
      → Stands (shape_of p) (start ∷ []) (told_tree f cells order) k n (branch w)
      → IsBranchThere n w
  branch_there k n w s =
      let c = plain k n (branch w) s in
      record {
        place = c.place;
        stands =
            subst
            (λ (e : End Leaf). Stands (shape_of p) (start ∷ []) (tree_of cells order) c.place n e)
            (told_branch (f c.number) (cell_at cells c.number).end w c.told) c.stands;
      }

  -- ---- if only open leaves become open ones
  module _ (IsOpen : L → Type 0) (still : (i : ℕ) (l : Leaf) → IsOpen (f i l) → IsUntried l) where
    record IsOpenThere (n : Node) : Type 0 where
      pub place : ℕ
      pub low : Option Scaled
      pub stands : Stands (shape_of p) (start ∷ []) (tree_of cells order) place n
          (leaf (untried low))

    open_there : (k : ℕ) (n : Node) (l : L)
        → Stands (shape_of p) (start ∷ []) (told_tree f cells order) k n (leaf l) → IsOpen l
        → IsOpenThere n
    open_there k n l s o =
        let c = plain k n (leaf l) s in
        let t = told_leaf (f c.number) (cell_at cells c.number).end l c.told in
        let was : IsUntried t.was = still c.number t.was (subst IsOpen (sym t.told) o) in
        record {
          place = c.place;
          low = was.0;
          stands =
              subst
              (λ (e : End Leaf). Stands (shape_of p) (start ∷ []) (tree_of cells order) c.place n
              e)
              (t.end_is ∙ ap (λ (w : Leaf). leaf w) was.1) c.stands;
        }

    pub told_is_lean : (undercut : Option CostOver)
        → IsLean p IsUntried undercut start (tree_of cells order)
        → IsLean p IsOpen undercut start (told_tree f cells order)
    told_is_lean undercut lean = record {
      reduced = λ k w n s. let b = branch_there k n w s in lean.reduced b.place w n b.stands;
      splits = λ k w n s. let b = branch_there k n w s in lean.splits b.place w n b.stands;
      of_use = λ k w n s. let b = branch_there k n w s in lean.of_use b.place w n b.stands;
      in_turn = λ k w n s j m l t o no_dead.
          let b = branch_there k n w s in
          let q = open_there j m l t o in
          lean.in_turn b.place w n b.stands q.place m (untried q.low) q.stands (q.low, refl)
          no_dead;
    }

    -- an open leaf that is open in the answer has its place
    module _ (at place : ℕ) (there : at < length cells)
        (stands : slice_get order place ≡ Some at) where
      pub told_stands : (is : EndsOpen (cell_at cells at).end) → IsOpen (f at (untried is.0))
          → IsOpenAt p IsOpen start (told_tree f cells order) place (place_of (cell_at cells at))
      told_stands is o = record {
        what = f at (untried is.0);
        stands =
            subst
            (λ (e : End Leaf). Stands (shape_of p) (start ∷ []) (told_tree f cells order) place
            (place_of (cell_at cells at)) (told_end (f at) e)) is.1
            (told_cells_stand (shape_of p) P start cells linked fits f (start ∷ []) (0 ∷ []) order
            (aligned_start (shape_of p) P start cells linked fits) preorder place at stands);
        is_open = o;
      }

    -- ---- the budget is spent

    -- an open leaf of the answer is that of an open cell
    record IsOpenCell (n : Node) : Type 0 where
      pub number : ℕ
      pub there : number < length cells
      pub node_is : place_of (cell_at cells number) ≡ n
      pub end_is : EndsOpen (cell_at cells number).end
      pub is_open : IsOpen (f number (untried end_is.0))

    open_cell : (k : ℕ) (n : Node) → IsOpenAt p IsOpen start (told_tree f cells order) k n
        → IsOpenCell n
    open_cell k n o =
        let c =
        nodes_are_told (shape_of p) P start cells linked fits f (start ∷ []) (0 ∷ []) order
        (aligned_start (shape_of p) P start cells linked fits) preorder k n (leaf o.what)
        o.stands in
        let t = told_leaf (f c.number) (cell_at cells c.number).end o.what c.end_is in
        let now : IsOpen (f c.number t.was) = subst IsOpen (sym t.told) o.is_open in
        let was : IsUntried t.was = still c.number t.was now in
        record {
          number = c.number;
          there = c.there;
          node_is = c.node_is;
          end_is = (was.0, t.end_is ∙ ap (λ (w : Leaf). leaf w) was.1);
          is_open = subst (λ (w : Leaf). IsOpen (f c.number w)) was.1 now;
        }

    module _ (undercut : Option CostOver) (at place count budget : ℕ)
        (at_leaf : IsOpenAt p IsOpen start (told_tree f cells order) place
        (place_of (cell_at cells at)))
        (may : MayUndercut p undercut (place_of (cell_at cells at)))
        (least : IsLeastOpen p cells at)
        (pending : (j : ℕ) → j < length cells → (is : EndsOpen (cell_at cells j).end)
        → IsOpen (f j (untried is.0)) → IsPending p (place_of (cell_at cells j)))
        (count_is : IsNextCount (shape_of p) (place_of (cell_at cells at)) count)
        (over : budget < length cells + count) where
      pending_at : (n : Node) → IsOpenCell n → IsPending p n
      pending_at n c =
          subst (λ (m : Node). IsPending p m) c.node_is
          (pending c.number c.there c.end_is c.is_open)

      dearer_at : (n : Node) → IsOpenCell n → IsNoDearer p (place_of (cell_at cells at)) n
      dearer_at n c =
          subst (λ (m : Node). IsNoDearer p (place_of (cell_at cells at)) m) c.node_is
          (elim (cases_eq c.number at) [
            | inl e
                ↦ subst
                (λ i. IsNoDearer p (place_of (cell_at cells at)) (place_of (cell_at cells i)))
                (sym e) (no_dearer_self p (place_of (cell_at cells at)))
            | inr ne
                ↦ least c.number c.there ne c.end_is
                (pending c.number c.there c.end_is c.is_open).reduced.live.no_dead
          ])

      pub told_is_spent : IsSpent p IsOpen undercut start (told_tree f cells order) place count
          budget
      told_is_spent = record {
        pending = λ k n o. pending_at n (open_cell k n o);
        node = place_of (cell_at cells at);
        at_leaf = at_leaf;
        of_use = may;
        least = λ k n o. dearer_at n (open_cell k n o);
        count_is = count_is;
        exceeds =
            let a : length (told_tree f cells order) ≡ length order =
            length-map order (told_at f cells) in
            let b = preorder_has_all cells order linked preorder in
            omega (arith, a, b, over);
      }
