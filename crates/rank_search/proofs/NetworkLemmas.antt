-- The networks pass as a list: no two have the same units, if no two were found at one leaf. For a
-- structure is in the family of one leaf alone.
use Rattle.std.proofs.Common.{◌≡◌, ℕ, suc, ◌<◌, Bool, true, false, List, [], ◌∷◌, length, Some}
use Rattle.std.proofs.Common.{refl}
use Rattle.std.proofs.Common.{sym, ap, ◌∙◌, subst, inl, inr}
use Rattle.std.specs.List.{slice_get}
use Rattle.rank_check.specs.number_sets.Sets.{has}
use Rattle.rank_check.proofs.number_sets.Cited.{below_from}
use Rattle.rank_check.specs.problem_rules.Each.{Each}
use Rattle.rank_check.specs.problem_rules.Problem.{Problem}
use Rattle.rank_check.specs.problem_rules.Validity.{IsValid}
use Rattle.rank_check.specs.pns_rules.Shape.{shape_of}
use Rattle.rank_check.specs.pns_rules.Structure.{IsStructure, IsAllowed, InFamily}
use Rattle.rank_check.specs.pns_rules.Nodes.{Node}
use Rattle.rank_check.specs.pns_rules.Ends.{IsSound}
use Rattle.rank_check.specs.tree_rules.Tree.{leaf, Stands}
use Rattle.rank_check.specs.tree_rules.Claim as claims
use Rattle.rank_check.specs.tree_rules.Claim.{claimed_cost, ClaimPasses, IsSized}
use Rattle.rank_check.specs.tree_rules.Leaf.{bounded, LeafPasses}
use Rattle.rank_check.specs.tree_rules.Accepted.{Proves}
use Rattle.rank_check.proofs.tree_laws.Cited.{leaves_are_apart}
use Rattle.rank_check.specs.rank_rules.Networks.{RisesFrom, IsNewTo, ArePassing}
use Rattle.rank_check.specs.Known.{KnowsNetwork}
use Rattle.abb_search.specs.search_tree.Cells.{Cell, place_of, cell_at}
use Rattle.abb_search.specs.search_tree.Preorder.{IsPreorder, tree_of}
use Rattle.abb_search.specs.search_tree.Laws.{IsGrown}
use Rattle.abb_search.proofs.search_tree.Cited.{passes, cells_stand, aligned_start}
use Rattle.abb_search.specs.node_evaluation.Looks.{IsFoundAt}
use Rattle.rank_search.specs.Found.{FoundAt, networks_of, IsOfLeaf, AreApart, AreRising}
use Rattle.rank_search.specs.Found.{IsFoundThere}
use Rattle.rank_search.proofs.OrderLemmas.{stands_in}

module _ (p : Problem) (cells : List Cell) where
  abbrev pub AreThere : List FoundAt → Type 0
  AreThere fs = Each (IsFoundThere p cells) fs

  pub each_there : (fs : List FoundAt)
      → ((k : ℕ) (f : FoundAt) → slice_get fs k ≡ Some f → IsFoundThere p cells f) → AreThere fs
  each_there [] h = tt
  each_there (f ∷ fs) h = (h 0 f refl, each_there fs (λ k g e. h (suc k) g e))

  pub knows_networks : (fs : List FoundAt) → AreThere fs → Each IsSized (networks_of fs)
      → Each (KnowsNetwork p) (networks_of fs)
  knows_networks [] h s = tt
  knows_networks (f ∷ fs) h s = (
    record {
      rising = s.0.unit_set.rising;
      below =
          below_from (length p.units) f.network.units h.0.found.feasible.structure.s3;
    },
    knows_networks fs h.1 s.1,
  )

  -- ---- in order

  -- they rise, also from the last of the earlier ones
  abbrev RisesOn : List FoundAt → List FoundAt → Type 0
  RisesOn [] fs = AreRising fs
  RisesOn (e ∷ es) fs = AreRising (e ∷ fs)

  rises_from : (earlier : List FoundAt) (f : FoundAt) (fs : List FoundAt) → RisesOn earlier (f ∷ fs)
      → RisesFrom (networks_of earlier) f.network
  rises_from [] f fs h = tt
  rises_from (e ∷ es) f fs h = h.0

  rises_next : (earlier : List FoundAt) (f : FoundAt) (fs : List FoundAt) → RisesOn earlier (f ∷ fs)
      → AreRising (f ∷ fs)
  rises_next [] f fs h = h
  rises_next (e ∷ es) f fs h = h.1

  -- none was found at the leaf of an earlier one
  abbrev AreNew : List FoundAt → List FoundAt → Type 0
  AreNew earlier fs = Each (λ (f : FoundAt). IsOfLeaf f.leaf earlier → ⊥) fs

  new_next : (f : FoundAt) (earlier fs : List FoundAt) → (IsOfLeaf f.leaf fs → ⊥)
      → AreNew earlier fs → AreNew (f ∷ earlier) fs
  new_next f earlier [] h a = tt
  new_next f earlier (g ∷ gs) h a = (
    (λ o. elim o [ inl e ↦ h (inl (sym e)) | inr q ↦ a.0 q ]),
    new_next f earlier gs (λ o. h (inr o)) a.1,
  )

  new_first : (fs : List FoundAt) → AreNew [] fs
  new_first [] = tt
  new_first (f ∷ fs) = ((λ o. o), new_first fs)

  -- two of different leaves have different units
  abbrev AreDifferent : Type 0
  AreDifferent =
      (f g : FoundAt) → IsFoundThere p cells f → IsFoundThere p cells g → (f.leaf ≡ g.leaf → ⊥)
      → ((u : ℕ) → has f.network.units u ≡ has g.network.units u) → ⊥

  module _ (different : AreDifferent) where
    new_to : (earlier : List FoundAt) (f : FoundAt) → AreThere earlier → IsFoundThere p cells f
        → (IsOfLeaf f.leaf earlier → ⊥) → IsNewTo false (networks_of earlier) f.network
    new_to [] f he hf none = tt
    new_to (e ∷ es) f he hf none = (
      (λ same. different e f he.0 hf (λ q. none (inl q)) same),
      new_to es f he.1 hf (λ o. none (inr o)),
    )

    pass_behind : (earlier fs : List FoundAt) → AreThere earlier → AreThere fs → AreNew earlier fs
        → AreApart fs → RisesOn earlier fs
        → ArePassing false p (networks_of earlier) (networks_of fs)
    pass_behind earlier [] he h new apart rise = tt
    pass_behind earlier (f ∷ fs) he h new apart rise = (
      h.0.found.feasible,
      (rises_from earlier f fs rise, new_to earlier f he h.0 new.0),
      pass_behind (f ∷ earlier) fs (h.0, he) h.1 (new_next f earlier fs apart.0 new.1) apart.1
          (rises_next earlier f fs rise),
    )

  -- ---- a structure is in the family of one leaf alone

  family : (n : Node) (w : claims.Network) (s : ℕ → Bool) → IsSound (shape_of p) n → IsFoundAt p n w
      → ((u : ℕ) → s u ≡ has w.units u) → IsStructure (shape_of p) s → IsAllowed (shape_of p) s
      → InFamily (shape_of p) n.inside n.outside s
  family n w s sound found same meets allowed = record {
    between = record {
      meets = meets;
      contains = λ u e. same u ∙ (sym (found.units u) ∙ e);
      avoids = λ u e out. sound.apart u (found.units u ∙ (sym (same u) ∙ e)) out;
    };
    allowed = allowed;
  }

  module _ (valid : IsValid p) (start : Node) (claim : claims.Claim)
      (grown : IsGrown true p start claim cells) (claimed : ClaimPasses true p claim)
      (sound : (i : ℕ) → i < length cells → IsSound (shape_of p) (place_of (cell_at cells i)))
      (order : List ℕ) (preorder : IsPreorder cells (0 ∷ []) order) where
    proves : Proves true p start claim (tree_of cells order)
    proves = record {
      claimed = claimed;
      passes =
          passes (shape_of p) (LeafPasses true p (claimed_cost claim)) start cells grown.linked
          grown.fits (start ∷ []) (0 ∷ []) order
          (aligned_start (shape_of p) (LeafPasses true p (claimed_cost claim)) start cells
          grown.linked grown.fits) preorder;
    }

    stands : (f : FoundAt) (h : IsFoundThere p cells f) (k : ℕ) → slice_get order k ≡ Some f.leaf
        → Stands (shape_of p) (start ∷ []) (tree_of cells order) k (place_of (cell_at cells f.leaf))
        (leaf (bounded h.d h.ys))
    stands f h k e =
        subst
        (λ v. Stands (shape_of p) (start ∷ []) (tree_of cells order) k
        (place_of (cell_at cells f.leaf)) v) h.end_is
        (cells_stand (shape_of p) (LeafPasses true p (claimed_cost claim)) start cells grown.linked
        grown.fits (start ∷ []) (0 ∷ []) order
        (aligned_start (shape_of p) (LeafPasses true p (claimed_cost claim)) start cells
        grown.linked grown.fits) preorder k f.leaf e)

    some_is : (i j : ℕ) → Some i ≡ Some j → i ≡ j
    some_is i j h = cc

    different : AreDifferent
    different f g hf hg apart same =
        let i = stands_in cells order grown.linked preorder f.leaf hf.there in
        let j = stands_in cells order grown.linked preorder g.leaf hg.there in
        let s : ℕ → Bool = has f.network.units in
        let meets : IsStructure (shape_of p) s = hf.found.feasible.structure in
        let allowed : IsAllowed (shape_of p) s = hf.found.feasible.allowed in
        let one : i.place ≡ j.place
        = leaves_are_apart true p valid start claim (tree_of cells order) proves s i.place j.place
        (place_of (cell_at cells f.leaf)) (place_of (cell_at cells g.leaf)) (bounded hf.d hf.ys)
        (bounded hg.d hg.ys)
        (stands f hf i.place i.is)
        (family (place_of (cell_at cells f.leaf)) f.network s (sound f.leaf hf.there) hf.found
        (λ u. refl) meets allowed)
        (stands g hg j.place j.is)
        (family (place_of (cell_at cells g.leaf)) g.network s (sound g.leaf hg.there) hg.found
        same meets allowed) in
        apart (some_is f.leaf g.leaf (sym i.is ∙ (ap (λ (k : ℕ). slice_get order k) one ∙ j.is)))

    pub networks_pass : (fs : List FoundAt) → AreThere fs → AreApart fs → AreRising fs
        → ArePassing false p [] (networks_of fs)
    networks_pass fs there apart rising =
        pass_behind different [] fs tt there (new_first fs) apart rising
