-- Each leaf of the answer passes: one that names a network names the one of its node, and another
-- one, if it is bounded, is bounded by the last network.
use Rattle.std.proofs.Common.{◌≡◌, ℕ, zero, suc, ◌+◌, ◌<◌, ℤ, Bool, true, false, cond, List, []}
use Rattle.std.proofs.Common.{◌∷◌, length, Option, Some, None, refl, sym, ap, ◌∙◌, subst, arith}
use Rattle.std.proofs.Common.{inl, inr, eq-eqb, true≢false}
use Rattle.std.specs.List.{slice_get}
use Rattle.std.proofs.lemmas.List.{length-map}
use Rattle.rank_check.specs.problem_rules.Problem.{Problem}
use Rattle.rank_check.specs.pns_rules.Shape.{shape_of}
use Rattle.rank_check.specs.pns_rules.Nodes.{Node}
use Rattle.rank_check.specs.tree_rules.Tree.{End, leaf}
use Rattle.rank_check.specs.tree_rules.Leaf as leaves
use Rattle.rank_check.specs.tree_rules.Leaf.{Leaf, Scaled, dead, clash, refuted, bounded, charged}
use Rattle.rank_check.specs.tree_rules.Leaf.{untried}
use Rattle.rank_check.specs.tree_rules.Leaf.{IsUntried, IsBounded}
use Rattle.rank_check.specs.tree_rules.Claim.{Network, CostOver}
use Rattle.rank_check.specs.rank_rules.declared.naming.Naming.{Naming}
use Rattle.rank_check.specs.rank_rules.declared.naming.Naming.TheVariants.{Only}
use Rattle.rank_check.specs.rank_rules.Leaf as ranks
use Rattle.rank_check.specs.rank_rules.Leaf.{IsOpenLeaf}
use Rattle.rank_check.specs.rank_rules.Networks.{numbered, network_at, last_cost}
use Rattle.abb_search.specs.search_tree.Growth.{EndsOpen}
use Rattle.abb_search.specs.search_tree.declared.shut.Shut.{Shut}
use Rattle.abb_search.specs.search_tree.declared.shut.Shut.TheVariants as shuts
use Rattle.abb_search.specs.search_tree.Cells.{Cell, place_of, cell_at}
use Rattle.abb_search.specs.search_tree.Fits.{EndFits, Fits}
use Rattle.abb_search.specs.search_tree.Shut.{shut_as, shut_leaf}
use Rattle.abb_search.proofs.search_tree.Cited.{proof_of}
use Rattle.abb_search.specs.node_evaluation.Looks.{is_charged_leaf, is_charged}
use Rattle.abb_search.specs.declared.growing.Growing.{Growing}
use Rattle.abb_search.specs.Closing.{EndsNode, ShutsLeaf, ShutAll, EndsIfSome, EndSome}
use Rattle.abb_search.specs.Closing.{LeavesOpen}
use Rattle.rank_search.specs.Found.{FoundAt, networks_of, undercut_by, IsOfLeaf, IsFoundThere}
use Rattle.rank_search.specs.Found.{AreBest}
use Rattle.rank_search.specs.Naming.{names_of}
use Rattle.rank_search.proofs.NameLemmas.{name_is}
use Rattle.rank_search.proofs.MarkLemmas.{named_leaf}
use Rattle.rank_search.proofs.OrderLemmas.{leaf_told}

-- ---- open leaves

-- an open leaf stays open in a partial tree, or may end with the item at its number
abbrev pub ClosesAt : Bool → Problem → Option CostOver → Node → Option Shut → Type 0
ClosesAt partial p undercut n None = partial ≡ true
ClosesAt partial p undercut n (Some m) = EndsNode partial p undercut n m

abbrev pub Closes : Bool → Problem → Option CostOver → List Cell → List (Option Shut) → Type 0
Closes partial p undercut cells ms = (j : ℕ) → j < length cells
    → EndsOpen (cell_at cells j).end
    → ClosesAt partial p undercut (place_of (cell_at cells j)) (proof_of ms j)

shuts_one : (p : Problem) (undercut : Option CostOver) (c : Cell) (m : Option Shut)
    → EndsOpen c.end → ShutsLeaf p undercut c m → ClosesAt false p undercut (place_of c) m
shuts_one p undercut c None is h = absurd (h is)
shuts_one p undercut c (Some m) is h = h

pub all_close : (p : Problem) (s : Growing) (undercut : Option CostOver) (ms : List (Option Shut))
    → ShutAll p s undercut ms → Closes false p undercut s.pool.payloads ms
all_close p s undercut ms h j lt is =
    shuts_one p undercut (cell_at s.pool.payloads j) (proof_of ms j) is (h j lt)

shuts_some : (p : Problem) (undercut : Option CostOver) (n : Node) (m : Option Shut)
    → EndsIfSome p undercut n m → ClosesAt true p undercut n m
shuts_some p undercut n None h = refl
shuts_some p undercut n (Some m) h = h

pub some_close : (p : Problem) (s : Growing) (undercut : Option CostOver) (ms : List (Option Shut))
    → EndSome p s undercut ms → Closes true p undercut s.pool.payloads ms
some_close p s undercut ms h j lt is =
    shuts_some p undercut (place_of (cell_at s.pool.payloads j)) (proof_of ms j) (h j lt)

-- ---- a leaf without a name

pub shut_passes : (partial : Bool) (p : Problem) (undercut : Option CostOver) (n : Node) (m : Shut)
    → EndsNode partial p undercut n m → leaves.LeafPasses partial p undercut n (shut_as m)
shut_passes partial p undercut n (shuts.Bounded m) h = h.bounded
shut_passes partial p undercut n (shuts.Refuted ys) h = h.refuted
shut_passes partial p undercut n (shuts.Low m) h = (h.0, h.1.low)

pub plain_passes : (partial : Bool) (p : Problem) (claimed undercut : Option CostOver) (n : Node)
    (l : Leaf) (m : Option Shut) → leaves.LeafPasses true p claimed n l
    → ((d : ℤ) (ys : List ℤ) → l ≡ bounded d ys → IsBounded p undercut n d ys)
    → is_charged_leaf l ≡ false → (IsUntried l → ClosesAt partial p undercut n m)
    → leaves.LeafPasses partial p undercut n (shut_leaf m l)
plain_passes partial p claimed undercut n (dead x) None h b u o = h
plain_passes partial p claimed undercut n (dead x) (Some m) h b u o = h
plain_passes partial p claimed undercut n (clash k) None h b u o = h
plain_passes partial p claimed undercut n (clash k) (Some m) h b u o = h
plain_passes partial p claimed undercut n (refuted ys) None h b u o = h
plain_passes partial p claimed undercut n (refuted ys) (Some m) h b u o = h
plain_passes partial p claimed undercut n (bounded d ys) None h b u o = b d ys refl
plain_passes partial p claimed undercut n (bounded d ys) (Some m) h b u o = b d ys refl
plain_passes partial p claimed undercut n (charged c) m h b u o = absurd (true≢false u)
plain_passes partial p claimed undercut n (untried low) None h b u o = (o (low, refl), h.1)
plain_passes partial p claimed undercut n (untried low) (Some m) h b u o =
    shut_passes partial p undercut n m (o (low, refl))

pub bounded_stays : (m : Option Shut) (d : ℤ) (ys : List ℤ) → shut_leaf m (bounded d ys)
    ≡ bounded d ys
bounded_stays None d ys = refl
bounded_stays (Some m) d ys = refl

-- ---- an open leaf of the answer was open before

shut_open : (m : Option Shut) (l : Leaf) → IsUntried (shut_leaf m l) → IsUntried l
shut_open None l h = h
shut_open (Some m) (dead x) h = h
shut_open (Some m) (clash k) h = h
shut_open (Some m) (refuted ys) h = h
shut_open (Some m) (bounded d ys) h = h
shut_open (Some m) (charged c) h = h
shut_open (Some m) (untried low) h = (low, refl)

plain_is : (l k : Leaf) → ranks.plain l ≡ ranks.plain k → l ≡ k
plain_is l k h = cc

named_open : (way : Naming) (n : Option ℕ) (l : Leaf) → IsOpenLeaf (named_leaf way n l)
    → IsUntried l
named_open way None l h = (h.0, plain_is l (untried h.0) h.1)
named_open way (Some k) (dead x) h = (h.0, plain_is (dead x) (untried h.0) h.1)
named_open way (Some k) (clash x) h = (h.0, plain_is (clash x) (untried h.0) h.1)
named_open way (Some k) (refuted ys) h = (h.0, plain_is (refuted ys) (untried h.0) h.1)
named_open way (Some k) (bounded d ys) h =
    absurd (let q : ranks.named way k d ys ≡ ranks.plain (untried h.0) = h.1 in cc)
named_open way (Some k) (charged c) h = (h.0, plain_is (charged c) (untried h.0) h.1)
named_open way (Some k) (untried low) h = (low, refl)

pub still_open : (way : Naming) (n : Option ℕ) (m : Option Shut) (l : Leaf)
    → IsOpenLeaf (named_leaf way n (shut_leaf m l)) → IsUntried l
still_open way n m l h = shut_open m l (named_open way n (shut_leaf m l) h)

left_open : (m : Shut) → IsUntried (shut_as m) → LeavesOpen (Some m)
left_open (shuts.Bounded m) h = absurd (let q : bounded m.d m.ys ≡ untried h.0 = h.1 in cc)
left_open (shuts.Refuted ys) h = absurd (let q : refuted ys ≡ untried h.0 = h.1 in cc)
left_open (shuts.Low m) h = tt

-- the item leaves one open that is open in the answer
pub told_left : (way : Naming) (n : Option ℕ) (m : Option Shut) (low : Option Scaled)
    → IsOpenLeaf (named_leaf way n (shut_leaf m (untried low))) → LeavesOpen m
told_left way n None low h = tt
told_left way n (Some m) low h = left_open m (named_open way n (shut_as m) h)

-- if the item leaves it open, an open leaf is open in the answer
pub told_open : (way : Naming) (n : Option ℕ) (m : Option Shut) (low : Option Scaled) → LeavesOpen m
    → IsOpenLeaf (named_leaf way n (shut_leaf m (untried low)))
told_open way None None low k = (low, refl)
told_open way (Some i) None low k = (low, refl)
told_open way n (Some (shuts.Bounded m)) low k = absurd k
told_open way n (Some (shuts.Refuted ys)) low k = absurd k
told_open way None (Some (shuts.Low m)) low k = (Some m, refl)
told_open way (Some i) (Some (shuts.Low m)) low k = (Some m, refl)

-- ---- the networks by their numbers

network_there : (fs : List FoundAt) (at : ℕ) (f : FoundAt) → slice_get fs at ≡ Some f
    → network_at at (networks_of fs) ≡ Some f.network
network_there [] at f h = cc
network_there (g ∷ gs) zero f h = let e : g ≡ f = cc in ap (λ (o : FoundAt). Some o.network) e
network_there (g ∷ gs) (suc at) f h = network_there gs at f h

one_more : (at : ℕ) → 1 + at ≡ suc at
one_more at = omega arith

pub numbered_there : (fs : List FoundAt) (at : ℕ) (f : FoundAt) → slice_get fs at ≡ Some f
    → numbered (1 + at) (networks_of fs) ≡ Some f.network
numbered_there fs at f h = ap (λ (k : ℕ). numbered k (networks_of fs)) (one_more at)
    ∙ network_there fs at f h

pub undercut_is : (count : ℕ) (fs : List FoundAt) → length fs ≡ count
    → undercut_by count fs ≡ last_cost (networks_of fs)
undercut_is count fs h =
    let l : length (networks_of fs) ≡ count = length-map fs (λ (f : FoundAt). f.network) ∙ h in
    ap (λ (b : Bool). cond b (last_cost (networks_of fs)) None)
    (eq-eqb (length (networks_of fs)) count l)

pub end_inj : (l k : Leaf) → leaf l ≡ leaf k → l ≡ k
end_inj l k h = cc

-- ---- a leaf of the answer

module _ (partial : Bool) (p : Problem) (count : ℕ) (start : Node) (claimed : Option CostOver)
    (cells : List Cell) (fits : Fits (shape_of p) (leaves.LeafPasses true p claimed) start cells)
    (fs : List FoundAt) (best : AreBest p count cells fs) (ms : List (Option Shut))
    (closes : Closes partial p (undercut_by count fs) cells ms) where
  abbrev Holds : ℕ → Option ℕ → Leaf → Type 0
  Holds i name l =
      ranks.LeafPasses false partial p (networks_of fs) (undercut_by count fs)
      (place_of (cell_at cells i)) (named_leaf Only name (shut_leaf (proof_of ms i) l))

  without_name : (i : ℕ) → i < length cells → (IsOfLeaf i fs → ⊥) → (l : Leaf)
      → (cell_at cells i).end ≡ leaf l → Holds i None l
  without_name i lt none l e =
      plain_passes partial p claimed (undercut_by count fs) (place_of (cell_at cells i)) l
      (proof_of ms i)
      (subst
      (λ (d : End Leaf). EndFits (shape_of p) (leaves.LeafPasses true p claimed) cells
      (place_of (cell_at cells i)) (cell_at cells i).first d) e (fits.ends i lt))
      (λ d ys q. elim (best.leaves i lt d ys (e ∙ ap (λ (k : Leaf). leaf k) q)) [
        | inl o ↦ absurd (none o)
        | inr h
            ↦ subst (λ (o : Option CostOver). IsBounded p o (place_of (cell_at cells i)) d ys)
            (sym (undercut_is count fs h.0)) h.1
      ])
      (ap (λ (d : End Leaf). is_charged d) (sym e) ∙ best.uncharged i lt)
      (λ q. closes i lt (q.0, e ∙ ap (λ (k : Leaf). leaf k) q.1))

  with_name : (at : ℕ) (f : FoundAt) → slice_get fs at ≡ Some f → (l : Leaf)
      → (cell_at cells f.leaf).end ≡ leaf l → Holds f.leaf (Some (1 + at)) l
  with_name at f there l e =
      let h : IsFoundThere p cells f = best.there at f there in
      let is : l ≡ bounded h.d h.ys = end_inj l (bounded h.d h.ys) (sym e ∙ h.end_is) in
      subst (λ (k : Leaf). Holds f.leaf (Some (1 + at)) k) (sym is)
      (subst
      (λ (k : Leaf). ranks.LeafPasses false partial p (networks_of fs) (undercut_by count fs)
      (place_of (cell_at cells f.leaf)) (named_leaf Only (Some (1 + at)) k))
      (sym (bounded_stays (proof_of ms f.leaf) h.d h.ys))
      (subst (λ (o : Option Network). ranks.IsNamed false Only p o (place_of
      (cell_at cells f.leaf)) h.d h.ys)
      (sym (numbered_there fs at f there))
      (record { may = (h.found.none_free, h.found.units); bounded = h.bound })))

  pub leaf_passes : (i : ℕ) → i < length cells → (l : Leaf) → (cell_at cells i).end ≡ leaf l
      → ranks.LeafPasses false partial p (networks_of fs) (undercut_by count fs)
      (place_of (cell_at cells i)) (leaf_told Only (names_of (length cells) fs) ms i l)
  leaf_passes i lt l e = elim (name_is (length cells) fs i lt) [
    | inl h ↦ subst (λ (n : Option ℕ). Holds i n l) (sym h.name_is)
        (subst (λ (j : ℕ). (k : Leaf) → (cell_at cells j).end ≡ leaf k
        → Holds j (Some (1 + h.at)) k) h.of_leaf (with_name h.at h.one h.there) l e)
    | inr h ↦ subst (λ (n : Option ℕ). Holds i n l) (sym h.1) (without_name i lt h.0 l e)
  ]
