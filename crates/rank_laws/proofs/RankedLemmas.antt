-- What a ranked tree proves of listed networks, and of all others.
use Rattle.std.proofs.Common.{◌≡◌, ◌⊎◌, ℕ, ◌<◌, ◌==◌, ℤ, ◌*ℤ◌, ◌≤ℤ◌, Bool, true, false, not, ◌&&◌}
use Rattle.std.proofs.Common.{cond, List}
use Rattle.std.proofs.Common.{[], ◌∷◌, length, Option, Some, None, refl, sym, ◌∙◌, subst, inl, inr}
use Rattle.std.proofs.Common.{arith}
use Rattle.std.proofs.lemmas.Int.{ints, by_lt_z}
use Rattle.rank_rules.specs.number_sets.Sets.{has, IsWithin}
use Rattle.rank_rules.specs.problem_rules.Problem.{Problem}
use Rattle.rank_rules.specs.problem_rules.Validity.{IsValid}
use Rattle.rank_rules.specs.pns_rules.Shape.{Shape, shape_of}
use Rattle.rank_rules.specs.pns_rules.Structure.{IsStructure, IsAllowed, InFamily}
use Rattle.rank_rules.specs.pns_rules.Nodes.{Node, is_free}
use Rattle.rank_rules.proofs.pns_rules.Cited.{proper_if_valid}
use Rattle.rank_rules.specs.flow_rules.Net.{net_of}
use Rattle.rank_rules.specs.flow_rules.Flows.{cost}
use Rattle.rank_rules.specs.tree_rules.Claim.{Network, CostOver, IsFeasible}
use Rattle.rank_rules.specs.tree_rules.Leaf as leaves
use Rattle.rank_rules.specs.tree_rules.Accepted.{first_node}
use Rattle.rank_rules.specs.tree_rules.Costs.{CostsEnough}
use Rattle.tree_laws.proofs.Cited.{IsUnder, covers, HasScale, leaf_holds}
use Rattle.rank_rules.specs.Networks.{cost_of, numbered, IsListed, last_cost, to_undercut}
use Rattle.rank_rules.specs.Networks.{AreAlike}
use Rattle.rank_rules.specs.declared.naming.Naming.{Naming}
use Rattle.rank_rules.specs.declared.naming.Naming.TheVariants.{Only, Within}
use Rattle.rank_rules.specs.Leaf.{Leaf, plain, named, IsNamed, LeafPasses}
use Rattle.rank_rules.specs.Ranked.{Ranking, IsRanked}
use Rattle.rank_laws.specs.Laws.{ListedAreLeast, OthersCostEnough, OthersHaveNone}
use Rattle.rank_laws.proofs.NetworkLemmas.{AtMostLast, at_least_too, at_most_last, one_network}
use Rattle.rank_laws.proofs.NetworkLemmas.{alike_if_same}
use Rattle.rank_laws.proofs.NetworkLemmas.{is_listed, listed_feasible, positive_scale, last_scale}

-- ---- a node at which nothing is free

same_test : (a b : Bool) → (a ≡ true → b ≡ true) → (b ≡ true → a ≡ true) → a ≡ b
same_test true b h k = sym (h refl)
same_test false true h k = k refl
same_test false false h k = refl

taken_in : (i o : Bool) → (not i && not o) ≡ false → (o ≡ true → ⊥) → i ≡ true
taken_in true o h k = refl
taken_in false true h k = absurd (k refl)
taken_in false false h k = sym h

-- its one structure has the units that are taken in
pub only_structure : (g : Shape) (n : Node) (s : ℕ → Bool)
    → ((u : ℕ) → u < g.units → is_free g n u ≡ false) → InFamily g n.inside n.outside s → (u : ℕ)
    → s u ≡ n.inside u
only_structure g n s none_free f u =
    same_test (s u) (n.inside u)
    (λ e. taken_in (n.inside u) (n.outside u) (none_free u (f.between.meets.s3 u e))
    (λ o. f.between.avoids u e o))
    (λ e. f.between.contains u e)

-- ---- costs

-- what costs at least as much as the last network costs at least as much as each
enough_for : (p : Problem) (w : Network) (claimed : Option CostOver) (s : ℕ → Bool) → IsFeasible p w
    → AtMostLast w claimed → CostsEnough p claimed s → CostsEnough p (Some (cost_of w)) s
enough_for p w None s feasible last h = absurd last
enough_for p w (Some claimed) s feasible last h = λ z d flows.
    at_least_too w.cost w.d claimed.cost claimed.d (cost (net_of p) s z d) d feasible.flows.positive
    last.0 flows.positive last.1 (h z d flows)

-- a cost is to be undercut only if there are as many networks as were asked for
undercuts : (full : Bool) (p : Problem) (w : Network) (last : Option CostOver) (s : ℕ → Bool)
    → IsFeasible p w → AtMostLast w last → CostsEnough p (cond full last None) s
    → CostsEnough p (Some (cost_of w)) s
undercuts true p w last s feasible most h = enough_for p w last s feasible most h
undercuts false p w last s feasible most h = λ z d flows. absurd (h z d flows)

scale_if : (full : Bool) (last : Option CostOver) → HasScale last → HasScale (cond full last None)
scale_if true last h = h
scale_if false last h = tt

-- ---- ranked trees

-- the network has the units of the structure; or, in a list of alternatives, the structure contains
-- the network
abbrev pub IsOf : Bool → Naming → Network → (ℕ → Bool) → Type 0
IsOf distinct Only v s = (u : ℕ) → s u ≡ has v.units u
IsOf distinct Within v s = (distinct ≡ true) × IsWithin (has v.units) s

module _ (p : Problem) (valid : IsValid p) (r : Ranking) (ranked : IsRanked p r) where
  scale : HasScale (to_undercut r.count r.networks)
  scale =
      scale_if (length r.networks == r.count) (last_cost r.networks)
      (last_scale r.distinct p [] r.networks ranked.listed)

  -- a leaf of any tree that passes: each structure of its node costs enough
  plain_holds : (undercut : Option CostOver) → HasScale undercut → (n : Node) (l : leaves.Leaf)
      → leaves.LeafPasses false p undercut n l → (s : ℕ → Bool)
      → InFamily (shape_of p) n.inside n.outside s → CostsEnough p undercut s
  plain_holds undercut has_scale n l h s f =
      elim (leaf_holds p valid false undercut has_scale n l h s f) [
        | inl e ↦ absurd (let no : false ≡ true = e.1 in cc)
        | inr k ↦ k
      ]

  -- a leaf that names a network: the structure of its node costs at least what that does
  named_holds : (way : Naming) (found : Option Network) (n : Node) (d : ℤ) (ys : List ℤ)
      → ((v : Network) → found ≡ Some v → IsFeasible p v) → IsNamed r.distinct way p found n d ys
      → (s : ℕ → Bool) → InFamily (shape_of p) n.inside n.outside s → (v : Network)
      × (found ≡ Some v) × IsOf r.distinct way v s × CostsEnough p (Some (cost_of v)) s
  named_holds Only None n d ys feasible h s f = absurd h.may
  named_holds Within None n d ys feasible h s f = absurd h.may.1
  named_holds Only (Some v) n d ys feasible h s f =
      let units = only_structure (shape_of p) n s h.may.0 f in (
        v,
        refl,
        (λ u. units u ∙ h.may.1 u),
        plain_holds (Some (cost_of v)) (positive_scale p v (feasible v refl)) n
            (leaves.bounded d ys) h.bounded s f,
      )
  named_holds Within (Some v) n d ys feasible h s f = (
    v,
    refl,
    (h.may.0, (λ u e. f.between.contains u (h.may.1 u e))),
    plain_holds (Some (cost_of v)) (positive_scale p v (feasible v refl)) n
        (leaves.bounded d ys) h.bounded s f,
  )

  in_first : (s : ℕ → Bool) → IsStructure (shape_of p) s → IsAllowed (shape_of p) s
      → InFamily (shape_of p) first_node.inside first_node.outside s
  in_first s meets allowed = record {
    between = record { meets = meets; contains = λ u e. absurd cc; avoids = λ u e o. absurd cc };
    allowed = allowed;
  }

  under : (s : ℕ → Bool) → IsStructure (shape_of p) s → IsAllowed (shape_of p) s
      → IsUnder (shape_of p) (LeafPasses r.distinct false p r.networks
      (to_undercut r.count r.networks))
      (first_node ∷ []) r.tree s
  under s meets allowed =
      covers (shape_of p) s (proper_if_valid p valid)
      (LeafPasses r.distinct false p r.networks (to_undercut r.count r.networks))
      (first_node ∷ []) r.tree
      ranked.passes (inl (in_first s meets allowed))

  -- a structure of a leaf costs enough; or it is that of a network, or contains it, and costs at
  -- least what the network does
  abbrev pub Says : (ℕ → Bool) → Type 0
  Says s = CostsEnough p (to_undercut r.count r.networks) s
      ⊎ ((k : ℕ) × (way : Naming) × (v : Network) × (numbered k r.networks ≡ Some v)
      × IsOf r.distinct way v s × CostsEnough p (Some (cost_of v)) s)

  leaf_says : (n : Node) (l : Leaf)
      → LeafPasses r.distinct false p r.networks (to_undercut r.count r.networks) n l
      → (s : ℕ → Bool) → InFamily (shape_of p) n.inside n.outside s → Says s
  leaf_says n (plain l) h s f = inl (plain_holds (to_undercut r.count r.networks) scale n l h s f)
  leaf_says n (named way k d ys) h s f =
      let m =
      named_holds way (numbered k r.networks) n d ys
      (λ v e. listed_feasible r.distinct p r.networks k v ranked.listed e) h s f in
      inr (k, way, m.0, m.1, m.2, m.3)

  pub structure_says : (s : ℕ → Bool) → IsStructure (shape_of p) s → IsAllowed (shape_of p) s
      → Says s
  structure_says s meets allowed =
      let u = under s meets allowed in leaf_says u.node u.what u.passes s u.in_family

  -- the network w has the units of v, or contains them, and costs at least what v does for them
  least_by : (k j : ℕ) (way : Naming) (v w : Network) → numbered j r.networks ≡ Some v
      → numbered k r.networks ≡ Some w → IsOf r.distinct way v (has w.units)
      → CostsEnough p (Some (cost_of v)) (has w.units)
      → CostsEnough p (Some (cost_of w)) (has w.units)
  least_by k j Only v w d e of enough =
      subst (λ (x : Network). CostsEnough p (Some (cost_of x)) (has w.units))
      (sym
      (one_network r.distinct p r.networks k j w v ranked.listed e d
      (alike_if_same r.distinct w v of)))
      enough
  least_by k j Within v w d e of enough =
      let feasible = listed_feasible r.distinct p r.networks k w ranked.listed e in
      let v_feasible = listed_feasible r.distinct p r.networks j v ranked.listed d in
      by_lt_z (v.cost *ℤ w.d) (w.cost *ℤ v.d)
      (λ less. let no_more : (v.cost *ℤ w.d) ≤ℤ (w.cost *ℤ v.d) =
      omega (arith, ints, less) in
      let like : AreAlike r.distinct w v =
      subst (λ (b : Bool). AreAlike b w v) (sym of.0) (inl (of.1, no_more)) in
      subst (λ (x : Network). CostsEnough p (Some (cost_of x)) (has w.units))
      (sym (one_network r.distinct p r.networks k j w v ranked.listed e d like)) enough)
      (λ no_less. enough_for p w (Some (cost_of v)) (has w.units) feasible
      (v_feasible.flows.positive, no_less) enough)

  pub listed_is_least : (k : ℕ) (w : Network) → numbered k r.networks ≡ Some w
      → CostsEnough p (Some (cost_of w)) (has w.units)
  listed_is_least k w e =
      let feasible = listed_feasible r.distinct p r.networks k w ranked.listed e in
      elim (structure_says (has w.units) feasible.structure feasible.allowed) [
        | inl h
            ↦ undercuts (length r.networks == r.count) p w (last_cost r.networks) (has w.units)
            feasible (at_most_last r.distinct p r.networks k w ranked.listed e) h
        | inr m ↦ least_by k m.0 m.1 m.2 w m.3 e m.4 m.5
      ]

  -- the network has the units of the structure, if the ranking is no list of alternatives
  only_of : (way : Naming) (v : Network) (s : ℕ → Bool) → r.distinct ≡ false
      → IsOf r.distinct way v s → (u : ℕ) → s u ≡ has v.units u
  only_of Only v s kind of = of
  only_of Within v s kind of = absurd (let no : false ≡ true = sym kind ∙ of.0 in cc)

  pub other_costs_enough : r.distinct ≡ false → (s : ℕ → Bool) → IsStructure (shape_of p) s
      → IsAllowed (shape_of p) s → (IsListed r.networks s → ⊥)
      → CostsEnough p (to_undercut r.count r.networks) s
  other_costs_enough kind s meets allowed other =
      elim (structure_says s meets allowed) [
        | inl h ↦ h
        | inr m
            ↦ absurd
            (other (is_listed r.networks m.0 m.2 s m.3 (only_of m.1 m.2 s kind m.4)))
      ]

pub listed_are_least : ListedAreLeast
listed_are_least = listed_is_least

is_full : (a b : ℕ) → a ≡ b → (a == b) ≡ true
is_full a b e = grind arith

is_fewer : (a b : ℕ) → a < b → (a == b) ≡ false
is_fewer a b h = grind arith

pub others_cost_enough : OthersCostEnough
others_cost_enough p valid r ranked kind full s meets allowed other =
    subst (λ (b : Bool). CostsEnough p (cond b (last_cost r.networks) None) s)
    (is_full (length r.networks) r.count full)
    (other_costs_enough p valid r ranked kind s meets allowed other)

pub others_have_none : OthersHaveNone
others_have_none p valid r ranked kind fewer s meets allowed other =
    subst (λ (b : Bool). CostsEnough p (cond b (last_cost r.networks) None) s)
    (is_fewer (length r.networks) r.count fewer)
    (other_costs_enough p valid r ranked kind s meets allowed other)
