-- A list of alternatives whose networks and tree pass is right.
use Rattle.std.proofs.Common.{◌≡◌, ◌⊎◌, ℕ, ◌==◌, ℤ, Bool, true, false, cond, length, Option}
use Rattle.std.proofs.Common.{Some, None, refl, sym, subst, inl, inr, eqb-true}
use Rattle.rank_rules.specs.problem_rules.Problem.{Problem}
use Rattle.rank_rules.specs.problem_rules.Validity.{IsValid}
use Rattle.rank_rules.specs.pns_rules.Shape.{shape_of}
use Rattle.rank_rules.specs.pns_rules.Structure.{IsStructure, IsAllowed}
use Rattle.rank_rules.specs.flow_rules.Net.{net_of}
use Rattle.rank_rules.specs.flow_rules.Flows.{IsFlows}
use Rattle.rank_rules.specs.tree_rules.Claim.{Network, CostOver}
use Rattle.rank_rules.specs.tree_rules.Costs.{CostsEnough}
use Rattle.rank_rules.specs.declared.naming.Naming.{Naming}
use Rattle.rank_rules.specs.declared.naming.Naming.TheVariants.{Only, Within}
use Rattle.rank_rules.specs.Networks.{cost_of, numbered, IsListed, last_cost, to_undercut, AreAlike}
use Rattle.rank_rules.specs.Ranked.{Ranking, IsRanked}
use Rattle.rank_rules.specs.Alternatives.{ContainsListed, CostsLast}
use Rattle.rank_laws.specs.Laws.{AlternativesAreRight}
use Rattle.rank_laws.proofs.NetworkLemmas.{next_rises, one_place, is_listed, listed_feasible}
use Rattle.rank_laws.proofs.RankedLemmas.{IsOf, structure_says, listed_is_least}

-- what has flows costs enough only if a cost is compared with
compared : (full : Bool) (p : Problem) (last : Option CostOver) (s : ℕ → Bool) (z : ℕ → ℤ) (d : ℤ)
    → IsFlows (net_of p) s z d → CostsEnough p (cond full last None) s
    → (full ≡ true) × CostsEnough p last s
compared true p last s z d flows h = (refl, h)
compared false p last s z d flows h = absurd (h z d flows)

module _ (p : Problem) (r : Ranking) where
  costs_last : (s : ℕ → Bool) (z : ℕ → ℤ) (d : ℤ) → IsFlows (net_of p) s z d
      → CostsEnough p (to_undercut r.count r.networks) s → CostsLast p r.count r.networks s
  costs_last s z d flows h =
      let q =
      compared (length r.networks == r.count) p (last_cost r.networks) s z d flows h in
      (eqb-true (length r.networks) r.count q.0, q.1)

  -- the structure is not listed, so it contains the network
  contains : (s : ℕ → Bool) → (IsListed r.networks s → ⊥) → (k : ℕ) (way : Naming) (v : Network)
      → numbered k r.networks ≡ Some v → IsOf r.distinct way v s
      → CostsEnough p (Some (cost_of v)) s → ContainsListed p r.networks s
  contains s other k Only v e of enough = absurd (other (is_listed r.networks k v s e of))
  contains s other k Within v e of enough = (k, v, e, of.1, enough)

  others : IsValid p → IsRanked p r → (s : ℕ → Bool) (z : ℕ → ℤ) (d : ℤ)
      → IsStructure (shape_of p) s → IsAllowed (shape_of p) s → IsFlows (net_of p) s z d
      → (IsListed r.networks s → ⊥)
      → ContainsListed p r.networks s ⊎ CostsLast p r.count r.networks s
  others valid ranked s z d meets allowed flows other =
      elim (structure_says p valid r ranked s meets allowed) [
        | inl h ↦ inr (costs_last s z d flows h)
        | inr m ↦ inl (contains s other m.0 m.1 m.2 m.3 m.4 m.5)
      ]

pub alternatives_are_right : AlternativesAreRight
alternatives_are_right p valid r ranked distinct few = record {
  few = few;
  each =
      λ k w e. record {
        feasible = listed_feasible r.distinct p r.networks k w ranked.listed e;
        least = listed_is_least p valid r ranked k w e;
      };
  rises = λ k v w d e. next_rises r.distinct p r.networks k v w ranked.listed d e;
  apart =
      λ j k v w other d e repeats. other
      (one_place r.distinct p r.networks j k v w ranked.listed d e
      (subst (λ (b : Bool). AreAlike b v w) (sym distinct) (inl repeats)));
  others = others p r valid ranked;
}
