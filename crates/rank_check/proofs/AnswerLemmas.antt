-- The answer is the one answer that the ranking has, unless there is no memory.
use Rattle.std.proofs.Common.{ℕ, false, [], Result, Ok, Err, OnOk, IfErr, refl, ap₂, inl, inr}
use Rattle.rank_laws.specs.problem_rules.Problem.{Problem}
use Rattle.rank_laws.specs.rank_rules.declared.why.RankWhy.{RankWhy}
use Rattle.rank_laws.specs.rank_rules.Networks.{ArePassing}
use Rattle.rank_laws.specs.rank_rules.Ranked.{Ranking, IsRanked, NetworkIsFault, NodeIsFault}
use Rattle.rank_laws.specs.Laws.{PassingNetworksHaveNoFault, NetworksHaveOneFault}
use Rattle.rank_laws.specs.Laws.{PassingTreeHasNoFault, TreeHasOneFault}
use Rattle.rank_check.specs.declared.refusal.RankRefusal.{RankRefusal}
use Rattle.rank_check.specs.declared.refusal.RankRefusal.TheVariants.{Memory, Network, Node}
use Rattle.rank_check.specs.Refusals.{IsNodeAnswer, Refuses, IsOkOrMemory, IsRefusalOrMemory}

module _ {A : Type 0} (p : Problem) (r : Ranking) where
  pub accepts : PassingNetworksHaveNoFault → PassingTreeHasNoFault → (a : Result A RankRefusal)
      → IfErr a (Refuses p r) → IsRanked p r → IsOkOrMemory a
  accepts no_network no_node (Ok x) f h = tt
  accepts no_network no_node (Err Memory) f h = refl
  accepts no_network no_node (Err (Network k why)) f h = absurd (no_network p r k why h.listed f)
  accepts no_network no_node (Err (Node k why)) f h = absurd (no_node false p r k why h f.1)

  pub names_network : PassingNetworksHaveNoFault → NetworksHaveOneFault → (a : Result A RankRefusal)
      → OnOk a (IsRanked p r) → IfErr a (Refuses p r) → (k : ℕ) (why : RankWhy)
      → NetworkIsFault p r k why → IsRefusalOrMemory (Network k why) a
  names_network no_network one (Ok x) h f k why fails = no_network p r k why h.listed fails
  names_network no_network one (Err Memory) h f k why fails = inr refl
  names_network no_network one (Err (Network j other)) h f k why fails =
      let q = one p r j k other why f fails in
      inl (ap₂ (λ (i : ℕ) (w : RankWhy). Network i w) q.0 q.1)
  names_network no_network one (Err (Node j other)) h f k why fails =
      absurd (no_network p r k why f.0 fails)

  pub names_node : PassingNetworksHaveNoFault → PassingTreeHasNoFault → TreeHasOneFault
      → (a : Result A RankRefusal) → OnOk a (IsRanked p r) → IfErr a (Refuses p r)
      → (k : ℕ) (why : RankWhy) → ArePassing r.distinct p [] r.networks
      → NodeIsFault false p r k why
      → IsRefusalOrMemory (Node k why) a
  names_node no_network no_node one (Ok x) h f k why passes fails = no_node false p r k why h fails
  names_node no_network no_node one (Err Memory) h f k why passes fails = inr refl
  names_node no_network no_node one (Err (Network j other)) h f k why passes fails =
      absurd (no_network p r j other passes f)
  names_node no_network no_node one (Err (Node j other)) h f k why passes fails =
      let q = one false p r j k other why f.1 fails in
      inl (ap₂ (λ (i : ℕ) (w : RankWhy). Node i w) q.0 q.1)

  -- the networks pass, and the tree is judged
  pub refuses : (a : Result A RankRefusal) → ArePassing r.distinct p [] r.networks → IfErr a
      (IsNodeAnswer p r)
      → IfErr a (Refuses p r)
  refuses (Ok x) listed f = tt
  refuses (Err Memory) listed f = tt
  refuses (Err (Network k why)) listed f = absurd f
  refuses (Err (Node k why)) listed f = (listed, f)

pub on_ok : {A : Type 0} (P Q : Type 0) (a : Result A RankRefusal) → (P → Q) → OnOk a P → OnOk a Q
on_ok P Q (Ok x) f h = f h
on_ok P Q (Err e) f h = tt
