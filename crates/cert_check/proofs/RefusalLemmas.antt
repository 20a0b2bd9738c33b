-- The answer is the one answer that the claim and the tree have, unless there is no memory.
use Rattle.std.proofs.Common.{◌≡◌, ℕ, Bool, false, [], ◌∷◌, Option, Result, Ok, Err, OnOk, IfErr}
use Rattle.std.proofs.Common.{refl, ap, ap₂, subst, inl, inr}
use Rattle.tree_text_rules.specs.problem_rules.Problem.{Problem}
use Rattle.tree_text_rules.specs.problem_rules.Validity.{IsValid}
use Rattle.tree_text_rules.specs.pns_rules.Shape.{shape_of}
use Rattle.tree_text_rules.specs.pns_rules.Structure.{IsStructure, IsAllowed}
use Rattle.tree_text_rules.specs.pns_rules.Nodes.{Node}
use Rattle.tree_text_rules.specs.tree_rules.declared.why.Why.{Why}
use Rattle.tree_text_rules.specs.tree_rules.Tree.{Pass}
use Rattle.tree_text_rules.specs.tree_rules.Claim as rules
use Rattle.tree_text_rules.specs.tree_rules.Leaf.{LeafPasses, LeafFails}
use Rattle.tree_text_rules.specs.tree_rules.Accepted.{Tree, first_node, Proves, NodeIsFault}
use Rattle.tree_text_rules.specs.tree_rules.Costs.{CostsEnough}
use Rattle.tree_laws.specs.Laws.{AcceptedIsOptimal, PassingClaimHasNoFault, ClaimHasOneFault}
use Rattle.tree_laws.specs.Laws.{PassingTreeHasNoFault, TreeHasOneFault}
use Rattle.tree_text_rules.specs.tree_rules.declared.refusal.Refusal.{Refusal}
use Rattle.tree_text_rules.specs.tree_rules.declared.refusal.Refusal.TheVariants.{Memory, Claim}
use Rattle.tree_text_rules.specs.tree_rules.declared.refusal.Refusal.TheVariants as refusals
use Rattle.tree_text_rules.specs.tree_rules.Refusals.{Refuses}
use Rattle.cert_check.specs.Refusals.{IsOkOrMemory, IsRefusalOrMemory, NamesFault}

module _ {A : Type 0} (partial : Bool) (p : Problem) (start : Node) (claim : rules.Claim)
    (tree : Tree) where
  pub accepts : PassingClaimHasNoFault → PassingTreeHasNoFault → (r : Result A Refusal)
      → IfErr r (Refuses partial p start claim tree) → Proves partial p start claim tree
      → IsOkOrMemory r
  accepts no_fault no_node (Ok x) f h = tt
  accepts no_fault no_node (Err Memory) f h = refl
  accepts no_fault no_node (Err (Claim why)) f h = absurd (no_fault partial p claim why h.claimed f)
  accepts no_fault no_node (Err (refusals.Node k why)) f h =
      absurd (no_node partial p start claim tree k why h f.1)

  pub names_claim : PassingClaimHasNoFault → ClaimHasOneFault → (r : Result A Refusal)
      → OnOk r (Proves partial p start claim tree) → IfErr r (Refuses partial p start claim tree)
      → (why : Why) → rules.ClaimFails partial p claim why → IsRefusalOrMemory (Claim why) r
  names_claim no_fault one (Ok x) h f why fails = no_fault partial p claim why h.claimed fails
  names_claim no_fault one (Err Memory) h f why fails = inr refl
  names_claim no_fault one (Err (Claim other)) h f why fails =
      inl (ap (λ (w : Why). Claim w) (one partial p claim other why f fails))
  names_claim no_fault one (Err (refusals.Node k other)) h f why fails =
      absurd (no_fault partial p claim why f.0 fails)

  pub names_node : PassingClaimHasNoFault → PassingTreeHasNoFault → TreeHasOneFault
      → (r : Result A Refusal) → OnOk r (Proves partial p start claim tree)
      → IfErr r (Refuses partial p start claim tree) → (k : ℕ) (why : Why)
      → rules.ClaimPasses partial p claim → NodeIsFault partial p start claim tree k why
      → IsRefusalOrMemory (refusals.Node k why) r
  names_node no_fault no_node one (Ok x) h f k why passes fault =
      no_node partial p start claim tree k why h fault
  names_node no_fault no_node one (Err Memory) h f k why passes fault = inr refl
  names_node no_fault no_node one (Err (Claim other)) h f k why passes fault =
      absurd (no_fault partial p claim other passes f)
  names_node no_fault no_node one (Err (refusals.Node j other)) h f k why passes fault =
      let same = one partial p start claim tree j k other why f.1 fault in
      inl (ap₂ (λ (i : ℕ) (w : Why). refusals.Node i w) same.0 same.1)

-- ---- what a walk over the tree shows, if the claim passes

module _ {A : Type 0} (partial : Bool) (p : Problem) (start : Node) (claim : rules.Claim)
    (tree : Tree) (claimed : rules.ClaimPasses partial p claim) (cost : Option rules.CostOver)
    (is : cost ≡ rules.claimed_cost claim) (r : Result A Refusal) where
  pub walk_proves : OnOk r (Pass (shape_of p) (LeafPasses partial p cost) (start ∷ []) tree)
      → OnOk r (Proves partial p start claim tree)
  walk_proves h =
      at r
      (subst
      (λ (c : Option rules.CostOver). OnOk r
      (Pass (shape_of p) (LeafPasses partial p c) (start ∷ []) tree)) is h)
    where
      at : (a : Result A Refusal)
          → OnOk a
          (Pass (shape_of p) (LeafPasses partial p (rules.claimed_cost claim)) (start ∷ []) tree)
          → OnOk a (Proves partial p start claim tree)
      at (Ok x) q = record { claimed = claimed; passes = q }
      at (Err e) q = tt

  pub walk_refuses : IfErr r
      (NamesFault (shape_of p) (LeafPasses partial p cost) (LeafFails partial p cost) (start ∷ [])
      tree)
      → IfErr r (Refuses partial p start claim tree)
  walk_refuses h =
      at r
      (subst
      (λ (c : Option rules.CostOver). IfErr r
      (NamesFault (shape_of p) (LeafPasses partial p c) (LeafFails partial p c) (start ∷ [])
      tree)) is h)
    where
      at : (a : Result A Refusal)
          → IfErr a
          (NamesFault (shape_of p) (LeafPasses partial p (rules.claimed_cost claim))
          (LeafFails partial p (rules.claimed_cost claim)) (start ∷ []) tree)
          → IfErr a (Refuses partial p start claim tree)
      at (Ok x) q = tt
      at (Err Memory) q = tt
      at (Err (Claim why)) q = absurd q
      at (Err (refusals.Node k why)) q = (claimed, q)

-- ---- the answer without what was found

abbrev pub answer_of : {A : Type 0} → Result A Refusal → Result (Unit {0}) Refusal
answer_of (Ok x) = Ok tt
answer_of (Err e) = Err e

module _ {A : Type 0} where
  pub answer_ok : (P : Type 0) (r : Result A Refusal) → OnOk r P → OnOk (answer_of r) P
  answer_ok P (Ok x) h = h
  answer_ok P (Err e) h = tt

  pub answer_err : (P : Refusal → Type 0) (r : Result A Refusal) → IfErr r P → IfErr (answer_of r) P
  answer_err P (Ok x) h = tt
  answer_err P (Err e) h = h

  pub answer_or_memory : (r : Result A Refusal) → IsOkOrMemory r → IsOkOrMemory (answer_of r)
  answer_or_memory (Ok x) h = tt
  answer_or_memory (Err e) h = h

  pub answer_refused : (wanted : Refusal) (r : Result A Refusal) → IsRefusalOrMemory wanted r
      → IsRefusalOrMemory wanted (answer_of r)
  answer_refused wanted (Ok x) h = h
  answer_refused wanted (Err e) h = h

pub least : {A : Type 0} (p : Problem) (claim : rules.Claim) (tree : Tree) → AcceptedIsOptimal
    → IsValid p → (r : Result A Refusal) → OnOk r (Proves false p first_node claim tree)
    → OnOk r ((s : ℕ → Bool) → IsStructure (shape_of p) s → IsAllowed (shape_of p) s
    → CostsEnough p (rules.claimed_cost claim) s)
least p claim tree optimal valid (Ok x) h =
    λ s structure allowed. optimal p valid claim tree h s structure allowed
least p claim tree optimal valid (Err e) h = tt
