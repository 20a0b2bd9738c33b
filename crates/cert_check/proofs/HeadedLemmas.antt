-- A claim with a head and a tree: what a walk over the tree shows, if the claim and the head pass.
use Rattle.std.proofs.Common.{◌≡◌, ℕ, Bool, false, List, [], ◌∷◌, Option, Result, Ok, Err, OnOk}
use Rattle.std.proofs.Common.{IfErr}
use Rattle.std.proofs.Common.{refl, ap, subst}
use Rattle.tree_text_rules.specs.problem_rules.Problem.{Problem}
use Rattle.tree_text_rules.specs.problem_rules.Validity.{IsValid}
use Rattle.tree_text_rules.specs.pns_rules.Shape.{Shape, shape_of}
use Rattle.tree_text_rules.specs.pns_rules.Structure.{IsStructure, IsAllowed}
use Rattle.tree_text_rules.specs.pns_rules.Nodes.{Node}
use Rattle.tree_text_rules.specs.flow_rules.ChargeFacts.{Facts}
use Rattle.tree_text_rules.specs.tree_rules.declared.why.Why.{Why}
use Rattle.tree_text_rules.specs.tree_rules.declared.refusal.Refusal as trees
use Rattle.tree_text_rules.specs.tree_rules.declared.refusal.Refusal.TheVariants as causes
use Rattle.tree_text_rules.specs.tree_rules.Tree.{Pass}
use Rattle.tree_text_rules.specs.tree_rules.Claim as rules
use Rattle.tree_text_rules.specs.tree_rules.Leaf.{Leaf}
use Rattle.tree_text_rules.specs.tree_rules.Costs.{CostsEnough}
use Rattle.tree_text_rules.specs.tree_rules.Accepted.{Tree, first_node}
use Rattle.tree_laws.specs.Laws.{PassingClaimHasNoFault}
use Rattle.tree_laws.specs.HeadLaws.{AcceptedByIsOptimal, PassingTreeHasNoFaultBy}
use Rattle.tree_text_rules.specs.tree_rules.declared.line_why.LineWhy.{LineWhy}
use Rattle.tree_text_rules.specs.tree_rules.declared.head_refusal.HeadRefusal.{HeadRefusal}
use Rattle.tree_text_rules.specs.tree_rules.declared.head_refusal.HeadRefusal.TheVariants.{Memory}
use Rattle.tree_text_rules.specs.tree_rules.declared.head_refusal.HeadRefusal.TheVariants.{Claim}
use Rattle.tree_text_rules.specs.tree_rules.declared.head_refusal.HeadRefusal.TheVariants.{Line}
use Rattle.tree_text_rules.specs.tree_rules.declared.head_refusal.HeadRefusal.TheVariants as refusals
use Rattle.tree_text_rules.specs.tree_rules.Head.{HeadLine, Known, known_first, LinesPass}
use Rattle.tree_text_rules.specs.tree_rules.HeadFaults.{IsFirstToFail}
use Rattle.tree_text_rules.specs.tree_rules.Headed.{head_known, head_node, head_facts, HeadPasses}
use Rattle.tree_text_rules.specs.tree_rules.Headed.{LeafPassesBy}
use Rattle.tree_text_rules.specs.tree_rules.Headed.{LeafFailsBy, IsAcceptedBy, ProvesBy, RefusesBy}
use Rattle.tree_text_rules.specs.tree_rules.HeadLaws.{PassingHasNoFault}
use Rattle.cert_check.specs.Refusals.{NamesFault}
use Rattle.cert_check.specs.Headed.{IsOkOrMemoryBy, NamesFaultBy, refusal_by}

module _ (p : Problem) (claim : rules.Claim) (head : List HeadLine) (tree : Tree) where
  -- the refusal of what proves a claim can only be one of memory
  pub accepts_by : PassingClaimHasNoFault → PassingHasNoFault → PassingTreeHasNoFaultBy
      → (e : HeadRefusal) → RefusesBy false p (head_node p head) claim head tree e
      → IsAcceptedBy p claim head tree → e ≡ Memory
  accepts_by no_claim no_line no_node Memory f h = refl
  accepts_by no_claim no_line no_node (Claim why) f h =
      absurd (no_claim false p claim why h.claimed f)
  accepts_by no_claim no_line no_node (Line i why) f h =
      absurd
      (no_line p (rules.claimed_cost claim) (known_first p first_node) head h.lines i why f.1)
  accepts_by no_claim no_line no_node (refusals.Node k why) f h =
      absurd (no_node false p (head_node p head) claim head tree k why h f.2)

  module _ (claimed : rules.ClaimPasses false p claim) (cost : Option rules.CostOver)
      (is : cost ≡ rules.claimed_cost claim) where
    pub line_refuses : (i : ℕ) (why : LineWhy)
        → IsFirstToFail p cost (known_first p first_node) head i why
        → RefusesBy false p (head_node p head) claim head tree (Line i why)
    line_refuses i why h = (
      claimed,
      subst
          (λ (c : Option rules.CostOver). IsFirstToFail p c
          (known_first p first_node) head i why) is
          h,
    )

    module _ (passes : LinesPass p cost (known_first p first_node) head) (n : Node) (f : Facts)
        (known : ◌≡◌ {A = Known} (record { node = n; facts = f }) (head_known p head)) where
      lines : HeadPasses p claim head
      lines = subst (λ (c : Option rules.CostOver). LinesPass p c (known_first p first_node) head)
          is passes

      all_is : ◌≡◌ {A = Known × Option rules.CostOver} (record { node = n; facts = f }, cost)
          (head_known p head, rules.claimed_cost claim)
      all_is = λ i. (known i, is i)

      accepts_all : Pass (shape_of p) (LeafPassesBy f false p cost) (n ∷ []) tree
          → IsAcceptedBy p claim head tree
      accepts_all h = record {
        claimed = claimed;
        lines = lines;
        passes =
            subst
            (λ (c : Known × Option rules.CostOver).
            Pass (shape_of p) (LeafPassesBy c.0.facts false p c.1) (c.0.node ∷ []) tree) all_is h;
      }

      refuses_one : (e : HeadRefusal)
          → NamesFaultBy (shape_of p) (LeafPassesBy f false p cost) (LeafFailsBy f false p cost)
          (n ∷ []) tree e
          → RefusesBy false p (head_node p head) claim head tree e
      refuses_one Memory h = tt
      refuses_one (Claim why) h = absurd h
      refuses_one (Line i why) h = absurd h
      refuses_one (refusals.Node k why) h = (
        claimed,
        lines,
        subst
            (λ (c : Known × Option rules.CostOver).
            NamesFaultBy (shape_of p) (LeafPassesBy c.0.facts false p c.1)
            (LeafFailsBy c.0.facts false p c.1) (c.0.node ∷ []) tree
            (refusals.Node k why)) all_is h,
      )

      pub walk_accepts : {A : Type 0} (r : Result A HeadRefusal)
          → OnOk r (Pass (shape_of p) (LeafPassesBy f false p cost) (n ∷ []) tree)
          → OnOk r (IsAcceptedBy p claim head tree)
      walk_accepts (Ok a) h = accepts_all h
      walk_accepts (Err e) h = tt

      pub walk_refuses : {A : Type 0} (r : Result A HeadRefusal)
          → IfErr r
          (NamesFaultBy (shape_of p) (LeafPassesBy f false p cost) (LeafFailsBy f false p cost)
          (n ∷ []) tree)
          → IfErr r (RefusesBy false p (head_node p head) claim head tree)
      walk_refuses (Ok a) h = tt
      walk_refuses (Err e) h = refuses_one e h

  -- what proves a claim is refused for memory alone
  pub accepts_on : {A : Type 0} → PassingClaimHasNoFault → PassingHasNoFault
      → PassingTreeHasNoFaultBy → (r : Result A HeadRefusal)
      → IfErr r (RefusesBy false p (head_node p head) claim head tree)
      → IsAcceptedBy p claim head tree → IsOkOrMemoryBy r
  accepts_on no_claim no_line no_node (Ok a) f h = tt
  accepts_on no_claim no_line no_node (Err e) f h = accepts_by no_claim no_line no_node e f h

  pub least_on : {A : Type 0} → AcceptedByIsOptimal → IsValid p → (r : Result A HeadRefusal)
      → OnOk r (IsAcceptedBy p claim head tree)
      → OnOk r ((s : ℕ → Bool) → IsStructure (shape_of p) s → IsAllowed (shape_of p) s
      → CostsEnough p (rules.claimed_cost claim) s)
  least_on optimal valid (Ok a) h = λ s structure allowed. optimal p valid claim head tree h s
      structure allowed
  least_on optimal valid (Err e) h = tt

-- the refusal of a walk, in the words of a tree with a head
pub names_by : (g : Shape) (P : Node → Leaf → Type 0) (F : Node → Leaf → Why → Type 0)
    (ns : List Node) (ts : Tree) (e : trees.Refusal) → NamesFault g P F ns ts e
    → NamesFaultBy g P F ns ts (refusal_by e)
names_by g P F ns ts causes.Memory h = tt
names_by g P F ns ts (causes.Claim why) h = h
names_by g P F ns ts (causes.Node k why) h = h
