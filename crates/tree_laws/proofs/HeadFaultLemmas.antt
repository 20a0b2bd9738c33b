-- A tree with a head that passes does not fail, and one that fails does so for one cause.
use Rattle.std.proofs.Common.{◌≡◌, Bool, [], ◌∷◌, Option, sym, ap, ◌∙◌}
use Rattle.tree_rules.specs.problem_rules.Problem.{Problem}
use Rattle.tree_rules.specs.pns_rules.Shape.{shape_of}
use Rattle.tree_rules.specs.pns_rules.Nodes.{Node}
use Rattle.tree_rules.specs.flow_rules.ChargeFacts.{Facts}
use Rattle.tree_rules.proofs.flow_rules.Cited.{passing_has_no_cause, cause_is_one}
use Rattle.tree_rules.specs.declared.why.Why.{Why}
use Rattle.tree_rules.specs.Claim.{CostOver, IsAtLeast, claimed_cost}
use Rattle.tree_rules.specs.Leaf.{Leaf, dead, clash, refuted, bounded, charged, untried}
use Rattle.tree_rules.specs.Leaf.{IsClaimed, why_of}
use Rattle.tree_laws.proofs.FaultLemmas.{leaf_passes, leaf_one, tree_passes, tree_one}
use Rattle.tree_rules.specs.Headed.{head_facts, LeafPassesBy, LeafFailsBy}
use Rattle.tree_laws.specs.HeadLaws.{LeavesHaveRulesBy, PassingTreeHasNoFaultBy, TreeHasOneFaultBy}

module _ (f : Facts) (partial : Bool) (p : Problem) (claimed : Option CostOver) where
  passes_by : (n : Node) (l : Leaf) (why : Why) → LeafPassesBy f partial p claimed n l
      → LeafFailsBy f partial p claimed n l why → ⊥
  passes_by n (dead x) why h e = leaf_passes partial p claimed n (dead x) why h e
  passes_by n (clash k) why h e = leaf_passes partial p claimed n (clash k) why h e
  passes_by n (refuted ys) why h e = leaf_passes partial p claimed n (refuted ys) why h e
  passes_by n (bounded d ys) why h e = leaf_passes partial p claimed n (bounded d ys) why h e
  passes_by n (charged c) why h e =
      passing_has_no_cause p (IsClaimed claimed) (IsAtLeast claimed) n f c h e.0 e.2
  passes_by n (untried low) why h e = leaf_passes partial p claimed n (untried low) why h e

  one_by : (n : Node) (l : Leaf) (why other : Why) → LeafFailsBy f partial p claimed n l why
      → LeafFailsBy f partial p claimed n l other → why ≡ other
  one_by n (dead x) why other = leaf_one partial p claimed n (dead x) why other
  one_by n (clash k) why other = leaf_one partial p claimed n (clash k) why other
  one_by n (refuted ys) why other = leaf_one partial p claimed n (refuted ys) why other
  one_by n (bounded d ys) why other = leaf_one partial p claimed n (bounded d ys) why other
  one_by n (charged c) why other = λ a b.
      a.1
      ∙ ap why_of
      (cause_is_one p (IsClaimed claimed) (IsAtLeast claimed) n f c a.0 b.0 a.2 b.2)
      ∙ sym b.1
  one_by n (untried low) why other = leaf_one partial p claimed n (untried low) why other

pub leaves_have_rules_by : LeavesHaveRulesBy
leaves_have_rules_by f partial p claimed =
    record { apart = passes_by f partial p claimed; one = one_by f partial p claimed }

pub passing_tree_has_no_fault_by : PassingTreeHasNoFaultBy
passing_tree_has_no_fault_by partial p start claim head tree k why a h =
    tree_passes (shape_of p) (LeafPassesBy (head_facts p head) partial p (claimed_cost claim))
    (LeafFailsBy (head_facts p head) partial p (claimed_cost claim))
    (leaves_have_rules_by (head_facts p head) partial p (claimed_cost claim)) (start ∷ []) tree k
    why a.passes h

pub tree_has_one_fault_by : TreeHasOneFaultBy
tree_has_one_fault_by partial p start claim head tree j k why other h e =
    tree_one (shape_of p) (LeafPassesBy (head_facts p head) partial p (claimed_cost claim))
    (LeafFailsBy (head_facts p head) partial p (claimed_cost claim))
    (leaves_have_rules_by (head_facts p head) partial p (claimed_cost claim)) (start ∷ []) tree j k
    why other h e
