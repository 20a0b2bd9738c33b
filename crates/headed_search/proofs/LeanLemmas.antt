-- What a search of a capped plant finds, once the leaves of its tree charge.
use Rattle.std.proofs.Common.{◌≡◌, ℕ, ◌<◌, ◌-◌, ◌^◌, sym, subst}
use Rattle.tree_parts.specs.problem_rules.Problem.{Problem}
use Rattle.tree_parts.specs.problem_rules.Validity.{IsValid}
use Rattle.tree_parts.specs.pns_rules.Nodes.{Node}
use Rattle.tree_parts.specs.tree_rules.Claim.{Claim}
use Rattle.tree_parts.specs.tree_rules.Accepted.{Tree}
use Rattle.tree_parts.specs.tree_rules.Proved.{IsProved}
use Rattle.tree_parts.specs.tree_laws.Capped.{IsCapped}
use Rattle.tree_parts.specs.tree_laws.Recharged.{recharged_tree}
use Rattle.tree_parts.specs.tree_laws.CappingLaws.{CappedClaim, RechargedIsLean, RechargedKnows}
use Rattle.tree_parts.specs.tree_laws.CappingLaws.{RechargedIsAsLong}
use Rattle.headed_search.specs.Lean.{IsLeanFor}

pub lean_for : CappedClaim → RechargedIsLean → RechargedKnows → RechargedIsAsLong
    → (p q : Problem) → IsValid p → IsValid q → IsCapped p q
    → (start : Node) (claim : Claim) (tree new : Tree) → new ≡ recharged_tree tree
    → IsProved q start claim tree → IsLeanFor p start claim new
lean_for claim_law lean_law known_law long p q valid valid_capped h start claim tree new is k =
    subst (λ (t : Tree). IsLeanFor p start claim t) (sym is)
    (record {
      lean = lean_law p q valid valid_capped h start claim tree k.accepted k.lean;
      of_claim = claim_law p q h claim k.of_claim;
      of_tree = known_law p q h tree k.of_tree;
      few = subst (λ (n : ℕ). n < 2 ^ 32 - 1) (sym (long tree)) k.few;
    })

-- the same, for a site of each of the two
module _ (p seen q inner : Problem) (same : seen ≡ p) (is : inner ≡ q) (h : IsCapped seen q) where
  capped_here : IsCapped p q
  capped_here = subst (λ (r : Problem). IsCapped r q) same h

  pub lean_outside : CappedClaim → RechargedIsLean → RechargedKnows → RechargedIsAsLong → IsValid p
      → IsValid q → (start : Node) (claim : Claim) (tree new : Tree) → new ≡ recharged_tree tree
      → IsProved inner start claim tree → IsLeanFor p start claim new
  lean_outside claim_law lean_law known_law long valid valid_capped start claim tree new new_is k =
      lean_for claim_law lean_law known_law long p q valid valid_capped capped_here start claim
      tree new new_is (subst (λ (r : Problem). IsProved r start claim tree) is k)
