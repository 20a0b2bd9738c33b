-- Proofs of one problem claim one cost.
use Rattle.std.proofs.Common.{◌≡◌, ℕ, Bool, true, false, List, Some, ℤ, ◌*ℤ◌, ◌≤ℤ◌, refl}
use Rattle.std.proofs.Common.{subst, arith, inl, inr}
use Rattle.std.proofs.lemmas.Int.{ints}
use Rattle.studio.specs.number_sets.Sets.{has}
use Rattle.studio.specs.text_rules.Outside.{Told}
use Rattle.studio.specs.problem_rules.Problem.{Problem}
use Rattle.studio.specs.pns_rules.Shape.{shape_of}
use Rattle.studio.specs.pns_rules.Structure.{IsStructure, IsAllowed}
use Rattle.studio.specs.tree_rules.Claim.{Network, Claim, network, infeasible, unknown, size_in}
use Rattle.studio.specs.tree_rules.Claim.{claimed_cost, IsAtLeast, IsFeasible, ClaimPasses}
use Rattle.studio.specs.tree_rules.Costs.{CostsEnough}
use Rattle.studio.specs.tree_rules.Known.{KnowsClaim}
use Rattle.studio.specs.tree_rules.Accepted.{Tree}
use Rattle.studio.specs.tree_rules.Tail.{Tail, whole, spent, past}
use Rattle.studio.specs.studio_rules.Reading.{GivesProblem, OnFile}
use Rattle.studio.specs.studio_rules.Solve.{HasProof, Holds, AreTextOf, AreHeadedTextOf, SolveWork}
use Rattle.studio.specs.studio_rules.Solve.{status_of}
use Rattle.studio.specs.studio_rules.declared.status.Status.{Status}
use Rattle.studio.specs.studio_rules.declared.status.Status.TheVariants.{Done}
use Rattle.studio.proofs.Cited.{is_held, one_problem}
use Rattle.call_laws.specs.Costs.{ClaimSame, OneCost, PrintsClaim, SolvesAgree}

pub antisym : (x y : ℤ) → x ≤ℤ y → y ≤ℤ x → x ≡ y
antisym x y l r = omega (arith, ints, l, r)

-- what a proof says of its claim
pub record IsBest (p : Problem) (claim : Claim) : Type 0 where
  pub passes : ClaimPasses false p claim
  pub known : KnowsClaim p claim
  pub feasible : (w : Network) → claim ≡ network w → IsFeasible p w
  pub least : (s : ℕ → Bool) → IsStructure (shape_of p) s → IsAllowed (shape_of p) s
      → CostsEnough p (claimed_cost claim) s

pub is_best : (p : Problem) (claim : Claim) → HasProof p claim → IsBest p claim
is_best p claim (inl (tree, solves)) =
    record {
      passes = solves.proved.accepted.claimed;
      known = solves.proved.of_claim;
      feasible = solves.feasible;
      least = solves.least;
    }
is_best p claim (inr (head, tree, solves)) =
    record {
      passes = solves.proved.accepted.claimed;
      known = solves.proved.of_claim;
      feasible = solves.feasible;
      least = solves.least;
    }

-- each feasible network costs what is claimed, or more
pub claims_no_more : (p : Problem) (claim : Claim) → IsBest p claim → (w : Network)
    → IsFeasible p w → IsAtLeast (claimed_cost claim) w.cost w.d
claims_no_more p claim best w feasible =
    subst (λ (n : ℤ). IsAtLeast (claimed_cost claim) n w.d) feasible.cost_is
    (best.least (has w.units) feasible.structure feasible.allowed (size_in w) w.d feasible.flows)

-- something is claimed
not_unknown : (p : Problem) → IsBest p unknown → ⊥
not_unknown p best = let e : false ≡ true = best.passes in cc

same_claims : (p : Problem) (claim other : Claim) → IsBest p claim → IsBest p other
    → ClaimSame claim other
same_claims p (network v) (network w) one two =
    antisym (w.cost *ℤ v.d) (v.cost *ℤ w.d)
    (claims_no_more p (network w) two v (one.feasible v refl))
    (claims_no_more p (network v) one w (two.feasible w refl))
same_claims p (network v) infeasible one two =
    claims_no_more p infeasible two v (one.feasible v refl)
same_claims p (network v) unknown one two = not_unknown p two
same_claims p infeasible (network w) one two =
    absurd (claims_no_more p infeasible one w (two.feasible w refl))
same_claims p infeasible infeasible one two = refl
same_claims p infeasible unknown one two = absurd (not_unknown p two)
same_claims p unknown other one two = not_unknown p one

pub one_cost : OneCost
one_cost p claim other one two =
    same_claims p claim other (is_best p claim one) (is_best p other two)

-- ---- of a call of `solve`

-- the proof that it prints with status 0
pub record Proof (p : Problem) (lines : List (List ℕ)) : Type 0 where
  pub claim : Claim
  pub proof : HasProof p claim
  pub text : PrintsClaim p claim lines

pub solved : (budget : ℕ) (p : Problem) (lines : List (List ℕ)) → SolveWork budget p Done lines
    → Proof p lines
solved budget p lines (inl (c, e, holds, text)) = at c.claim c.tree c.tail e holds text
  where
    at : (claim : Claim) (tree : Tree) (tail : Tail) → Done ≡ status_of tail
        → Holds budget p claim tree tail
        → AreTextOf p (record { claim = claim; tree = tree; tail = tail }) lines → Proof p lines
    at claim tree whole e holds text =
        record { claim = claim; proof = inl (tree, holds); text = inl (tree, text) }
    at claim tree (spent next options) e holds text = cc
    at claim tree (past node nonbasic place) e holds text = cc
solved budget p lines (inr (c, e, is_whole, solves, text)) =
    record {
      claim = c.claim;
      proof = inr (c.head, c.tree, solves);
      text = inr (
        c.head,
        c.tree,
        subst
            (λ (t : Tail). AreHeadedTextOf p
            (record { claim = c.claim; head = c.head; tree = c.tree; tail = t }) lines)
            is_whole text,
      );
    }

-- the problem of a call on a file that ends with status 0, and what the call does with it
pub on_file : (work : Problem → Status → List (List ℕ) → Type 0) (held : List ℕ → Told)
    (name bytes : List ℕ) (lines : List (List ℕ)) → held name ≡ Some (Some bytes)
    → OnFile work held name Done lines
    → (p : Problem) × GivesProblem bytes p × work p Done lines
on_file work held name bytes lines is (file, there, inl fault) = absurd fault
on_file work held name bytes lines is (file, there, inr (p, given, does)) = (
  p,
  subst (λ (b : List ℕ). GivesProblem b p)
      (is_held (held name) bytes file is there) given,
  does,
)

pub solves_agree : SolvesAgree
solves_agree held later file bytes budget other one two is first keeps second =
    let a = on_file (SolveWork budget) held file bytes one is first in
    let b = on_file (SolveWork other) later file bytes two keeps second in
    let same : b.0 ≡ a.0 = one_problem bytes a.0 b.0 a.1 b.1 in
    let x = solved budget a.0 one a.2 in
    let y = solved other a.0 two (subst (λ (p : Problem). SolveWork other p Done two) same b.2) in
    record {
      problem = a.0;
      first = x.claim;
      second = y.claim;
      gives = a.1;
      first_prints = x.text;
      second_prints = y.text;
      same = one_cost a.0 x.claim y.claim x.proof y.proof;
    }
