-- The node of a set of units.
use Rattle.std.proofs.Common.{◌≡◌, ℕ, ◌<◌, Bool, true, false, not, List, length, refl, ap, ◌∙◌}
use Rattle.std.proofs.Common.{arith}
use Rattle.std.specs.Prelude.{◌&&◌, nat_lt}
use Rattle.std.proofs.lemmas.Bool.Decides.{nat_tests}
use Rattle.dual_simplex.specs.number_sets.Sets.{has, IsSet}
use Rattle.dual_simplex.proofs.number_sets.Cited.{listed-same, listed-is}
use Rattle.dual_simplex.specs.problem_rules.Problem.{Problem}
use Rattle.dual_simplex.specs.pns_rules.Shape.{shape_of}
use Rattle.dual_simplex.specs.pns_rules.Structure.{IsStructure, IsBetween}
use Rattle.dual_simplex.specs.flow_rules.Net.{net_of}
use Rattle.dual_simplex.specs.flow_rules.Relaxed.{units, stays}
use Rattle.node_evaluation.specs.tree_rules.LeastFlows.{decided}

below_is : (i n : ℕ) (b : Bool) → i < n → (nat_lt i n && b) ≡ b
below_is i n b h = let e : nat_lt i n ≡ true = grind (arith, nat_tests) in rw e refl

twice : (b : Bool) → not (not b) ≡ b
twice true = refl
twice false = refl

pub outside_is : (p : Problem) (us : List ℕ) (i : ℕ) → i < length p.units
    → (decided p us).outside i ≡ not (has us i)
outside_is p us i h = below_is i (length p.units) (not (has us i)) h

pub units_are : (p : Problem) (us : List ℕ) → IsSet (length p.units) us
    → units (net_of p) (decided p us) ≡ us
units_are p us set =
    listed-same (length p.units) (stays (decided p us)) (has us)
    (λ i h. ap not (outside_is p us i h) ∙ twice (has us i))
    ∙ listed-is (length p.units) us set

opposed : (a b : Bool) → (a && not b) ≡ true → b ≡ true → ⊥
opposed true true h k = let e : false ≡ true = h in cc
opposed true false h k = cc
opposed false b h k = let e : false ≡ true = h in cc

-- a solution structure is one of its node
pub is_between : (p : Problem) (us : List ℕ) → IsStructure (shape_of p) (has us)
    → IsBetween (shape_of p) ((decided p us).inside) ((decided p us).outside) (has us)
is_between p us h = record {
  meets = h;
  contains = λ u k. k;
  avoids = λ u k out. opposed (nat_lt u (length p.units)) (has us u) out k;
}
