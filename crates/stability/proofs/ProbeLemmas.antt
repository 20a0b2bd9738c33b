-- What a search at one value says.
use Rattle.std.proofs.Common.{◌⊎◌, inl, inr, ℤ, pos, ◌-ℤ◌, ◌*ℤ◌, ◌≤ℤ◌, ◌<ℤ◌, arith}
use Rattle.std.proofs.lemmas.Int.{ints}
use Rattle.stability_laws.proofs.integer_laws.Cited.{ring_z, mul-le_right, cancel_le, sign_cases}
use Rattle.stability_laws.specs.problem_rules.Problem.{Problem}
use Rattle.stability_laws.specs.problem_rules.Validity.{IsValid}
use Rattle.stability_laws.specs.flow_rules.Net.{net_of}
use Rattle.stability_laws.specs.flow_rules.Flows.{cost}
use Rattle.stability_laws.specs.tree_rules.Claim.{Network, IsSized, network, CostOver}
use Rattle.stability_laws.specs.tree_rules.Accepted.{Tree, first_node}
use Rattle.solver.specs.tree_laws.Laws.{AcceptedIsOptimal, AcceptedHasFlows}
use Rattle.stability_laws.specs.tree_rules.Proved.{IsProved}
use Rattle.stability_laws.specs.report_rules.Range.{IsLeast, IsCheaper}

-- a over b is at most c over d, which is at most e over f
no_more_trans : (a b c d e f : ℤ) → pos 0 ≤ℤ b → pos 1 ≤ℤ d → pos 0 ≤ℤ f → (a *ℤ d) ≤ℤ (c *ℤ b)
    → (c *ℤ f) ≤ℤ (e *ℤ d) → (a *ℤ f) ≤ℤ (e *ℤ b)
no_more_trans a b c d e f pb pd pf h k =
    let x : ((a *ℤ d) *ℤ f) ≤ℤ ((c *ℤ b) *ℤ f) = mul-le_right (a *ℤ d) (c *ℤ b) f h pf in
    let y : ((c *ℤ f) *ℤ b) ≤ℤ ((e *ℤ d) *ℤ b) = mul-le_right (c *ℤ f) (e *ℤ d) b k pb in
    let s : pos 0 <ℤ d = omega (arith, ints) in
    cancel_le d (a *ℤ f) (e *ℤ b) s (swapped a b c d e f x y)
  where
    swapped : (a b c d e f : ℤ) → ((a *ℤ d) *ℤ f) ≤ℤ ((c *ℤ b) *ℤ f)
        → ((c *ℤ f) *ℤ b) ≤ℤ ((e *ℤ d) *ℤ b) → (d *ℤ (a *ℤ f)) ≤ℤ (d *ℤ (e *ℤ b))
    swapped a b c d e f x y = omega (arith, ring_z)

-- what costs no more than the least costs no more than any
pub least_below : (p : Problem) (much least : CostOver) → pos 1 ≤ℤ much.d → pos 1 ≤ℤ least.d
    → (much.cost *ℤ least.d) ≤ℤ (least.cost *ℤ much.d) → IsLeast p least → IsLeast p much
least_below p much least pm pl le h = λ s structure allowed z d flows.
    let one = flows.positive in
    let pb : pos 0 ≤ℤ much.d = omega (arith, ints) in
    let pf : pos 0 ≤ℤ d = omega (arith, ints) in
    no_more_trans much.cost much.d least.cost least.d (cost (net_of p) s z d) d pb pl pf le
    (h s structure allowed z d flows)

least_found : AcceptedIsOptimal → (q : Problem) → IsValid q → (n : Network) (tree : Tree)
    → IsProved q first_node (network n) tree → IsLeast q (record { cost = n.cost; d = n.d })
least_found optimal q valid n tree proved =
    λ s structure allowed. optimal q valid (network n) tree proved.accepted s structure allowed

pub cheaper_found : AcceptedIsOptimal → AcceptedHasFlows → (q : Problem) → IsValid q
    → (much : CostOver) (n : Network) (tree : Tree) → IsProved q first_node (network n) tree
    → IsSized n → (n.cost *ℤ much.d) <ℤ (much.cost *ℤ n.d) → IsCheaper q much n
cheaper_found optimal feasible q valid much n tree proved sized cheaper = record {
  sized = sized;
  feasible = feasible q first_node n tree proved.accepted;
  least = least_found optimal q valid n tree proved;
  cheaper = cheaper;
}

pub best_found : AcceptedIsOptimal → AcceptedHasFlows → (q : Problem) → IsValid q
    → (much : CostOver) (n : Network) (tree : Tree) → pos 1 ≤ℤ much.d
    → IsProved q first_node (network n) tree
    → (((n.cost *ℤ much.d) <ℤ (much.cost *ℤ n.d)) → ⊥) → IsLeast q much
best_found optimal feasible q valid much n tree positive proved not_cheaper =
    least_below q much (record { cost = n.cost; d = n.d }) positive
    (feasible q first_node n tree proved.accepted).flows.positive
    (elim (order_cases (n.cost *ℤ much.d) (much.cost *ℤ n.d))
    [ inl less ↦ absurd (not_cheaper less) | inr le ↦ le ])
    (least_found optimal q valid n tree proved)
  where
    order_cases : (a b : ℤ) → (a <ℤ b) ⊎ (b ≤ℤ a)
    order_cases a b =
        elim (sign_cases (b -ℤ a))
        [ inl p ↦ inl (omega (arith, ints)) | inr p ↦ inr (omega (arith, ints)) ]
