-- The units that are taken in on a walk are units of the graph.
use Rattle.std.proofs.Common.{◌≡◌, ℕ, ◌<◌, ◌==◌, ◌||◌, false, true, List, [], ◌∷◌, ◌++◌, map, refl}
use Rattle.std.proofs.Common.{subst, inl, inr, eqb-true}
use Rattle.std.proofs.lemmas.Bool.{or_cases, both_ways}
use Rattle.tree_text_rules.specs.number_sets.Sets.{has}
use Rattle.tree_text_rules.specs.number_sets.Options.{IsIn}
use Rattle.tree_text_rules.proofs.number_sets.Cited.{has_below}
use Rattle.tree_text_rules.proofs.number_sets.Cited as lists
use Rattle.tree_text_rules.specs.pns_rules.Shape.{Shape}
use Rattle.tree_text_rules.specs.pns_rules.Nodes.{Node, Step, after, base_makers, free_makers}
use Rattle.tree_text_rules.specs.pns_rules.Nodes.{options, child}
use Rattle.tree_text_rules.proofs.pns_rules.Cited.{makers_apart, base_set, free_set}
use Rattle.tree_text_rules.specs.tree_rules.Ways.{at_material, either, MayBranch}
use Rattle.tree_text_rules.specs.tree_rules.Tree.{End, branch, leaf, TreeNode, StepsPass, after_all}
use Rattle.tree_text_rules.specs.tree_rules.Tree.{EndPasses}
use Rattle.tree_text_rules.specs.tree_rules.Tree.{below}
use Rattle.cert_check.specs.Known.{KnowsInside}
use Rattle.cert_check.proofs.NodeLemmas.{known_after}
use Rattle.cert_check.specs.Subtrees.{AllKnown}

pub known_after_all : (g : Shape) (n : Node) (ss : List Step) → KnowsInside g n → StepsPass g n ss
    → KnowsInside g (after_all g n ss)
known_after_all g n [] known p = known
known_after_all g n (s ∷ ss) known p =
    known_after_all g (after g n s) ss (known_after g n s known p.0) p.1

option_known : (g : Shape) (n : Node) (x : ℕ) (t : List ℕ) → IsIn t (options g n x) → (u : ℕ)
    → has t u ≡ true → u < g.units
option_known g n x t i u h =
    let o =
    lists.in_option g.units (base_makers g n x) (free_makers g n x) (base_set g n x)
    (free_set g n x) (makers_apart g n x) t i in
    let base = base_set g n x in
    let free = free_set g n x in
    elim (or_cases (has (base_makers g n x) u) (has (free_makers g n x) u) (o.between.within u h)) [
      | inl p ↦ has_below g.units (base_makers g n x) u base.below p
      | inr q ↦ has_below g.units (free_makers g n x) u free.below q
    ]

known_children : (g : Shape) (n : Node) (x : ℕ) (ts : List (List ℕ)) → KnowsInside g n
    → ((t : List ℕ) → IsIn t ts → IsIn t (options g n x)) → AllKnown g (map (child g n x) ts)
known_children g n x [] known among = tt
known_children g n x (t ∷ ts) known among = (
  (λ u h. elim (or_cases (has t u) (n.inside u) h)
      [ inl p ↦ option_known g n x t (among t (inl refl)) u p | inr q ↦ known u q ]),
  known_children g n x ts known (λ s i. among s (inr i)),
)

-- the unit goes in, or it goes out
known_either : (g : Shape) (n : Node) (u : ℕ) → KnowsInside g n → MayBranch g n (either u) → (v : ℕ)
    → ((has (u ∷ []) v || n.inside v) ≡ true) → v < g.units
known_either g n u known may v h = elim (or_cases (has (u ∷ []) v) (n.inside v) h) [
  | inl p ↦ elim (or_cases (u == v) false p) [
    | inl e ↦ subst (λ (k : ℕ). k < g.units) (eqb-true u v e) may.0
    | inr q ↦ absurd (both_ways false refl q)
  ]
  | inr q ↦ known v q
]

pub known_below : {L : Type 0} (g : Shape) (P : Node → L → Type 0) (n : Node) (e : End L)
    (behind : List (TreeNode L)) → KnowsInside g n → EndPasses g P n e behind
    → AllKnown g (below g n e)
known_below g P n (branch (at_material x c)) behind known passes =
    known_children g n x (options g n x) known (λ t i. i)
known_below g P n (branch (either u)) behind known passes =
    (known_either g n u known passes.0, (known, tt))
known_below g P n (leaf l) behind known passes = tt

pub known_both : (g : Shape) (ns ms : List Node) → AllKnown g ns → AllKnown g ms
    → AllKnown g (ns ++ ms)
known_both g [] ms a b = b
known_both g (n ∷ ns) ms a b = (a.0, known_both g ns ms a.1 b)
