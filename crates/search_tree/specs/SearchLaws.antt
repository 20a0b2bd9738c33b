-- Laws of a best-first search of branch trees, each of which a public function of this crate has as
-- its contract. Each holds for every shape of a valid problem, or for every valid problem.
use Rattle.std.specs.Prelude.{◌≡◌, ℕ, suc, ◌+◌, ◌<◌, ◌≤◌, ◌^◌, Bool, true, false, List}
use Rattle.std.specs.Prelude.{[]}
use Rattle.std.specs.Prelude.{◌∷◌}
use Rattle.std.specs.Prelude.{length, Option}
use Rattle.std.specs.List.{sum_by}
use Rattle.tree_laws.specs.number_sets.Sets.{listed, IsWithin, Avoids}
use Rattle.tree_laws.specs.number_sets.Options.{IsIn}
use Rattle.tree_laws.specs.problem_rules.Problem.{Problem}
use Rattle.tree_laws.specs.problem_rules.Validity.{IsValid}
use Rattle.tree_laws.specs.pns_rules.Shape.{Shape, IsProper, shape_of}
use Rattle.tree_laws.specs.pns_rules.Structure.{is_needed, IsStructure, IsUnion}
use Rattle.tree_laws.specs.pns_rules.Nodes.{Node, Step, is_free, base_makers, free_makers, options}
use Rattle.tree_laws.specs.pns_rules.Nodes.{child}
use Rattle.tree_laws.specs.pns_rules.Ends.{IsSound, IsDead, IsUndecided, IsNever, IsReduced}
use Rattle.tree_laws.specs.pns_rules.Ends.{remaining}
use Rattle.tree_laws.specs.tree_rules.Ways.{Way, either, MayBranch, options_at, child_at}
use Rattle.tree_laws.specs.tree_rules.Ways.{IsDecision}
use Rattle.tree_laws.specs.tree_rules.Tree.{End, leaf, StepsPass, after_all, Stands}
use Rattle.tree_laws.specs.tree_rules.Claim.{Claim, claimed_cost}
use Rattle.tree_laws.specs.tree_rules.Leaf.{Leaf, untried, Scaled, IsUntried}
use Rattle.tree_laws.specs.tree_rules.Lean.{IsNoDearer, IsLean}
use Rattle.tree_laws.specs.tree_rules.Accepted.{Tree, Proves}
use Rattle.tree_laws.specs.Laws.{free_units}
use Rattle.search_tree.specs.Below.{IsBelow}

-- ---- values

-- each child is below its node, whichever way that is branched
abbrev pub ChildrenAreBelow : Type 0
ChildrenAreBelow =
    (g : Shape) → IsProper g → (n : Node) (w : Way) (t : List ℕ)
    → Avoids n.inside n.outside
    → MayBranch g n w → IsIn t (options_at g n w) → IsBelow n (child_at g n w t)

-- and so is the node that possible steps leave
abbrev pub StepsLeadBelow : Type 0
StepsLeadBelow = (g : Shape) (n : Node) (steps : List Step) → IsProper g
    → Avoids n.inside n.outside
    → StepsPass g n steps → IsBelow n (after_all g n steps)

-- for any relaxed flows of a node at which no needed material is dead, each node above it has some
-- that cost no more
abbrev pub BelowIsNoDearer : Type 0
BelowIsNoDearer = (p : Problem) → IsValid p → (n m : Node) → IsBelow n m
    → IsNever (IsDead (shape_of p) m) → IsNoDearer p n m

-- so values do not fall from a node to its children, after whatever steps are possible there
abbrev pub ChildrenAreDearer : Type 0
ChildrenAreDearer =
    (p : Problem) → IsValid p → (n : Node) (w : Way) (t : List ℕ) (steps : List Step)
    → Avoids n.inside n.outside → MayBranch (shape_of p) n w
    → IsIn t (options_at (shape_of p) n w)
    → StepsPass (shape_of p) (child_at (shape_of p) n w t) steps
    → IsNever
    (IsDead (shape_of p) (after_all (shape_of p) (child_at (shape_of p) n w t) steps))
    → IsNoDearer p n (after_all (shape_of p) (child_at (shape_of p) n w t) steps)

-- ---- reduced nodes

-- the units that are not left out form a solution structure
abbrev pub ReducedIsStructure : Type 0
ReducedIsStructure = (g : Shape) (n : Node) → IsProper g → IsSound g n → IsReduced g n
    → IsStructure g (remaining g n)

-- so they are units of the union of all solution structures
abbrev pub ReducedIsWithinUnion : Type 0
ReducedIsWithinUnion =
    (g : Shape) (n : Node) (all : ℕ → Bool) → IsProper g → IsSound g n → IsReduced g n
    → IsUnion g (λ u. false) all → IsWithin (remaining g n) all

-- and the free ones among them are no more than the union has
abbrev pub FreeUnitsAreFew : Type 0
FreeUnitsAreFew =
    (g : Shape) (n : Node) (all : ℕ → Bool) → IsProper g → IsSound g n → IsReduced g n
    → IsUnion g (λ u. false) all
    → free_units g n ≤ length (listed g.units all)

-- steps free no unit
abbrev pub StepsFreeNone : Type 0
StepsFreeNone = (g : Shape) (n : Node) (steps : List Step)
    → free_units g (after_all g n steps) ≤ free_units g n

-- a needed material with a maker outside I and E has two options or more
abbrev pub DecisionsSplit : Type 0
DecisionsSplit = (g : Shape) (n : Node) (x : ℕ) → IsReduced g n → IsUndecided g n x
    → 2 ≤ length (options g n x)

-- so is one of its makers outside I and E something to decide
abbrev pub FreeMakersDecide : Type 0
FreeMakersDecide =
    (g : Shape) (n : Node) (x u : ℕ) → is_needed g n.inside x ≡ true → u < g.units
    → g.makes u x ≡ true → is_free g n u ≡ true
    → MayBranch g n (either u) × IsDecision g n (either u)

-- if there is something to decide, the children of a sound node are sound
abbrev pub ChildrenAreSound : Type 0
ChildrenAreSound =
    (g : Shape) → IsProper g → (n : Node) (w : Way) (t : List ℕ) → IsSound g n
    → IsReduced g n
    → MayBranch g n w → IsDecision g n w → IsIn t (options_at g n w)
    → IsSound g (child_at g n w t)

-- ---- numbers

-- if no maker is taken in, each set of free makers but the empty one is an option
abbrev pub OptionsOfNone : Type 0
OptionsOfNone = (g : Shape) (n : Node) (x : ℕ) → base_makers g n x ≡ []
    → suc (length (options g n x)) ≡ 2 ^ length (free_makers g n x)

-- if one is, each set of free makers gives an option
abbrev pub OptionsOfSome : Type 0
OptionsOfSome = (g : Shape) (n : Node) (x : ℕ) → (base_makers g n x ≡ [] → ⊥)
    → length (options g n x) ≡ 2 ^ length (free_makers g n x)

-- the children of a material have together no more sets of free units than the node
abbrev pub SharesAreSmall : Type 0
SharesAreSmall = (g : Shape) (n : Node) (x : ℕ)
    → sum_by (λ t. 2 ^ free_units g (child g n x t)) (options g n x) ≤ 2 ^ free_units g n

-- ---- lean trees: the root's steps lead to a sound node, and `all` is the union of all solution
-- structures

-- a lean tree has fewer nodes than twice the number of sets of units of the union
abbrev pub LeanIsFew : Type 0
LeanIsFew =
    (partial : Bool) (p : Problem) → IsValid p
    → (start : Node) (claim : Claim) (tree : Tree)
    → Proves partial p start claim tree
    → IsLean p IsUntried (claimed_cost claim) start tree
    → (root : Node) (e : End Leaf) → Stands (shape_of p) (start ∷ []) tree 0 root e
    → IsSound (shape_of p) root
    → (all : ℕ → Bool) → IsUnion (shape_of p) (λ u. false) all
    → length tree < 2 ^ suc (length (listed (shape_of p).units all))

-- and no more with the children of an open leaf that is reduced, whichever way it may be branched
-- to decide something
abbrev pub SpentIsNever : Type 0
SpentIsNever =
    (p : Problem) → IsValid p → (start : Node) (claim : Claim) (tree : Tree)
    → Proves true p start claim tree
    → IsLean p IsUntried (claimed_cost claim) start tree
    → (root : Node) (e : End Leaf) → Stands (shape_of p) (start ∷ []) tree 0 root e
    → IsSound (shape_of p) root
    → (all : ℕ → Bool) → IsUnion (shape_of p) (λ u. false) all
    → (k : ℕ) (n : Node) (low : Option Scaled)
    → Stands (shape_of p) (start ∷ []) tree k n (leaf (untried low))
    → IsReduced (shape_of p) n
    → (w : Way) → MayBranch (shape_of p) n w → IsDecision (shape_of p) n w
    → length tree + length (options_at (shape_of p) n w)
    < 2 ^ suc (length (listed (shape_of p).units all))
