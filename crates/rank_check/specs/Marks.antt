-- The open leaves of a tree, each judged by its mark. P says which leaves pass, F for which cause
-- one fails.
use Rattle.std.specs.Prelude.{◌≡◌, ◌⊎◌, ℕ, ℤ, pos, ◌≤ℤ◌, Bool, false, List, [], ◌∷◌, Option}
use Rattle.std.specs.Prelude.{None}
use Rattle.rank_laws.specs.problem_rules.Problem.{Problem}
use Rattle.rank_laws.specs.pns_rules.Nodes.{Node}
use Rattle.rank_laws.specs.tree_rules.declared.why.Why.{Why}
use Rattle.rank_laws.specs.tree_rules.declared.why.Why.TheVariants.{Bound, Sum}
use Rattle.rank_laws.specs.tree_rules.Fault.{Fails}
use Rattle.rank_laws.specs.tree_rules.Tree.{leaf}
use Rattle.rank_laws.specs.tree_rules.Claim.{Network, CostOver}
use Rattle.rank_laws.specs.tree_rules.Leaf.{IsOneEach, IsFormed, Reaches}
use Rattle.rank_laws.specs.tree_text_rules.OpenLeaves.{OpenAt}
use Rattle.rank_laws.specs.pns_rules.Shape.{shape_of}
use Rattle.cert_check.specs.Known.{KnowsInside}
use Rattle.rank_laws.specs.rank_rules.declared.why.RankWhy.{RankWhy}
use Rattle.rank_laws.specs.rank_rules.declared.why.RankWhy.TheVariants.{Plain}
use Rattle.rank_laws.specs.rank_rules.Leaf.{Leaf, LeafPasses, LeafFails, MayName, named_cost}
use Rattle.rank_laws.specs.rank_rules.Leaf.{way_why, IsTold}
use Rattle.rank_laws.specs.rank_rules.Marked.{Mark, Name, marked_leaf, first_mark, other_marks}

-- each leaf passes as what its mark makes of it
abbrev pub MarksPass : (Node → Leaf → Type 0) → List OpenAt → List Mark → Type 0
MarksPass P [] ms = Unit {0}
MarksPass P (l ∷ ls) ms = P l.node (marked_leaf None (first_mark ms))
    × MarksPass P ls (other_marks ms)

-- a leaf fails for a cause, for which this one is given
abbrev pub MarkFails : (Node → Leaf → Why → Type 0) → Node → Mark → RankWhy → Type 0
MarkFails F n m why = (cause : Why) × F n (marked_leaf None m) cause
    × IsTold (leaf (marked_leaf None m)) cause why

-- a leaf that names the network that was found, or none, fails for a cause, for which this one is
-- given
abbrev pub NamedFails : Bool → Problem → Option Network → Node → Name → RankWhy → Type 0
NamedFails distinct p found n m why =
    (cause : Why)
    × Fails (MayName distinct m.way p found n × (pos 1 ≤ℤ m.d) × IsOneEach p n m.ys) Bound
    (Fails (IsFormed p n m.d m.ys) Sum
    (Fails (Reaches p (named_cost found) n m.d m.ys) Bound ⊥ cause) cause) cause
    × (((cause ≡ Bound) × (why ≡ way_why m.way)) ⊎ ((cause ≡ Bound → ⊥) × (why ≡ Plain cause)))

-- the first leaf that fails is that of node k, for the cause
abbrev pub IsFirstMark : (Node → Leaf → Type 0) → (Node → Leaf → Why → Type 0) → List OpenAt
    → List Mark → ℕ → RankWhy → Type 0
IsFirstMark P F [] ms k why = ⊥
IsFirstMark P F (l ∷ ls) ms k why =
    ((l.number ≡ k) × MarkFails F l.node (first_mark ms) why)
    ⊎ (P l.node (marked_leaf None (first_mark ms))
    × IsFirstMark P F ls (other_marks ms) k why)

-- the units that are taken in at the leaves are those of the problem
abbrev pub AreKnown : Problem → List OpenAt → Type 0
AreKnown p [] = Unit {0}
AreKnown p (l ∷ ls) = KnowsInside (shape_of p) l.node × AreKnown p ls

-- whatever cost is to be undercut, each leaf passes by its mark among the networks
abbrev pub AllMarksPass : Bool → Problem → List Network → List OpenAt → List Mark → Type 0
AllMarksPass distinct p ws ls ms = (undercut : Option CostOver)
    → MarksPass (LeafPasses distinct false p ws undercut) ls ms

-- whatever cost is to be undercut, the first leaf that fails is that of node k, for the cause
abbrev pub MarkIsFault : Bool → Problem → List Network → List OpenAt → List Mark → ℕ → RankWhy
    → Type 0
MarkIsFault distinct p ws ls ms k why = (undercut : Option CostOver)
    → IsFirstMark (LeafPasses distinct false p ws undercut)
    (LeafFails distinct false p ws undercut) ls ms k why
