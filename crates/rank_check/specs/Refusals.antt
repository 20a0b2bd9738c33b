-- What a refusal says of a ranking. `Memory`, out of memory, says nothing. It is the only answer
-- that may come instead of another.
use Rattle.std.specs.Prelude.{◌≡◌, ◌⊎◌, ℕ, false, List, [], ◌∷◌, Result, Ok, Err}
use Rattle.rank_laws.specs.problem_rules.Problem.{Problem}
use Rattle.rank_laws.specs.pns_rules.Shape.{shape_of}
use Rattle.rank_laws.specs.tree_rules.Tree.{Pass}
use Rattle.rank_laws.specs.tree_rules.Accepted.{first_node}
use Rattle.rank_laws.specs.tree_text_rules.OpenLeaves.{OpenAt}
use Rattle.rank_laws.specs.tree_rules.declared.refusal.Refusal as plain
use Rattle.cert_check.specs.Bare.{BarePasses, BareFails}
use Rattle.cert_check.specs.Refusals.{NamesFault}
use Rattle.rank_laws.specs.rank_rules.declared.why.RankWhy.{RankWhy}
use Rattle.rank_laws.specs.rank_rules.Leaf.{LeafPasses, LeafFails}
use Rattle.rank_laws.specs.rank_rules.Networks.{to_undercut, ArePassing}
use Rattle.rank_laws.specs.rank_rules.Ranked.{Ranking, NetworkIsFault, NodeIsFault}
use Rattle.rank_laws.specs.rank_rules.Text.{Text}
use Rattle.rank_check.specs.Marks.{MarksPass, IsFirstMark}
use Rattle.rank_check.specs.declared.refusal.RankRefusal.{RankRefusal}
use Rattle.rank_check.specs.declared.refusal.RankRefusal.TheVariants.{Memory, Network, Node}

-- the tree passes, if leaves may be open, and their bounds are not judged
abbrev pub PlainPasses : Problem → Text → Type 0
PlainPasses p t =
    Pass (shape_of p) (BarePasses p (to_undercut t.count t.networks)) (first_node ∷ []) t.tree

-- its first fault, if leaves may be open, and their bounds are not judged
abbrev pub NamesPlainFault : Problem → Text → plain.Refusal → Type 0
NamesPlainFault p t refusal =
    NamesFault (shape_of p) (BarePasses p (to_undercut t.count t.networks))
    (BareFails p (to_undercut t.count t.networks))
    (first_node ∷ []) t.tree refusal

-- the open leaves pass by their marks, or the first that fails is that of node k
abbrev pub OpenPass : Problem → Text → List OpenAt → Type 0
OpenPass p t found =
    MarksPass (LeafPasses t.distinct false p t.networks (to_undercut t.count t.networks)) found
    t.marks

abbrev pub OpenFails : Problem → Text → List OpenAt → ℕ → RankWhy → Type 0
OpenFails p t found k why =
    IsFirstMark (LeafPasses t.distinct false p t.networks (to_undercut t.count t.networks))
    (LeafFails t.distinct false p t.networks (to_undercut t.count t.networks)) found t.marks k why

-- a node is the first that fails, for the cause
abbrev pub IsNodeAnswer : Problem → Ranking → RankRefusal → Type 0
IsNodeAnswer p r Memory = Unit {0}
IsNodeAnswer p r (Network k why) = ⊥
IsNodeAnswer p r (Node k why) = NodeIsFault false p r k why

-- A network is the first that fails, for the cause. Or all networks pass, and a node is the first
-- that fails, for the cause.
abbrev pub Refuses : Problem → Ranking → RankRefusal → Type 0
Refuses p r Memory = Unit {0}
Refuses p r (Network k why) = NetworkIsFault p r k why
Refuses p r (Node k why) = ArePassing r.distinct p [] r.networks × NodeIsFault false p r k why

-- the answer is Ok or `Memory`
abbrev pub IsOkOrMemory : {A : Type 0} → Result A RankRefusal → Type 0
IsOkOrMemory (Ok x) = Unit {0}
IsOkOrMemory (Err e) = e ≡ Memory

-- the answer is this refusal or `Memory`
abbrev pub IsRefusalOrMemory : {A : Type 0} → RankRefusal → Result A RankRefusal → Type 0
IsRefusalOrMemory wanted (Ok x) = ⊥
IsRefusalOrMemory wanted (Err e) = (e ≡ wanted) ⊎ (e ≡ Memory)
