-- The networks of a ranked tree: each passes as a claim, costs do not fall, and no two have the
-- same units. In a list of alternatives, which is distinct, none contains the units of another that
-- costs no more.
use Rattle.std.specs.Prelude.{◌≡◌, ◌⊎◌, ℕ, zero, suc, ◌==◌, Bool, true, false, cond, List, []}
use Rattle.std.specs.Prelude.{◌∷◌, length, Option, Some, None}
use Rattle.tree_text_rules.specs.number_sets.Sets.{has, IsWithin}
use Rattle.tree_text_rules.specs.problem_rules.Problem.{Problem}
use Rattle.tree_text_rules.specs.tree_rules.declared.why.Why.{Why}
use Rattle.tree_text_rules.specs.tree_rules.Claim.{Network, network, CostOver, IsAtLeast}
use Rattle.tree_text_rules.specs.tree_rules.Claim.{IsFeasible, ClaimFails}
use Rattle.rank_rules.specs.declared.why.RankWhy.{RankWhy}
use Rattle.rank_rules.specs.declared.why.RankWhy.TheVariants.{Plain, Order, Contains}

-- what the network costs
abbrev pub cost_of : Network → CostOver
cost_of w = record { cost = w.cost; d = w.d }

-- the network at a place of the list, counted from 0
abbrev pub network_at : ℕ → List Network → Option Network
network_at k [] = None
network_at zero (w ∷ ws) = Some w
network_at (suc k) (w ∷ ws) = network_at k ws

-- the network of a number, counted from 1
abbrev pub numbered : ℕ → List Network → Option Network
numbered zero ws = None
numbered (suc k) ws = network_at k ws

-- the units are those of a network of the list
abbrev pub IsListed : List Network → (ℕ → Bool) → Type 0
IsListed [] s = ⊥
IsListed (w ∷ ws) s = ((u : ℕ) → s u ≡ has w.units u) ⊎ IsListed ws s

-- what the last network costs
abbrev pub last_cost : List Network → Option CostOver
last_cost [] = None
last_cost (w ∷ []) = Some (cost_of w)
last_cost (w ∷ v ∷ vs) = last_cost (v ∷ vs)

-- the cost that has to be undercut: that of the last network, if there are as many networks as were
-- asked for
abbrev pub to_undercut : ℕ → List Network → Option CostOver
to_undercut count ws = cond (length ws == count) (last_cost ws) None

-- ---- order

-- the network w costs at least what v does
abbrev pub IsNoCheaper : Network → Network → Type 0
IsNoCheaper v w = IsAtLeast (Some (cost_of v)) w.cost w.d

-- w costs at least as much as the network before it; the earlier networks are listed from the last
-- to the first
abbrev pub RisesFrom : List Network → Network → Type 0
RisesFrom [] w = Unit {0}
RisesFrom (v ∷ vs) w = IsNoCheaper v w

-- the network v contains the units of w, which costs no more
abbrev pub Repeats : Network → Network → Type 0
Repeats v w = IsWithin (has w.units) (has v.units) × IsNoCheaper w v

-- one of the two is enough: they have the same units; or, in a list of alternatives, one contains
-- the units of the other, which costs no more
abbrev pub AreAlike : Bool → Network → Network → Type 0
AreAlike false v w = (u : ℕ) → has v.units u ≡ has w.units u
AreAlike true v w = Repeats v w ⊎ Repeats w v

-- no earlier network is like it
abbrev pub IsNewTo : Bool → List Network → Network → Type 0
IsNewTo distinct [] w = Unit {0}
IsNewTo distinct (v ∷ vs) w = (AreAlike distinct v w → ⊥) × IsNewTo distinct vs w

abbrev pub IsInOrder : Bool → List Network → Network → Type 0
IsInOrder distinct earlier w = RisesFrom earlier w × IsNewTo distinct earlier w

-- ---- which lists pass, and which network fails first

-- each network after the earlier ones is a clash-free solution structure with flows of its cost,
-- and in order
abbrev pub ArePassing : Bool → Problem → List Network → List Network → Type 0
ArePassing distinct p earlier [] = Unit {0}
ArePassing distinct p earlier (w ∷ ws) = IsFeasible p w × IsInOrder distinct earlier w
    × ArePassing distinct p (w ∷ earlier) ws

-- the cause if an earlier network is like it
abbrev pub like_why : Bool → RankWhy
like_why false = Order
like_why true = Contains

-- the network costs too little, or it does not, and an earlier one is like it
abbrev pub OrderFails : Bool → List Network → Network → RankWhy → Type 0
OrderFails distinct earlier w why =
    ((RisesFrom earlier w → ⊥) × (why ≡ Order))
    ⊎ (RisesFrom earlier w × (IsNewTo distinct earlier w → ⊥) × (why ≡ like_why distinct))

-- the network fails as a claim, or it passes and is not in order
abbrev pub NetworkFails : Bool → Problem → List Network → Network → RankWhy → Type 0
NetworkFails distinct p earlier w why =
    ((cause : Why) × ClaimFails false p (network w) cause × (why ≡ Plain cause))
    ⊎ (IsFeasible p w × OrderFails distinct earlier w why)

-- of the networks after the earlier ones the first that fails is the one with this number, counted
-- from 1, for this cause
abbrev pub IsFirstOff : Bool → Problem → List Network → List Network → ℕ → RankWhy → Type 0
IsFirstOff distinct p earlier [] k why = ⊥
IsFirstOff distinct p earlier (w ∷ ws) zero why = ⊥
IsFirstOff distinct p earlier (w ∷ ws) (suc zero) why = NetworkFails distinct p earlier w why
IsFirstOff distinct p earlier (w ∷ ws) (suc (suc k)) why =
    IsFeasible p w × IsInOrder distinct earlier w
    × IsFirstOff distinct p (w ∷ earlier) ws (suc k) why
