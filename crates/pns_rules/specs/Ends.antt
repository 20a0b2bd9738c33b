-- Which step comes next, and how the extension of a node ends.
use Rattle.std.specs.Prelude.{◌≡◌, ℕ, ◌<◌, Bool, true, false, not, ◌&&◌, List, [], ◌∷◌, nat_lt, ◌↔◌}
use Rattle.std.specs.Prelude.{◌⊎◌}
use Rattle.number_sets.specs.Sets.{has, Avoids}
use Rattle.pns_rules.specs.Shape.{Shape}
use Rattle.pns_rules.specs.Structure.{is_needed, HasPath, Clashes, IsStructure, IsAllowed}
use Rattle.pns_rules.specs.Nodes.{Node, Step, raw, rival, starve, loose, sole, IsPossible, after}
use Rattle.pns_rules.specs.Nodes.{is_free}

-- the units of I are known and not in E, none makes a raw material, and each has a path to a
-- product through units of I
pub record IsSound (g : Shape) (n : Node) : Type 0 where
  pub known : (u : ℕ) → n.inside u ≡ true → u < g.units
  pub apart : Avoids n.inside n.outside
  pub no_raw : (u x : ℕ) → n.inside u ≡ true → g.makes u x ≡ true → g.raw x ≡ true → ⊥
  pub leads : (u : ℕ) → n.inside u ≡ true → HasPath g n.inside u

-- a needed material without a maker outside E
pub record IsDead (g : Shape) (n : Node) (x : ℕ) : Type 0 where
  pub needed : is_needed g n.inside x ≡ true
  pub all_out : (u : ℕ) → u < g.units → g.makes u x ≡ true → n.outside u ≡ true

-- the units outside E
abbrev pub remaining : Shape → Node → ℕ → Bool
remaining g n u = nat_lt u g.units && not (n.outside u)

-- a unit outside E without a path to a product through units outside E
pub record IsPathless (g : Shape) (n : Node) (u : ℕ) : Type 0 where
  pub remains : remaining g n u ≡ true
  pub no_path : HasPath g (remaining g n) u → ⊥

-- a needed material with a maker outside I and E
pub record IsUndecided (g : Shape) (n : Node) (x : ℕ) : Type 0 where
  pub needed : is_needed g n.inside x ≡ true
  pub some : (u : ℕ) × (u < g.units) × (g.makes u x ≡ true) × (is_free g n u ≡ true)

-- x is the least number for which P holds; P holds for no number
abbrev pub IsFirst : (ℕ → Type 0) → ℕ → Type 0
IsFirst P x = P x × ((y : ℕ) → y < x → P y → ⊥)

abbrev pub IsNever : (ℕ → Type 0) → Type 0
IsNever P = (y : ℕ) → P y → ⊥

-- the place of a step in the order raw, rival, starve, loose, sole
abbrev pub kind_order : Step → ℕ
kind_order (raw u) = 0
kind_order (rival u) = 1
kind_order (starve x) = 2
kind_order (loose w) = 3
kind_order (sole x u) = 4

-- and its place among the steps of its kind
abbrev pub number_of : Step → ℕ
number_of (raw u) = u
number_of (rival u) = u
number_of (starve x) = x
number_of (loose w) = 0
number_of (sole x u) = x

-- the step s comes before t
abbrev pub IsEarlier : Step → Step → Type 0
IsEarlier s t = (kind_order s < kind_order t)
    ⊎ ((kind_order s ≡ kind_order t) × (number_of s < number_of t))

-- the set of a `loose` step has all units that it can have
abbrev pub IsWhole : Shape → Node → Step → Type 0
IsWhole g n (raw u) = Unit {0}
IsWhole g n (rival u) = Unit {0}
IsWhole g n (starve x) = Unit {0}
IsWhole g n (loose w) = (u : ℕ) → (has w u ≡ true) ↔ IsPathless g n u
IsWhole g n (sole x u) = Unit {0}

-- no needed material is dead and no exclusion clashes
pub record IsLive (g : Shape) (n : Node) : Type 0 where
  pub no_dead : IsNever (IsDead g n)
  pub no_clash : IsNever (Clashes g n.inside)

-- s is the next step at n: n is live, and s with its whole set is the first of the possible steps
pub record IsNextStep (g : Shape) (n : Node) (s : Step) : Type 0 where
  pub live : IsLive g n
  pub possible : IsPossible g n s
  pub whole : IsWhole g n s
  pub first : (t : Step) → IsPossible g n t → IsEarlier t s → ⊥

-- the steps lead from n to m, each being the next step at its node
abbrev pub Leads : Shape → Node → List Step → Node → Type 0
Leads g n [] m = n ≡ m
Leads g n (s ∷ ss) m = IsNextStep g n s × Leads g (after g n s) ss m

-- a live node at which no step is possible
pub record IsReduced (g : Shape) (n : Node) : Type 0 where
  pub live : IsLive g n
  pub no_step : (s : Step) → IsPossible g n s → ⊥

pub data Stop : Type 0 where
  decided : Stop
  dead : ℕ → Stop
  clash : ℕ → Stop
  branch : ℕ → Stop

pub record IsDecided (g : Shape) (n : Node) : Type 0 where
  pub reduced : IsReduced g n
  pub decided : IsNever (IsUndecided g n)
  pub meets : IsStructure g n.inside
  pub allowed : IsAllowed g n.inside
  pub none_free : (u : ℕ) → u < g.units → is_free g n u ≡ false

-- what each end of the extension says of the node
abbrev pub EndsAt : Shape → Node → Stop → Type 0
EndsAt g n decided = IsDecided g n
EndsAt g n (dead x) = IsFirst (IsDead g n) x
EndsAt g n (clash k) = IsNever (IsDead g n) × IsFirst (Clashes g n.inside) k
EndsAt g n (branch x) = IsReduced g n × IsFirst (IsUndecided g n) x
