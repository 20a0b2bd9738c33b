-- The list of the best networks as a value: how many are asked for, those that it has, and what
-- becomes of it if one more is found.
use Rattle.std.specs.Prelude.{◌≡◌, ℕ, suc, ◌≤◌, pos, ◌≤ℤ◌, ◌<ℤ◌, ◌*ℤ◌, List, [], ◌∷◌, ◌++◌, length}
use Rattle.std.specs.Prelude.{take, Option, Some, None}
use Rattle.rank_check.specs.tree_rules.Claim.{Network}
use Rattle.rank_check.specs.rank_rules.Networks.{IsNoCheaper}
use Rattle.rank_search.specs.Found.{FoundAt, AreRising}

-- how many are asked for, and those of the list
pub record Listed : Type 0 where
  pub count : ℕ
  pub found : List FoundAt

-- what the costs are over is above 0
abbrev pub AreScaled : List FoundAt → Type 0
AreScaled [] = Unit {0}
AreScaled (f ∷ fs) = (pos 1 ≤ℤ f.network.d) × AreScaled fs

-- what the type of the list keeps: at least one is asked for, there are no more than that, and none
-- costs less than the one before it
pub record IsListed (l : Listed) : Type 0 where
  pub asked : 1 ≤ l.count
  pub few : length l.found ≤ l.count
  pub rising : AreRising l.found
  pub scaled : AreScaled l.found

-- ---- one more is found

-- the network w costs more than v
abbrev pub IsDearer : Network → Network → Type 0
IsDearer v w = (v.cost *ℤ w.d) <ℤ (w.cost *ℤ v.d)

-- w costs at least what each of these does
abbrev pub AreNoDearer : List FoundAt → Network → Type 0
AreNoDearer [] w = Unit {0}
AreNoDearer (f ∷ fs) w = IsNoCheaper f.network w × AreNoDearer fs w

-- each of these costs more than w
abbrev pub AreDearer : List FoundAt → Network → Type 0
AreDearer [] w = Unit {0}
AreDearer (f ∷ fs) w = IsDearer w f.network × AreDearer fs w

-- it comes after those that cost no more and before those that cost more; if that is one too many,
-- the last one drops out
pub record IsAdded (old new : Listed) (f : FoundAt) : Type 0 where
  pub before : List FoundAt
  pub after : List FoundAt
  pub old_is : old.found ≡ before ++ after
  pub no_dearer : AreNoDearer before f.network
  pub dearer : AreDearer after f.network
  pub count_is : new.count ≡ old.count
  pub new_is : new.found ≡ take old.count (before ++ f ∷ after)

-- the same, if there is one
abbrev pub IsSomeAdded : Listed → Listed → ℕ → Option Network → Type 0
IsSomeAdded old new leaf None = new ≡ old
IsSomeAdded old new leaf (Some w) = IsAdded old new (record { network = w; leaf = leaf })

-- the networks are added in turn, the first at the leaf of this number, each next one at the next
-- leaf
abbrev pub AreAdded : Listed → Listed → ℕ → List (Option Network) → Type 0
AreAdded old new first [] = new ≡ old
AreAdded old new first (w ∷ ws) = (mid : Listed) × IsSomeAdded old mid first w
    × AreAdded mid new (suc first) ws

-- the first few of the networks are added in turn, and no other
abbrev pub IsFrontAdded : Listed → Listed → ℕ → List (Option Network) → Type 0
IsFrontAdded old new first ws = (few : ℕ) × AreAdded old new first (take few ws)
