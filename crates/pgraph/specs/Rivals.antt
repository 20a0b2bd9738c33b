-- The rivals of a unit set: the units outside it that share an exclusion with a unit of it.
use Rattle.std.specs.Prelude.{◌≡◌, ℕ, ◌<◌, Bool, true, false, ◌⊎◌}
use Rattle.flow_rules.specs.pns_rules.Shape.{Shape}

-- an exclusion below n names u and a unit of the set
pub record SharesBelow (g : Shape) (o : ℕ → Bool) (n u : ℕ) : Type 0 where
  pub exclusion : ℕ
  pub other : ℕ
  pub known : exclusion < n
  pub has_other : o other ≡ true
  pub names_unit : g.excludes exclusion u ≡ true
  pub names_other : g.excludes exclusion other ≡ true

abbrev pub IsRival : Shape → (ℕ → Bool) → ℕ → Type 0
IsRival g o u = (o u ≡ false) × SharesBelow g o g.exclusions u

-- u was found, or is in the exclusion, which has a unit of the set
abbrev pub IsFoundOrMet : (ℕ → Bool) → (ℕ → Bool) → (ℕ → Bool) → ℕ → Type 0
IsFoundOrMet found excluded o u = (found u ≡ true)
    ⊎ ((excluded u ≡ true) × ((v : ℕ) × (excluded v ≡ true) × (o v ≡ true)))
