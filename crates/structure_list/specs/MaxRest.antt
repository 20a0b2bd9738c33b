-- What is left of a set of units when one of them goes. It is a step of the maximal structure
-- generation of Friedler, Tarjan, Huang and Fan 1993, from a set that is balanced.
use Rattle.std.specs.Prelude.{◌≡◌, ◌≢◌, ℕ, Bool, true, false}
use Rattle.pgraph.specs.number_sets.Sets.{IsWithin}
use Rattle.pgraph.specs.pns_rules.Shape.{Shape}
use Rattle.pgraph.specs.pns_rules.Structure.{is_made, Meets}
use Rattle.pgraph.specs.pns_rules.Ends.{IsNever}
use Rattle.pgraph.specs.pns_rules.Breaks.{BreaksS2}

-- each material that is wanted has a maker in the set
abbrev pub HasAll : Shape → (ℕ → Bool) → (ℕ → Bool) → Type 0
HasAll g wanted o = (x : ℕ) → wanted x ≡ true → is_made g o x ≡ true

-- No unit of the set makes a raw material. Each other material that the set uses is made in it, and
-- so is each that is wanted.
pub record IsKept (g : Shape) (wanted kept : ℕ → Bool) : Type 0 where
  pub balanced : IsNever (BreaksS2 g kept)
  pub makes : HasAll g wanted kept

-- all inputs of the unit but raw materials are wanted
abbrev pub UsesWanted : Shape → (ℕ → Bool) → ℕ → Type 0
UsesWanted g wanted v = (x : ℕ) → g.uses v x ≡ true → g.raw x ≡ false → wanted x ≡ true

-- What is kept without u. It contains each solution structure within `held` and without u, and each
-- other unit that uses nothing but what is wanted.
pub record IsRest (g : Shape) (wanted held : ℕ → Bool) (u : ℕ) (rest : ℕ → Bool) : Type 0 where
  pub within : IsWithin rest held
  pub without : rest u ≡ false
  pub kept : IsKept g wanted rest
  pub holds : (m o : ℕ → Bool) → Meets g m o → IsWithin o held → o u ≡ false → IsWithin o rest
  pub stays : (v : ℕ) → held v ≡ true → u ≢ v → UsesWanted g wanted v → rest v ≡ true

-- no solution structure within `held` and without u makes all that is wanted
abbrev pub HasNoRest : Shape → (ℕ → Bool) → (ℕ → Bool) → ℕ → Type 0
HasNoRest g wanted held u = (m o : ℕ → Bool) → Meets g m o → IsWithin o held → o u ≡ false
    → HasAll g wanted o → ⊥

-- The units of the set that go if the material, which is not raw, has no maker in it: those that
-- use it. None go if it has one.
pub record IsStarved (g : Shape) (wanted left : ℕ → Bool) (x : ℕ) (gone : ℕ → Bool) : Type 0 where
  pub within : IsWithin gone left
  pub use_it : (v : ℕ) → gone v ≡ true → (g.uses v x ≡ true) × (is_made g left x ≡ false)
  pub all : is_made g left x ≡ false → (v : ℕ) → left v ≡ true → g.uses v x ≡ true → gone v ≡ true
  pub makes : wanted x ≡ true → is_made g left x ≡ true
