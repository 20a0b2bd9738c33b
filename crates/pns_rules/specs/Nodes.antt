-- Nodes of the search, the five steps that lose no structure, and the options of a material. These
-- are the neutral extension and the decision of Friedler, Tarjan, Huang and Fan 1996.
use Rattle.std.specs.Prelude.{◌≡◌, ℕ, ◌<◌, Bool, true, false, not, ◌&&◌, ◌||◌, ◌==◌, List}
use Rattle.number_sets.specs.Sets.{has, listed, IsWithin, IsRising}
use Rattle.number_sets.specs.Options.{all_options}
use Rattle.pns_rules.specs.Shape.{Shape}
use Rattle.pns_rules.specs.Structure.{is_needed, makers}

-- the units taken in and the units left out
pub record Node : Type 0 where
  pub inside : ℕ → Bool
  pub outside : ℕ → Bool

pub data Step : Type 0 where
  raw : ℕ → Step
  rival : ℕ → Step
  starve : ℕ → Step
  loose : List ℕ → Step
  sole : ℕ → ℕ → Step

-- neither taken in nor left out
abbrev pub is_free : Shape → Node → ℕ → Bool
is_free g n u = not (n.inside u) && not (n.outside u)

-- the condition of each step
abbrev pub IsPossible : Shape → Node → Step → Type 0
IsPossible g n (raw u) = (u < g.units) × (is_free g n u ≡ true)
    × ((x : ℕ) × (g.makes u x ≡ true) × (g.raw x ≡ true))
IsPossible g n (rival u) = (u < g.units) × (is_free g n u ≡ true)
    × ((k v : ℕ) × (k < g.exclusions) × (n.inside v ≡ true) × (g.excludes k u ≡ true)
    × (g.excludes k v ≡ true))
IsPossible g n (starve x) =
    (g.raw x ≡ false)
    × ((u : ℕ) → u < g.units → g.makes u x ≡ true → n.outside u ≡ true)
    × ((u : ℕ) × (u < g.units) × (g.uses u x ≡ true) × (n.outside u ≡ false))
    × ((u : ℕ) → u < g.units → g.uses u x ≡ true → n.outside u ≡ false → n.inside u ≡ false)
IsPossible g n (loose w) =
    ((u : ℕ) × (has w u ≡ true))
    × ((u : ℕ) → has w u ≡ true → (u < g.units) × (is_free g n u ≡ true))
    × ((u x : ℕ) → has w u ≡ true → g.makes u x ≡ true
    → (g.product x ≡ false)
    × ((v : ℕ) → v < g.units → n.outside v ≡ false → has w v ≡ false → g.uses v x ≡ false))
IsPossible g n (sole x u) =
    (is_needed g n.inside x ≡ true)
    × (u < g.units) × (g.makes u x ≡ true) × (n.outside u ≡ false) × (n.inside u ≡ false)
    × ((v : ℕ) → v < g.units → g.makes v x ≡ true → n.outside v ≡ false → v ≡ u)

-- its effect
abbrev pub after : Shape → Node → Step → Node
after g n (raw u) = record { inside = n.inside; outside = λ v. (u == v) || n.outside v }
after g n (rival u) = record { inside = n.inside; outside = λ v. (u == v) || n.outside v }
after g n (starve x) = record { inside = n.inside; outside = λ v. g.uses v x || n.outside v }
after g n (loose w) = record { inside = n.inside; outside = λ v. has w v || n.outside v }
after g n (sole x u) = record { inside = λ v. (u == v) || n.inside v; outside = n.outside }

-- the makers of x that are taken in, and those that are still free
abbrev pub base_makers : Shape → Node → ℕ → List ℕ
base_makers g n x = listed g.units (makers g n.inside x)

abbrev pub free_makers : Shape → Node → ℕ → List ℕ
free_makers g n x = listed g.units (λ u. is_free g n u && g.makes u x)

-- the options of a material, in numeric order
abbrev pub options : Shape → Node → ℕ → List (List ℕ)
options g n x = all_options (base_makers g n x) (free_makers g n x)

-- the child of the option t
abbrev pub child : Shape → Node → ℕ → List ℕ → Node
child g n x t = record {
  inside = λ u. has t u || n.inside u;
  outside = λ u. (g.makes u x && not (has t u)) || n.outside u;
}

-- a non-empty set between the makers of x in I and the makers of x outside E
pub record IsOption (g : Shape) (n : Node) (x : ℕ) (t : List ℕ) : Type 0 where
  pub rising : IsRising t
  pub has_base : IsWithin (makers g n.inside x) (has t)
  pub made_by : (u : ℕ) → has t u ≡ true → (u < g.units) × (g.makes u x ≡ true)
      × (n.outside u ≡ false)
  pub some : (u : ℕ) × (has t u ≡ true)
