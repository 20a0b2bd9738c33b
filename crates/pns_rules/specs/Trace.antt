-- Traces and their order. A trace makes the decision mapping of solution structure generation a
-- function of the structure.
use Rattle.std.specs.Prelude.{◌≡◌, ℕ, zero, suc, ◌<◌, Bool, false, not, ◌&&◌, ◌||◌, cond, ◌==◌}
use Rattle.std.specs.Prelude.{List, [], ◌∷◌, ◌⊎◌, Option, Some, None}
use Rattle.number_sets.specs.Sets.{has, listed, mask_of}
use Rattle.pns_rules.specs.Shape.{Shape}
use Rattle.pns_rules.specs.Structure.{is_needed, makers}

-- a material with the units that are chosen as its makers
pub record Pair : Type 0 where
  pub material : ℕ
  pub chosen : List ℕ

-- whether the material is in some pair
abbrev pub is_done : List Pair → ℕ → Bool
is_done [] x = false
is_done (p ∷ ps) x = (p.material == x) || is_done ps x

-- the units in the pairs
abbrev pub units_of : List Pair → ℕ → Bool
units_of [] u = false
units_of (p ∷ ps) u = has p.chosen u || units_of ps u

-- the first if there is one, else the second
abbrev pub or_later : Option ℕ → Option ℕ → Option ℕ
or_later (Some x) later = Some x
or_later None later = later

-- the least number below n that passes
abbrev pub least_below : ℕ → (ℕ → Bool) → Option ℕ
least_below zero test = None
least_below (suc n) test = or_later (least_below n test) (cond (test n) (Some n) None)

-- the least needed material of the units in the pairs that is in no pair
abbrev pub next_material : Shape → List Pair → Option ℕ
next_material g done =
    least_below g.materials (λ x. is_needed g (units_of done) x && not (is_done done x))

-- The list continues `done`: each pair has the next material and its makers in s, and after the
-- last no material is next.
abbrev pub Continues : Shape → (ℕ → Bool) → List Pair → List Pair → Type 0
Continues g s done [] = next_material g done ≡ None
Continues g s done (p ∷ ps) =
    (next_material g done ≡ Some p.material) × (p.chosen ≡ listed g.units (makers g s p.material))
    × Continues g s (p ∷ done) ps

-- the trace of s
abbrev pub IsTrace : Shape → (ℕ → Bool) → List Pair → Type 0
IsTrace g s t = Continues g s [] t

-- At the first pair in which the traces differ, the material is the same, and the number of the
-- makers is smaller in the first trace.
abbrev pub IsLess : List Pair → List Pair → Type 0
IsLess [] ts = ⊥
IsLess (p ∷ ps) [] = ⊥
IsLess (p ∷ ps) (q ∷ qs) = (p.material ≡ q.material)
    × ((mask_of p.chosen < mask_of q.chosen) ⊎ ((p.chosen ≡ q.chosen) × IsLess ps qs))

-- s comes before t
pub record IsBefore (g : Shape) (s t : ℕ → Bool) : Type 0 where
  pub trace_of_s : List Pair
  pub trace_of_t : List Pair
  pub of_s : IsTrace g s trace_of_s
  pub of_t : IsTrace g t trace_of_t
  pub less : IsLess trace_of_s trace_of_t

-- ---- traces that begin with the pairs of a list, the last pair first

-- the pairs of the trace, in reverse, in front of those that are done
abbrev pub onto : List Pair → List Pair → List Pair
onto [] done = done
onto (p ∷ ps) done = onto ps (p ∷ done)

-- each material is the one that comes next after the pairs before it
abbrev pub IsWalk : Shape → List Pair → Type 0
IsWalk g [] = Unit {0}
IsWalk g (p ∷ ps) = (next_material g ps ≡ Some p.material) × IsWalk g ps

-- each pair has the makers of its material in s
abbrev pub HasMakers : Shape → (ℕ → Bool) → List Pair → Type 0
HasMakers g s [] = Unit {0}
HasMakers g s (p ∷ ps) = (p.chosen ≡ listed g.units (makers g s p.material)) × HasMakers g s ps
