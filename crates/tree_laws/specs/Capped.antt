-- Plants whose units are no larger than those of another plant, and the same but for that.
use Rattle.std.specs.Prelude.{◌≡◌, ◌≤ℤ◌, List, [], ◌∷◌}
use Rattle.tree_rules.specs.problem_rules.Problem.{Problem, OperatingUnit}

-- the unit v is u, but that its greatest size may be smaller
pub record IsCappedUnit (u v : OperatingUnit) : Type 0 where
  pub rest : v ≡ record u { upper = v.upper }
  pub no_more : v.upper ≤ℤ u.upper

-- the second list has as many units, each of them such a one
abbrev pub AreCapped : List OperatingUnit → List OperatingUnit → Type 0
AreCapped [] [] = Unit {0}
AreCapped [] (v ∷ vs) = ⊥
AreCapped (u ∷ us) [] = ⊥
AreCapped (u ∷ us) (v ∷ vs) = IsCappedUnit u v × AreCapped us vs

-- q is the plant p with its units capped
pub record IsCapped (p q : Problem) : Type 0 where
  pub materials : q.materials ≡ p.materials
  pub units : AreCapped p.units q.units
  pub exclusions : q.exclusions ≡ p.exclusions
  pub payout : q.payout ≡ p.payout
