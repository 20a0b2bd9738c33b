-- A unit and a material that are read by number.
use Rattle.std.proofs.Common.{◌≡◌, ℕ, zero, suc, ◌<◌, List, [], ◌∷◌, length, get_or, refl, ap, ◌∙◌}
use Rattle.std.proofs.Common.{arith}
use Rattle.report_rules.specs.problem_rules.Problem.{Problem, Material, material_at, no_material}
use Rattle.report_rules.specs.problem_rules.Problem.{OperatingUnit}
use Rattle.report_rules.specs.problem_rules.Problem.{unit_at, no_unit}

get_or-any : {X : Type 0} (xs : List X) (k : ℕ) (a b : X) → k < length xs
    → get_or xs k a ≡ get_or xs k b
get_or-any [] k a b l = absurd (omega arith)
get_or-any (x ∷ xs) zero a b l = refl
get_or-any (x ∷ xs) (suc k) a b l = get_or-any xs k a b (omega arith)

pub unit_read : (p : Problem) (us : List OperatingUnit) (u : ℕ) (x : OperatingUnit) → us ≡ p.units
    → u < length p.units → x ≡ get_or us u x → x ≡ unit_at p u
unit_read p us u x e l h = h ∙ ap (λ (vs : List OperatingUnit). get_or vs u x) e
    ∙ get_or-any p.units u x no_unit l

pub material_read : (p : Problem) (ms : List Material) (j : ℕ) (x : Material) → ms ≡ p.materials
    → j < length p.materials → x ≡ get_or ms j x → x ≡ material_at p j
material_read p ms j x e l h = h ∙ ap (λ (ys : List Material). get_or ys j x) e
    ∙ get_or-any p.materials j x no_material l
