-- The line of one bound, or none.
use Rattle.std.proofs.Common.{◌≡◌, ℕ, ℤ, Bool, List, [], ◌∷◌, ap, ◌∙◌, pos, true, false, refl}
use Rattle.std.proofs.Common.{codes}
use Rattle.std.specs.Prelude.{◌&&◌, not, int_lt, if◌then◌else◌}
use Rattle.std.specs.Ordering.{int_eq}
use Rattle.text_lines.specs.problem_rules.Problem.{Problem, material_at, unit_at, is_raw_material}
use Rattle.report_amounts.specs.report_rules.Clash.{material_here, unit_here, bound_line}
use Rattle.report_amounts.specs.report_rules.Clash.{material_line}
use Rattle.report_amounts.specs.report_rules.Clash.{uses_lower}

then_is : {X : Type 0} (b : Bool) (x y : X) → b ≡ true → x ≡ if b then x else y
then_is true x y e = refl
then_is false x y e = let f : false ≡ true = e in cc

else_is : {X : Type 0} (b : Bool) (x y : X) → b ≡ false → y ≡ if b then x else y
else_is true x y e = let f : true ≡ false = e in cc
else_is false x y e = refl

module _ (p : Problem) (j : ℕ) (lower y : ℤ) where
  abbrev raw : Bool
  raw = is_raw_material (material_at p j).kind

  abbrev at_least : List ℕ
  at_least = bound_line (material_at p j).name (codes ": at least ") lower

  abbrev at_most : List ℕ
  at_most = bound_line (material_at p j).name (codes ": at most ") (material_at p j).upper

  pub no_material_line : int_eq y (pos 0) ≡ true → [] ≡ material_here p j lower y
  no_material_line e = then_is (int_eq y (pos 0)) [] (material_line p j lower y ∷ []) e

  pub lower_line : int_eq y (pos 0) ≡ false → uses_lower raw y ≡ true
      → at_least ∷ [] ≡ material_here p j lower y
  lower_line e f =
      ap (λ (t : List ℕ). t ∷ []) (then_is (uses_lower raw y) at_least at_most f)
      ∙ else_is (int_eq y (pos 0)) [] (material_line p j lower y ∷ []) e

  pub upper_line : int_eq y (pos 0) ≡ false → uses_lower raw y ≡ false
      → at_most ∷ [] ≡ material_here p j lower y
  upper_line e f =
      ap (λ (t : List ℕ). t ∷ []) (else_is (uses_lower raw y) at_least at_most f)
      ∙ else_is (int_eq y (pos 0)) [] (material_line p j lower y ∷ []) e

module _ (p : Problem) (i : ℕ) (low left : ℤ) where
  abbrev size_at_most : List (List ℕ)
  size_at_most = bound_line (unit_at p i).name (codes ": size at most ") (unit_at p i).upper ∷ []

  abbrev size_at_least : List (List ℕ)
  size_at_least = bound_line (unit_at p i).name (codes ": size at least ") low ∷ []

  abbrev least : Bool
  least = int_lt (pos 0) left && not (int_eq low (pos 0))

  pub most_line : int_lt left (pos 0) ≡ true → size_at_most ≡ unit_here p i low left
  most_line e =
      then_is (int_lt left (pos 0)) size_at_most (if least then size_at_least else []) e

  pub least_line : int_lt left (pos 0) ≡ false → least ≡ true
      → size_at_least ≡ unit_here p i low left
  least_line e f =
      then_is least size_at_least [] f
      ∙ else_is (int_lt left (pos 0)) size_at_most (if least then size_at_least else []) e

  pub no_unit_line : int_lt left (pos 0) ≡ false → least ≡ false → [] ≡ unit_here p i low left
  no_unit_line e f =
      else_is least size_at_least [] f
      ∙ else_is (int_lt left (pos 0)) size_at_most (if least then size_at_least else []) e
