-- The names of a plant, for small texts about it.
use Rattle.std.proofs.Common.{◌++◌, ℕ, pos, List, [], ◌∷◌, map, flat_map, codes}
use Rattle.tree_text_rules.specs.problem_rules.Problem.{Problem, Material, OperatingUnit}
use Rattle.tree_text_rules.specs.problem_rules.Problem.{intermediate}

abbrev material : List ℕ → Material
material name =
    record { name = name; kind = intermediate; price = pos 0; lower = pos 0; upper = pos 0 }

abbrev unit : List ℕ → OperatingUnit
unit name = record {
  name = name;
  lower = pos 0;
  upper = pos 0;
  fix = pos 0;
  proportional = pos 0;
  investment_fix = pos 0;
  investment_proportional = pos 0;
  inputs = [];
  outputs = [];
}

abbrev pub plant : Problem
plant = record {
  materials =
      map material (codes "A" ∷ codes "B" ∷ codes "C" ∷ codes "E" ∷ codes "F" ∷ codes "P" ∷ []);
  units = map unit (codes "U1" ∷ codes "U2" ∷ codes "U3" ∷ codes "U4" ∷ codes "U5" ∷ []);
  exclusions = [];
  payout = pos 1;
}

-- the text of these lines
abbrev pub text_with : List (List ℕ) → List ℕ
text_with lines = flat_map (λ line. line ++ 10 ∷ []) lines
