-- The names of a plant, small texts about it, and what is reported of them.
use Rattle.std.proofs.Common.{◌≡◌, ◌++◌, ℕ, pos, List, [], ◌∷◌, map, flat_map, codes, Err}
use Rattle.edit_rules.specs.problem_rules.Problem.{Problem, Material, OperatingUnit, intermediate}
use Rattle.tree_text_rules.specs.declared.TreeKind.{TreeKind}
use Rattle.tree_text_rules.specs.Read.{Fault, read_text, read_headed_text}

abbrev material : List ℕ → Material
material name =
    record { name = name; kind = intermediate; price = pos 0; lower = pos 0; upper = pos 0 }

abbrev unit : List ℕ → OperatingUnit
unit name = record {
  name = name;
  lower = pos 0;
  upper = pos 0;
  fix = pos 0;
  proportional = pos 0;
  investment_fix = pos 0;
  investment_proportional = pos 0;
  inputs = [];
  outputs = [];
}

abbrev pub plant : Problem
plant = record {
  materials =
      map material (codes "A" ∷ codes "B" ∷ codes "C" ∷ codes "E" ∷ codes "F" ∷ codes "P" ∷ []);
  units = map unit (codes "U1" ∷ codes "U2" ∷ codes "U3" ∷ codes "U4" ∷ codes "U5" ∷ []);
  exclusions = record { name = codes "X"; units = 0 ∷ 1 ∷ [] } ∷ [];
  payout = pos 1;
}

-- each line with its line feed
abbrev pub lines : List (List ℕ) → List ℕ
lines texts = flat_map (λ text. text ++ 10 ∷ []) texts

-- a text of the first line and these lines
abbrev pub body : List (List ℕ) → List ℕ
body texts = lines (codes "file_type=PNS_tree_v1" ∷ texts)

-- each text of the table has this first fault
abbrev pub First : List (List ℕ × Fault) → Type 0
First rows = map (λ row. read_text plant (row.0)) rows ≡ map (λ row. Err (row.1)) rows

-- each line of the table, between these lines and those, has this kind of fault
abbrev pub Told : List (List ℕ) → List (List ℕ) → ℕ → List (List ℕ × TreeKind) → Type 0
Told front back number rows =
    map (λ row. read_text plant (body (front ++ row.0 ∷ back))) rows
    ≡ map (λ row. Err (number, row.1)) rows

-- the same of texts in which a head may come
abbrev pub ToldHeaded : List (List ℕ) → List (List ℕ) → ℕ → List (List ℕ × TreeKind) → Type 0
ToldHeaded front back number rows =
    map (λ row. read_headed_text plant (body (front ++ row.0 ∷ back))) rows
    ≡ map (λ row. Err (number, row.1)) rows
