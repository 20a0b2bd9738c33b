-- Small plans to read, and what is reported of them.
use Rattle.std.proofs.Common.{◌≡◌, ◌++◌, ℕ, List, [], ◌∷◌, map, flat_map, codes, Err}
use Rattle.plan_rules.specs.declared.PlanKind.{PlanKind}
use Rattle.plan_rules.specs.Meaning.{read_plan}
use Rattle.plan_rules.specs.Read.{Fault}
use Rattle.plan_rules.proofs.Plant.{plant}

-- each line with its line feed
abbrev pub text_of : List (List ℕ) → List ℕ
text_of lines = flat_map (λ line. line ++ 10 ∷ []) lines

-- these lines after the first line
abbrev pub body : List (List ℕ) → List ℕ
body lines = text_of (codes "file_type=PNS_plan_v1" ∷ lines)

-- each line of the table, at line 3 after a line that begins a period, has this kind of fault
abbrev pub Told : List (List ℕ × PlanKind) → Type 0
Told rows = map (λ row. read_plan plant (body (codes "period" ∷ row.0 ∷ []))) rows
    ≡ map (λ row. Err (3, row.1)) rows

-- each text of the table has this first fault
abbrev pub First : List (List ℕ × Fault) → Type 0
First rows = map (λ row. read_plan plant (row.0)) rows ≡ map (λ row. Err (row.1)) rows
