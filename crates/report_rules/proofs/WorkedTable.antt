-- Small tables of a plant with the material A and the unit U1: what they stand for, and in which
-- line they have a fault.
use Rattle.std.proofs.Common.{◌≡◌, ◌++◌, ℕ, pos, neg_ℤ, true, false, List, [], ◌∷◌, map, flat_map}
use Rattle.std.proofs.Common.{codes, Result, Ok, Err, refl}
use Rattle.rank_rules.specs.problem_rules.Problem.{Problem, Material, OperatingUnit, intermediate}
use Rattle.report_rules.specs.declared.spot.Spot.TheVariants.{Price, Fix, Proportional}
use Rattle.rank_rules.specs.tree_text_rules.declared.TreeKind.TheVariants.{BadLine, BadNumber}
use Rattle.rank_rules.specs.tree_text_rules.declared.TreeKind.TheVariants.{UnknownName}
use Rattle.rank_rules.specs.tree_text_rules.Read.{Fault}
use Rattle.report_rules.specs.declared.end.End.TheVariants.{Value, Limit, Unknown}
use Rattle.report_rules.specs.declared.row.Row.{Row}
use Rattle.report_rules.specs.Object.{row_json}
use Rattle.report_rules.specs.RangeTable.{is_table, read_table}

abbrev material : Material
material =
    record { name = codes "A"; kind = intermediate; price = pos 0; lower = pos 0; upper = pos 0 }

abbrev unit : OperatingUnit
unit = record {
  name = codes "U1";
  lower = pos 0;
  upper = pos 0;
  fix = pos 0;
  proportional = pos 0;
  investment_fix = pos 0;
  investment_proportional = pos 0;
  inputs = [];
  outputs = [];
}

abbrev plant : Problem
plant = record {
  materials = material ∷ [];
  units = unit ∷ [];
  exclusions = [];
  payout = pos 1;
}

-- each line with its line feed, after the headings
abbrev table : List (List ℕ) → List ℕ
table texts =
    flat_map (λ text. text ++ 10 ∷ []) (codes "kind          name   from  now    to" ∷ texts)

its_name : is_table (table []) ≡ true
its_name = refl

no_table : is_table (codes "file_type=PNS_tree_v1\n") ≡ false
no_table = refl

-- what follows an empty line is not read
its_rows : read_table plant (table
    (codes "price         A     limit    2   2.55"
    ∷ codes "fix           U1        0   10      ?"
    ∷ codes "proportional  U1    -0.25  0.5  limit"
    ∷ [] ∷ codes "?: a search stopped" ∷ []))
    ≡ Ok (
    record { spot = Price 0; from = Limit; value = pos 2000000; to = Value (pos 2550000) }
    ∷ record { spot = Fix 0; from = Value (pos 0); value = pos 10000000; to = Unknown }
    ∷ record {
      spot = Proportional 0;
      from = Value (neg_ℤ (pos 250000));
      value = pos 500000;
      to = Limit;
    }
    ∷ [])
its_rows = refl

-- each line after one row has this fault
faults : map (λ row. read_table plant (table (codes "price A 0 1 2" ∷ row ∷ [])))
    (codes "price A 0 1" ∷ codes "price A 0 1 2 3" ∷ codes "cost A 0 1 2" ∷ codes "price U1 0 1 2"
    ∷ codes "fix A 0 1 2" ∷ codes "price A 0 ? 2" ∷ codes "price A 0 1 2.0000001" ∷ [])
    ≡ map (λ kind. Err (3, kind))
    (BadLine ∷ BadLine ∷ BadLine ∷ UnknownName ∷ UnknownName ∷ BadNumber ∷ BadNumber ∷ [])
faults = refl
