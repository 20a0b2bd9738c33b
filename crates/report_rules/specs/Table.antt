-- A network as two tables, of its units and of its materials, each in file order. They are texts of
-- comma-separated fields; each record is written as `csv` writes it with its default settings.
use Rattle.std.specs.Prelude.{◌≡◌, ℕ, ℤ, List, [], ◌∷◌, codes, flat_map}
use Rattle.std.specs.Fmt.{signed_decimal}
use Rattle.csv.specs.Writing.{default_writer, row_text}
use Rattle.rank_rules.specs.integer_laws.Lowest.{IsLowest}
use Rattle.rank_rules.specs.integer_laws.Fraction.{fraction_text}
use Rattle.rank_rules.specs.number_sets.Sets.{has}
use Rattle.rank_rules.specs.problem_rules.Problem.{Problem, unit_at, material_at}
use Rattle.rank_rules.specs.text_rules.Canonical.{kind_word}
use Rattle.rank_rules.specs.flow_rules.Net.{net_of, materials_of}
use Rattle.rank_rules.specs.flow_rules.Flows.{balance}
use Rattle.rank_rules.specs.tree_rules.Claim.{Network, size_in}

-- the text of a number over d: a fraction in lowest terms
pub record IsQuotient (number d : ℤ) (text : List ℕ) : Type 0 where
  pub num : ℤ
  pub den : ℤ
  pub lowest : IsLowest number d num den
  pub text_is : text ≡ fraction_text num den

-- a unit, its size in millionths, and its fixed cost for a year in millionths
pub record IsUnitRow (p : Problem) (w : Network) (u : ℕ) (row : List (List ℕ)) : Type 0 where
  pub size : List ℕ
  pub size_is : IsQuotient (size_in w u) w.d size
  pub row_is : row ≡ (unit_at p u).name ∷ size ∷ signed_decimal (unit_at p u).fix ∷ []

-- a material, its kind, and what the network makes of it less what it uses of it, in 10^-12
pub record IsMaterialRow (p : Problem) (w : Network) (j : ℕ) (row : List (List ℕ)) : Type 0 where
  pub flow : List ℕ
  pub flow_is : IsQuotient (balance (net_of p) (has w.units) (size_in w) j) w.d flow
  pub row_is : row ≡ (material_at p j).name ∷ kind_word (material_at p j).kind ∷ flow ∷ []

abbrev pub unit_heading : List (List ℕ)
unit_heading = codes "unit" ∷ codes "size_e6" ∷ codes "fix_e6" ∷ []

abbrev pub material_heading : List (List ℕ)
material_heading = codes "material" ∷ codes "kind" ∷ codes "flow_e12" ∷ []

-- one row for each number, in order
abbrev pub AreRows : (ℕ → List (List ℕ) → Type 0) → List ℕ → List (List (List ℕ)) → Type 0
AreRows IsRow [] [] = Unit {0}
AreRows IsRow [] (row ∷ rows) = ⊥
AreRows IsRow (k ∷ ks) [] = ⊥
AreRows IsRow (k ∷ ks) (row ∷ rows) = IsRow k row × AreRows IsRow ks rows

abbrev pub AreUnitRows : Problem → Network → List (List (List ℕ)) → Type 0
AreUnitRows p w = AreRows (IsUnitRow p w) w.units

abbrev pub AreMaterialRows : Problem → Network → List (List (List ℕ)) → Type 0
AreMaterialRows p w = AreRows (IsMaterialRow p w) (materials_of (net_of p) (has w.units))

-- the text of records
abbrev pub records_text : List (List (List ℕ)) → List ℕ
records_text = flat_map (row_text default_writer)

-- the bytes are a heading and then rows of which the fact is true
abbrev pub IsTable : List (List ℕ) → (List (List (List ℕ)) → Type 0) → List ℕ → Type 0
IsTable heading AreThose bytes = (rows : List (List (List ℕ))) × AreThose rows
    × (bytes ≡ records_text (heading ∷ rows))

abbrev pub IsUnitTable : Problem → Network → List ℕ → Type 0
IsUnitTable p w = IsTable unit_heading (AreUnitRows p w)

abbrev pub IsMaterialTable : Problem → Network → List ℕ → Type 0
IsMaterialTable p w = IsTable material_heading (AreMaterialRows p w)
