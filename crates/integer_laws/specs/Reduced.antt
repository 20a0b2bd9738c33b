-- A row divided by the greatest common divisor of its entries.
use Rattle.std.specs.Prelude.{ℕ, ◌≡◌, ℤ, pos, ◌*ℤ◌, unsigned_abs, List, All, map, max}
use Rattle.std.specs.Int.{◌∣◌}

-- d divides each entry
abbrev pub DividesAll : ℕ → List ℤ → Type 0
DividesAll d row = All (λ x. d ∣ unsigned_abs x) row

-- g is the greatest common divisor of the entries; it is 0 if all are 0
pub record IsRowGcd (row : List ℤ) (g : ℕ) : Type 0 where
  pub divides : DividesAll g row
  pub greatest : (d : ℕ) → DividesAll d row → d ∣ g

-- every entry times k
abbrev pub scaled : ℕ → List ℤ → List ℤ
scaled k row = map (λ x. pos k *ℤ x) row

-- `new` is `old` divided by the greatest common divisor of its entries; a row of zeros stays
pub record IsReduced (old new : List ℤ) : Type 0 where
  pub common : ℕ
  pub is_gcd : IsRowGcd old common
  pub old-is : old ≡ scaled (max 1 common) new
