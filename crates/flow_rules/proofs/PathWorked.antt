-- Worked programs: three units that make C of A, C of B and the product P of C. At the node the
-- third is taken in and the first two are free. The first pivot, the last cost row with its
-- multipliers, a row that can't be met, and the numbers on the way to the flows are computed.
use Rattle.std.proofs.Common.{◌≡◌, ℕ, zero, suc, ◌+◌, ◌<◌, List, [], ◌∷◌, get_or, arith, refl, true}
use Rattle.std.proofs.Common.{false}
use Rattle.std.specs.Prelude.{ℤ, pos, ◌+ℤ◌, ◌-ℤ◌, ◌*ℤ◌, neg_ℤ}
use Rattle.integer_laws.specs.Total.{total_below}
use Rattle.flow_rules.specs.Program.{Program}
use Rattle.flow_rules.specs.LinearProgram.{LinearProgram, linear_of}
use Rattle.flow_rules.specs.Columns.{Basis, x_at, t_at, columns, start, exchanged}
use Rattle.flow_rules.specs.Equations.{IsCombination}
use Rattle.flow_rules.specs.Vectors.{value_top}
use Rattle.flow_rules.specs.Multipliers.{multipliers}
use Rattle.flow_rules.specs.ReadFlows.{numbers, size}

abbrev million : ℤ
million = pos 1000000

-- the rows are the materials A, B, C and P; so much is wanted of P
abbrev program_with : ℤ → Program
program_with wanted = record {
  units = 0 ∷ 1 ∷ 2 ∷ [];
  rows = 0 ∷ 1 ∷ 2 ∷ 5 ∷ [];
  fixed = pos 5000000000000000000;
  costs = pos 3100000000000 ∷ pos 4010000000000 ∷ pos 0 ∷ [];
  lows = pos 0 ∷ pos 0 ∷ pos 0 ∷ [];
  highs = pos 100000000 ∷ pos 100000000 ∷ pos 150000000 ∷ [];
  floors = neg_ℤ (pos 1000000000000000000000) ∷ neg_ℤ (pos 1000000000000000000000) ∷ pos 0 ∷ wanted
      ∷ [];
  ceilings = pos 0 ∷ pos 0 ∷ pos 1000000000000000000000 ∷ wanted ∷ [];
  rates = neg_ℤ million ∷ pos 0 ∷ million ∷ pos 0 ∷ pos 0 ∷ neg_ℤ million ∷ million ∷ pos 0 ∷ pos 0
      ∷ pos 0 ∷ neg_ℤ million ∷ million ∷ [];
}

abbrev program : LinearProgram
program = linear_of (program_with (pos 20000000000000))

its_size : columns program ≡ 14
its_size = refl

-- the third unit makes P of C
its_rates : program.rate 3 2 ∷ program.rate 2 2 ∷ program.rate 0 2 ∷ [] ≡ million ∷ neg_ℤ million
    ∷ pos 0 ∷ []
its_rates = refl

-- the start has s, t, w and the scale in it; the first pivot exchanges t of P for x of the third
-- unit
the_start : start program 2 ∷ start program 3 ∷ start program 13 ∷ start program 14
    ∷ start program 15 ∷ start program 16 ∷ [] ≡ false ∷ true ∷ true ∷ false ∷ true ∷ false ∷ []
the_start = refl

next : Basis
next = exchanged (start program) (t_at program 3) (x_at program 2)

its_columns : next 2 ∷ next 9 ∷ next 8 ∷ [] ≡ true ∷ false ∷ true ∷ []
unfolding next
its_columns = refl

entry : List ℤ → ℕ → ℤ
entry r k = get_or r k (pos 0)

-- the cost row at the end: x, s, t and w, the right side and the scale
cost_row : ℕ → ℤ
unfolding entry
cost_row =
    entry (pos 0 ∷ pos 910000000000 ∷ pos 0 ∷ pos 0 ∷ pos 0 ∷ pos 0 ∷ pos 0 ∷ pos 0 ∷ pos 3100000
    ∷ pos 3100000 ∷ pos 0 ∷ pos 0 ∷ pos 0 ∷ pos 0 ∷ neg_ℤ (pos 62000000000000000000) ∷ pos 1 ∷ [])

cost_row_combines : IsCombination program cost_row
unfolding entry cost_row
cost_row_combines = record { at_x = at_x; at_right = refl }
  where
    at_x : (i : ℕ) → i < 3
        → cost_row i ≡ cost_row 15 *ℤ program.cost i +ℤ cost_row (3 + i) +ℤ total_below 4
        (λ j. (cost_row (3 + 3 + 4 + j) -ℤ cost_row (3 + 3 + j)) *ℤ program.rate j i)
    at_x zero h = refl
    at_x (suc zero) h = refl
    at_x (suc (suc zero)) h = refl
    at_x (suc (suc (suc i))) h = absurd (omega arith)

its_multipliers : multipliers program cost_row ≡ pos 0 ∷ pos 0 ∷ pos 3100000 ∷ pos 3100000 ∷ []
unfolding entry cost_row
its_multipliers = refl

-- the fixed costs and the value of the cost at that row are the bound
its_value : program.fixed +ℤ value_top next (λ c. cost_row) 15 14 0 ≡ pos 67000000000000000000
unfolding entry cost_row
its_value = refl

-- 200 of P are wanted, and the third unit has a size of at most 150: its s and t of P can't make up
-- for what is missing
abbrev too_much : LinearProgram
too_much = linear_of (program_with (pos 200000000000000))

missing : ℕ → ℤ
unfolding entry
missing =
    entry (pos 0 ∷ pos 0 ∷ pos 0 ∷ pos 0 ∷ pos 0 ∷ pos 1000000 ∷ pos 0 ∷ pos 0 ∷ pos 0 ∷ pos 1
    ∷ pos 0 ∷ pos 0 ∷ pos 0 ∷ pos 0 ∷ neg_ℤ (pos 50000000000000) ∷ pos 0 ∷ [])

missing_combines : IsCombination too_much missing
unfolding entry missing
missing_combines = record { at_x = at_x; at_right = refl }
  where
    at_x : (i : ℕ) → i < 3
        → missing i ≡ missing 15 *ℤ too_much.cost i +ℤ missing (3 + i) +ℤ total_below 4
        (λ j. (missing (3 + 3 + 4 + j) -ℤ missing (3 + 3 + j)) *ℤ too_much.rate j i)
    at_x zero h = refl
    at_x (suc zero) h = refl
    at_x (suc (suc zero)) h = refl
    at_x (suc (suc (suc i))) h = absurd (omega arith)

its_refutation : multipliers too_much missing ≡ pos 0 ∷ pos 0 ∷ pos 0 ∷ pos 1 ∷ []
unfolding entry missing
its_refutation = refl

-- the flows: 20 of the first unit and of the third, whose x are in the basis; two common
-- denominators, then three numbers for each of the units
abbrev at_end : Basis
at_end =
    exchanged (exchanged (start program) (t_at program 3) (x_at program 2)) (t_at program 2)
    (x_at program 0)

abbrev twenty : ℕ → ℤ
twenty i = get_or (pos 20000000 ∷ pos 0 ∷ pos 20000000 ∷ []) i (pos 0)

its_numbers : numbers program at_end (λ i. pos 1) twenty (λ i. pos 1)
    ≡ pos 1 ∷ pos 1 ∷ pos 0 ∷ pos 20000000 ∷ pos 20000000 ∷ pos 0 ∷ pos 0 ∷ pos 0 ∷ pos 0
    ∷ pos 20000000 ∷ pos 20000000 ∷ []
its_numbers = refl

-- their cost over the sizes of the relaxed program is that bound again
its_cost : program.fixed +ℤ total_below 3
    (λ i. program.cost i *ℤ size program (λ k. pos 1) twenty (λ k. pos 1) i)
    ≡ pos 67000000000000000000
its_cost = refl
