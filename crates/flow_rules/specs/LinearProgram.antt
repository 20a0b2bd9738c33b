-- A linear program whose columns and rows have ranges, and the flow program of a node as one. Its
-- columns (the units) and its rows are numbered from 0.
use Rattle.std.specs.Prelude.{ℕ, ◌+◌, ◌*◌, ℤ, pos, ◌*ℤ◌, length, slice_index_or}
use Rattle.integer_laws.specs.Total.{total_below}
use Rattle.pns_rules.specs.Nodes.{Node}
use Rattle.flow_rules.specs.Net.{Net}
use Rattle.flow_rules.specs.Program.{Program, program_of}

-- The sizes z over d are within the program if `low * d ≤ z ≤ high * d` for each unit and, for each
-- row, `floor * d ≤ the sum of rate * z ≤ ceiling * d`.
pub record LinearProgram : Type 0 where
  pub units : ℕ
  pub rows : ℕ
  pub rate : ℕ → ℕ → ℤ
  pub low : ℕ → ℤ
  pub high : ℕ → ℤ
  pub cost : ℕ → ℤ
  pub fixed : ℤ
  pub floor : ℕ → ℤ
  pub ceiling : ℕ → ℤ

-- unit i is the i-th unit of the node's program and row j its j-th row
abbrev pub linear_of : Program → LinearProgram
linear_of q = record {
  units = length q.units;
  rows = length q.rows;
  rate = λ j i. slice_index_or q.rates (i * length q.rows + j) (pos 0);
  low = λ i. slice_index_or q.lows i (pos 0);
  high = λ i. slice_index_or q.highs i (pos 0);
  cost = λ i. slice_index_or q.costs i (pos 0);
  fixed = q.fixed;
  floor = λ j. slice_index_or q.floors j (pos 0);
  ceiling = λ j. slice_index_or q.ceilings j (pos 0);
}

abbrev pub linear : Net → Node → LinearProgram
linear net n = linear_of (program_of net n)

-- what row j is at the lower ends of the units
abbrev pub low_flow : LinearProgram → ℕ → ℤ
low_flow p j = total_below p.units (λ i. p.rate j i *ℤ p.low i)
