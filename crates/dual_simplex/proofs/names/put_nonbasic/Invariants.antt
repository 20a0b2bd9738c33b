use Rattle.std.specs.Prelude.{ℕ, ◌≡◌, ◌≤◌, not, List, length, map, take}
use Rattle.std.specs.List.{filter, range_with_len}
use Rattle.flow_program.specs.flow_rules.declared.place.Column.{Column}
use Rattle.flow_program.specs.flow_rules.Program.{Program}
use Rattle.flow_program.specs.flow_rules.Columns.{Basis}
use Rattle.dual_simplex.specs.Rows.{basis}
use Rattle.flow_program.specs.flow_rules.Named.{column_named}
use Rattle.dual_simplex.proofs.names.put_nonbasic.Given as goal

-- the first `count` are the columns before k that are not in the basis
pub record ArePut (q : Program) (b : Basis) (old new : List Column) (count k : ℕ) : Type 0 where
  pub size : length new ≡ length old
  pub few : count ≤ k
  pub are : take count new ≡ map (column_named q) (filter (λ i. not (b i)) (range_with_len 0 k))

abbrev pub invariant-loop-k : goal.invariant-loop-k
invariant-loop-k l = ArePut l.program (basis l.rows) l.fn.list l.list l.count l.k
