-- The entries of the rows at the start of the path. There the basis has all s, t and w, and the
-- scale.
use Rattle.std.specs.Prelude.{ℕ, suc, ◌+◌, ◌-◌, Bool, false, cond, nat_eq, nat_lt, nat_le, ℤ, pos}
use Rattle.std.specs.Prelude.{◌-ℤ◌, neg_ℤ}
use Rattle.flow_program.specs.flow_rules.LinearProgram.{LinearProgram, low_flow}
use Rattle.flow_program.specs.flow_rules.Columns.{right_at}
use Rattle.flow_program.specs.flow_rules.Start.{one_at}

-- at the x of a unit
abbrev pub start_at_x : LinearProgram → ℕ → ℕ → ℤ
start_at_x p c k =
    cond (nat_lt c (p.units + p.units)) (one_at (c - p.units) k)
    (cond (nat_lt c (p.units + p.units + p.rows)) (neg_ℤ (p.rate (c - (p.units + p.units)) k))
    (cond (nat_lt c (right_at p)) (p.rate (c - (p.units + p.units + p.rows)) k) (p.cost k)))

abbrev pub start_at_right : LinearProgram → ℕ → ℤ
start_at_right p c =
    cond (nat_lt c (p.units + p.units)) (p.high (c - p.units) -ℤ p.low (c - p.units))
    (cond (nat_lt c (p.units + p.units + p.rows))
    (neg_ℤ (p.floor (c - (p.units + p.units)) -ℤ low_flow p (c - (p.units + p.units))))
    (cond (nat_lt c (right_at p))
    (p.ceiling (c - (p.units + p.units + p.rows)) -ℤ low_flow p
    (c - (p.units + p.units + p.rows))) (pos 0)))

-- row c at place k
abbrev pub start_entry : LinearProgram → ℕ → ℕ → ℤ
start_entry p c k =
    cond (nat_lt k p.units) (start_at_x p c k)
    (cond (nat_eq k (right_at p)) (start_at_right p c) (one_at c k))

-- all s, t and w, and the scale
abbrev pub start_of : ℕ → ℕ → ℕ → Bool
start_of units rows k =
    cond (nat_lt k units) false
    (cond (nat_eq k (units + units + rows + rows)) false
    (nat_le k (suc (units + units + rows + rows))))
