-- The columns of a tableau and their places in a row. First come the columns x: for each unit its
-- size above the least. Then s: for each unit what is left to the greatest size. Then t: for each
-- row what it is above its floor. Then w: for each row what is left to its ceiling. After them come
-- the right side and the scale.
use Rattle.std.specs.Prelude.{◌≡◌, ℕ, suc, ◌+◌, Bool, true, false, cond, nat_eq, nat_lt, nat_le}
use Rattle.flow_rules.specs.LinearProgram.{LinearProgram}

abbrev pub x_at : LinearProgram → ℕ → ℕ
x_at p i = i

abbrev pub s_at : LinearProgram → ℕ → ℕ
s_at p i = p.units + i

abbrev pub t_at : LinearProgram → ℕ → ℕ
t_at p j = p.units + p.units + j

abbrev pub w_at : LinearProgram → ℕ → ℕ
w_at p j = p.units + p.units + p.rows + j

abbrev pub columns : LinearProgram → ℕ
columns p = p.units + p.units + p.rows + p.rows

abbrev pub right_at : LinearProgram → ℕ
right_at p = columns p

abbrev pub scale_at : LinearProgram → ℕ
scale_at p = suc (columns p)

-- A basis is a set of columns. The scale is always in it, and its row is the cost row.
abbrev pub Basis : Type 0
Basis = ℕ → Bool

abbrev pub Has : Basis → ℕ → Type 0
Has b k = b k ≡ true

-- all s, t and w, and the scale
abbrev pub start : LinearProgram → Basis
start p k =
    cond (nat_lt k p.units) false (cond (nat_eq k (right_at p)) false (nat_le k (scale_at p)))

-- the columns that are in the basis after l has left it and e has entered it
abbrev pub exchanged : Basis → ℕ → ℕ → Basis
exchanged b l e k = cond (nat_eq k l) false (cond (nat_eq k e) true (b k))
