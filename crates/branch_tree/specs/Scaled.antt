-- The multipliers of a bound with what they are over, as one list has them.
use Rattle.std.specs.Prelude.{ℤ, pos, List, [], ◌∷◌}
use Rattle.tree_rules.specs.Leaf.{Scaled}

-- the scale comes first
abbrev pub scaled_of : List ℤ → Scaled
scaled_of [] = record { d = pos 0; ys = [] }
scaled_of (d ∷ ys) = record { d = d; ys = ys }
