-- Which units to leave out if a set breaks the second axiom at a material. For a raw material they
-- are its makers, since no solution structure makes one. Else they are its users, since no
-- structure uses what is neither raw nor made.
use Rattle.std.specs.Prelude.{ℕ, Bool, cond}
use Rattle.pgraph.specs.pns_rules.Shape.{Shape}

abbrev pub is_to_blame : Shape → ℕ → ℕ → Bool
is_to_blame g x u = cond (g.raw x) (g.makes u x) (g.uses u x)
