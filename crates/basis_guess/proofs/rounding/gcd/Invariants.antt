use Rattle.basis_guess.proofs.rounding.gcd.Given as goal

abbrev pub decreases-loop-y : goal.decreases-loop-y
decreases-loop-y l = l.y
