-- The lines of a design: what is built, with which capacities and at which cost, and how it runs in
-- each period. Sizes and capacities are over the first number of the line `capacities`. The cost is
-- over that number and the payout period, in 10^-18 of the money unit.
use Rattle.std.specs.Prelude.{ℕ, ℤ, ◌+◌, List, [], ◌∷◌, ◌++◌, flat_map, codes, decimal}
use Rattle.std.specs.Fmt.{signed_decimal}
use Rattle.report_rules.specs.number_sets.Sets.{has}
use Rattle.report_rules.specs.problem_rules.Problem.{Problem, unit_names}
use Rattle.plan_rules.specs.Folded.{Run, Written}
use Rattle.studio_rules.specs.Lines.{spaced_names, names_in}

-- the names of the units in file order, each after a space
abbrev pub spaced_units : Problem → List ℕ → List ℕ
spaced_units p units = spaced_names (names_in (has units) 0 (unit_names p.units))

-- each number after a space
abbrev pub spaced_numbers : List ℤ → List ℕ
spaced_numbers = flat_map (λ z. 32 ∷ signed_decimal z)

-- a period with its number
abbrev pub run_lines : Problem → ℕ → Run → List (List ℕ)
run_lines p number run =
    (codes "period " ++ decimal number)
    ∷ (codes "units" ++ spaced_units p run.units)
    ∷ (codes "sizes" ++ spaced_numbers run.sizes)
    ∷ []

-- periods, the first of which has the number
abbrev pub runs_lines : Problem → ℕ → List Run → List (List ℕ)
runs_lines p number [] = []
runs_lines p number (run ∷ runs) = run_lines p number run ++ runs_lines p (number + 1) runs

-- what is built, with its capacities and the cost
abbrev pub built_lines : Problem → Written → List (List ℕ)
built_lines p x =
    (codes "built" ++ spaced_units p x.built)
    ∷ (codes "capacities " ++ (signed_decimal x.d ++ spaced_numbers x.capacities))
    ∷ (codes "cost " ++ signed_decimal x.cost)
    ∷ []

-- periods count from 1
abbrev pub design_lines : Problem → Written → List (List ℕ)
design_lines p x = built_lines p x ++ runs_lines p 1 x.runs
