-- The lower bound of a tree that is not finished, and the gap between it and the best network so
-- far. The lower bound is rounded down and the gap up, so what is printed of both is proved too.
use Rattle.std.specs.Prelude.{◌+◌, ◌*◌, ◌/◌, ◌%◌, ◌==◌, ℕ, List, [], ◌∷◌, ◌++◌, Some, None, ℤ, pos}
use Rattle.std.specs.Prelude.{neg_ℤ, int_lt, unsigned_abs, codes, decimal, if◌then◌else◌}
use Rattle.std.specs.Ordering.{int_eq}
use Rattle.rank_rules.specs.problem_rules.Problem.{Problem}
use Rattle.rank_rules.specs.tree_rules.Claim.{Network}
use Rattle.report_rules.specs.Decimal.{six_digits_down}
use Rattle.report_rules.specs.Number.{Fraction, Number, times, plus}
use Rattle.report_rules.specs.Amounts.{quotient}
use Rattle.report_rules.specs.declared.lower_bound.LowerBound.{LowerBound}

-- the bound over d and the payout period is in 10^-18
unfoldable pub low_cell : Problem → LowerBound → List ℕ
low_cell p b =
    six_digits_down b.cost (1000000000000000000 * unsigned_abs p.payout * unsigned_abs b.d)

-- ---- the gap

-- a cost that is not 0 over its own size
abbrev pub side : ℤ → ℤ
side cost = if int_lt cost (pos 0) then neg_ℤ (pos 1) else pos 1

-- how far the cost of the network is above the bound, over the size of that cost, which is not 0
abbrev pub gap : Network → LowerBound → Number
gap w b =
    plus (quotient (side w.cost) (pos 1))
    (times (quotient b.cost b.d) (quotient (neg_ℤ w.d) (pos (unsigned_abs w.cost))))

-- a fraction of at least 0, rounded up
abbrev pub rounded_up : Fraction → ℕ
rounded_up f = unsigned_abs f.num / unsigned_abs f.den
    + (if unsigned_abs f.num % unsigned_abs f.den == 0 then 0 else 1)

abbrev pub tenths_text : ℕ → List ℕ
tenths_text n = decimal (n / 10) ++ 46 ∷ (48 + n % 10) ∷ []

-- of thousandths, in per cent with one place
abbrev pub gap_words : Number → List ℕ
gap_words None = []
gap_words (Some f) = codes " (gap " ++ tenths_text (rounded_up f) ++ codes " %)"

-- nothing if the cost is 0, or if a number that is formed for the gap has more than 127 bits
unfoldable pub gap_text : Network → LowerBound → List ℕ
gap_text w b =
    if int_eq w.cost (pos 0) then [] else gap_words (times (gap w b) (quotient (pos 1000) (pos 1)))
