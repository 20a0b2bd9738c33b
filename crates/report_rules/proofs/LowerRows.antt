-- Worked lower bounds and gaps. Of 5/7 below 0 the next number with six places is taken; a network
-- of cost 75 and the bound 67 are 10.66.. per cent apart.
use Rattle.std.proofs.Common.{◌≡◌, ℤ, pos, [], ◌++◌, refl, arith}
use Rattle.std.specs.Prelude.{neg_ℤ, codes, decimal}
use Rattle.rank_rules.specs.tree_rules.Claim.{Network}
use Rattle.report_rules.specs.Amounts.{quotient}
use Rattle.report_rules.specs.Decimal.{six_digits_down}
use Rattle.report_rules.specs.declared.lower_bound.LowerBound.{LowerBound}
use Rattle.report_rules.specs.Lower.{gap_text}

sevenths : six_digits_down (pos 5) 7 ≡ decimal 0 ++ codes ".714285"
sevenths = refl

sevenths_below : six_digits_down (neg_ℤ (pos 5)) 7 ≡ codes "-" ++ decimal 0 ++ codes ".714286"
sevenths_below = refl

exact_below : six_digits_down (neg_ℤ (pos 226)) 2 ≡ codes "-" ++ decimal 113 ++ []
exact_below = refl

digits_lost : six_digits_down (pos 468999999) 7000000 ≡ decimal 66 ++ codes ".9999"
digits_lost = refl

digits_lost_below : six_digits_down (neg_ℤ (pos 791000001)) 7000000
    ≡ codes "-" ++ decimal 113 ++ codes ".001"
digits_lost_below = refl

-- ---- gaps

abbrev costing : ℤ → Network
costing cost = record { units = []; sizes = []; d = pos 1; cost = cost }

abbrev low : LowerBound
low = record {
  cost = pos 134;
  d = pos 2;
  cost_in_range = omega arith;
  d_in_range = omega arith;
  positive = omega arith;
}

its_gap : gap_text (costing (pos 75)) low
    ≡ codes " (gap " ++ (decimal 10 ++ codes ".7") ++ codes " %)"
unfolding gap_text quotient
its_gap = refl

no_gap : gap_text (costing (pos 0)) low ≡ []
unfolding gap_text
no_gap = refl

no_distance : gap_text (costing (pos 67)) low
    ≡ codes " (gap " ++ (decimal 0 ++ codes ".0") ++ codes " %)"
unfolding gap_text quotient
no_distance = refl
