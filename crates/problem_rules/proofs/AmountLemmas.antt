-- Amounts within their limits.
use Rattle.std.proofs.Common.{◌≡◌, ◌≤◌, true, false, ℤ, pos, negsuc, arith}
use Rattle.std.specs.Prelude.{int_lt, unsigned_abs}
use Rattle.std.proofs.lemmas.Bool.{or_from, lt-ltb, le-ltb, ltb-true, ltb-false}
use Rattle.problem_rules.specs.Validity.{is_out_of_range, is_negative, is_bad_payout}
use Rattle.problem_rules.specs.WellFormed.{IsInRange, IsBound}

pub in_range : (z : ℤ) → is_out_of_range z ≡ false → IsInRange z
in_range z e = ltb-false 1000000000000000 (unsigned_abs z) e

pub from_range : (z : ℤ) → IsInRange z → is_out_of_range z ≡ false
from_range z h = le-ltb 1000000000000000 (unsigned_abs z) h

pub bound : (z : ℤ) → is_out_of_range z ≡ false → is_negative z ≡ false → IsBound z
bound z e g = record { in_range = in_range z e; not_negative = g }

pub positive : (z : ℤ) → int_lt z (pos 1) ≡ false → int_lt (pos 0) z ≡ true
positive (pos n) e = let h = ltb-false n 1 e in lt-ltb 0 n (omega arith)
positive (negsuc n) e = cc

pub from_positive : (z : ℤ) → int_lt (pos 0) z ≡ true → int_lt z (pos 1) ≡ false
from_positive (pos n) e = let h = ltb-true 0 n e in le-ltb n 1 (omega arith)
from_positive (negsuc n) e = cc

pub payout_limit : (z : ℤ) → int_lt (pos 0) z ≡ true → int_lt (pos 100) z ≡ false
    → unsigned_abs z ≤ 100
payout_limit (pos n) e g = ltb-false 100 n g
payout_limit (negsuc n) e g = cc

pub good_payout : (z : ℤ) → int_lt (pos 0) z ≡ true → unsigned_abs z ≤ 100 → is_bad_payout z ≡ false
good_payout (pos n) e h =
    or_from (int_lt (pos n) (pos 1)) (int_lt (pos 100) (pos n)) (from_positive (pos n) e)
    (le-ltb 100 n h)
good_payout (negsuc n) e h = cc
