-- A number as JSON text: rounded in decimal, and exactly as a fraction.
use Rattle.std.specs.Prelude.{◌*◌, ◌+◌, ◌^◌, ℕ, zero, suc, nat_lt, List, [], ◌∷◌, ◌++◌, Some, None}
use Rattle.std.specs.Prelude.{ℤ, pos, unsigned_abs, int_lt, codes, if◌then◌else◌}
use Rattle.rank_rules.specs.integer_laws.Fraction.{fraction_text}
use Rattle.report_rules.specs.Decimal.{rounded, scaled_text}
use Rattle.report_rules.specs.Number.{Fraction, Number}
use Rattle.report_rules.specs.Json.{null, quoted, member, object}

-- the least number of places, from k on, with which num / den has 17 digits before and after the
-- point, leading zeros not counted; at most n more places are tried
abbrev pub places_from : ℕ → ℕ → ℕ → ℕ → ℕ
places_from zero k num den = k
places_from (suc n) k num den =
    if nat_lt (num * 10 ^ k) (10 ^ 16 * den) then places_from n (k + 1) num den else k

-- 55 are enough, since 10^16 * den is below 10^55
abbrev pub value_places : Fraction → ℕ
value_places f = places_from 55 0 (unsigned_abs f.num) (unsigned_abs f.den)

-- A number is rounded to the nearest number with these places, halves away from 0. So it has 17
-- digits, or more if its whole part has more. Zeros at the end after the point are not written.
unfoldable pub value_text : Fraction → List ℕ
value_text f = (if int_lt f.num (pos 0) then 45 ∷ [] else [])
    ++ scaled_text (value_places f) (rounded (value_places f) f.num (unsigned_abs f.den))

abbrev pub pair_of : List ℕ → List ℕ → List ℕ
pair_of value exact = object (member (codes "value") value ∷ member (codes "exact") exact ∷ [])

-- the number twice, and null twice if it is `None`
unfoldable pub number_json : Number → List ℕ
number_json None = pair_of null null
number_json (Some f) = pair_of (value_text f) (quoted (fraction_text f.num f.den))
