-- A fraction in decimal, with at most so many places after the point. It is rounded to the nearest
-- number with these places, halves away from 0. A `-` comes first if it is below 0, and there is no
-- `-0`. Zeros at the end are not written. If the number of places is given, a `~` comes before all
-- exactly if the fraction was rounded: so a text without `~` is the fraction. Else there are six
-- places, less one for each digit of the whole part, and no `~`. A lower bound has these places,
-- but is rounded down.
use Rattle.std.specs.Prelude.{◌==◌, ◌&&◌, ◌+◌, ◌*◌, ◌/◌, ◌%◌, ◌^◌, ◌++◌, ℕ, zero, suc, Bool, not}
use Rattle.std.specs.Prelude.{List, [], ◌∷◌, ℤ, pos, unsigned_abs, int_lt, decimal, if◌then◌else◌}
use Rattle.rank_rules.specs.text_rules.Printed.{places}

-- the fraction in units of its last place, as a whole number: num / den times 10^k without its
-- sign, rounded
abbrev pub rounded : ℕ → ℤ → ℕ → ℕ
rounded k num den = (2 * (unsigned_abs num * 10 ^ k) + den) / (2 * den)

-- whether nothing was rounded
abbrev pub is_exact : ℕ → ℤ → ℕ → Bool
is_exact k num den = unsigned_abs num * 10 ^ k % den == 0

-- n over 10^k
abbrev pub scaled_text : ℕ → ℕ → List ℕ
scaled_text k n =
    decimal (n / 10 ^ k) ++ (if n % 10 ^ k == 0 then [] else 46 ∷ places k (n % 10 ^ k))

-- the same with its sign; 0 has none
abbrev pub signed_text : ℕ → Bool → ℕ → List ℕ
signed_text k negative n = (if negative && not (n == 0) then 45 ∷ [] else []) ++ scaled_text k n

-- the same with a mark if it was rounded
abbrev pub rounded_text : ℕ → Bool → Bool → ℕ → List ℕ
rounded_text k exact negative n = (if exact then [] else 126 ∷ []) ++ signed_text k negative n

-- num over den, which is above 0, with at most k places
abbrev pub decimal_text : ℕ → ℤ → ℕ → List ℕ
decimal_text k num den =
    rounded_text k (is_exact k num den) (int_lt num (pos 0)) (rounded k num den)

-- the number of places, less one for each digit of the whole number; 0 has no digits
abbrev pub places_behind : ℕ → ℕ → ℕ
places_behind zero n = 0
places_behind (suc k) n = if n == 0 then suc k else places_behind k (n / 10)

-- num over den, which is above 0, with six digits if it has more, but with all digits of its whole
-- part
abbrev pub six_digits : ℤ → ℕ → List ℕ
six_digits num den =
    signed_text (places_behind 6 (unsigned_abs num / den)) (int_lt num (pos 0))
    (rounded (places_behind 6 (unsigned_abs num / den)) num den)

-- the same, rounded to the next number with these places that is not above it
abbrev pub rounded_down : ℕ → ℤ → ℕ → ℕ
rounded_down k num den =
    unsigned_abs num * 10 ^ k / den
    + (if int_lt num (pos 0) && not (is_exact k num den) then 1 else 0)

abbrev pub six_digits_down : ℤ → ℕ → List ℕ
six_digits_down num den =
    signed_text (places_behind 6 (unsigned_abs num / den)) (int_lt num (pos 0))
    (rounded_down (places_behind 6 (unsigned_abs num / den)) num den)
