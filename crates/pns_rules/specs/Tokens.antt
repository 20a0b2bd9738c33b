-- The token of a set of units: its number, in which unit u counts 2 ^ u, as 32 hexadecimal digits
-- of 0123456789abcdef.
use Rattle.std.specs.Prelude.{◌≡◌, ℕ, zero, suc, ◌+◌, ◌/◌, ◌%◌, ◌<◌, nat_lt, cond, List, [], ◌∷◌}
use Rattle.std.specs.Prelude.{◌++◌, length}
use Rattle.number_sets.specs.Sets.{mask_of}

-- the byte of a digit below 16
abbrev pub digit : ℕ → ℕ
digit d = cond (nat_lt d 10) (48 + d) (87 + d)

-- the last k hexadecimal digits of n
unfoldable pub digits : ℕ → ℕ → List ℕ
digits zero n = []
digits (suc k) n = digits k (n / 16) ++ digit (n % 16) ∷ []

abbrev pub token_of : List ℕ → List ℕ
token_of s = digits 32 (mask_of s)

-- whether the byte is a digit
pub record IsDigit (b : ℕ) : Type 0 where
  pub digit_is : ℕ
  pub below : digit_is < 16
  pub same : b ≡ digit digit_is

abbrev pub AreDigits : List ℕ → Type 0
AreDigits [] = Unit {0}
AreDigits (b ∷ bs) = IsDigit b × AreDigits bs

-- the form of a token: 32 digits
pub record IsToken (text : List ℕ) : Type 0 where
  pub long : length text ≡ 32
  pub digits : AreDigits text
