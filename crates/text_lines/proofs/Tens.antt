-- Powers of ten.
use Rattle.std.proofs.Common.{◌≡◌, ◌<◌, ◌≤◌, ◌+◌, ◌-◌, ◌*◌, ◌/◌, ◌%◌, ◌^◌, ◌==◌, ◌⊎◌, ◌&&◌, inl}
use Rattle.std.proofs.Common.{inr, ℕ, zero, suc, Bool, true, List, [], ◌∷◌, length, get_or}
use Rattle.std.proofs.Common.{eqb-true, mul_assoc, Ok, Err, nat_lt, not, if◌then◌else◌, refl, sym}
use Rattle.std.proofs.Common.{◌∙◌, ap, arith}
use Rattle.std.proofs.Math.Nat.{pow-le-pow_right, mul-le-mul_left, mul-le-mul_right, mod-eq_of_lt}
use Rattle.std.proofs.lemmas.Nat.{pow-add}
use Rattle.std.proofs.lemmas.Bool.{lt-ltb, ne_eqb, cond-true, cond-false, and_parts}
use Rattle.text_laws.proofs.Cited.{pow-pos}
use Rattle.edit_rules.specs.text_rules.Amount.{scaled_by, amount_limit}
use Rattle.edit_rules.specs.text_rules.declared.TextKind.TheVariants.{TooFine, TooLarge}

pub power_some : (k : ℕ) → 0 < 10 ^ k
power_some = pow-pos

power_le : (c k : ℕ) → c ≤ k → 10 ^ c ≤ 10 ^ k
power_le c k le = pow-le-pow_right (omega arith) le

pub power_fits : (k : ℕ) → k ≤ 38 → 10 ^ k < 2 ^ 128
power_fits k le = let most : 10 ^ k ≤ 10 ^ 38 = power_le k 38 le in omega arith

-- the room for more digits, after one of so many
pub room_more : (n d most i m : ℕ) → d ≤ 9 → i < most → (n + 1) * 10 ^ (most - i) ≤ m
    → (10 * n + d + 1) * 10 ^ (most - (i + 1)) ≤ m
room_more n d most i m small lt room =
    let rest : ℕ = most - (i + 1) in
    let one : most - i ≡ rest + 1 = omega arith in
    let power : 10 ^ (most - i) ≡ 10 * 10 ^ rest =
    ap (λ k. 10 ^ k) one ∙ pow-add 10 rest 1 ∙ omega arith in
    let more : (10 * n + d + 1) * 10 ^ rest ≤ (10 * n + 10) * 10 ^ rest =
    mul-le-mul_right (10 ^ rest) (omega arith) in
    let same : (n + 1) * 10 ^ (most - i) ≡ (10 * n + 10) * 10 ^ rest =
    ap (λ k. (n + 1) * k) power ∙ omega arith in
    omega arith

pub below_room : (n r m : ℕ) → (n + 1) * 10 ^ r ≤ m → n < m
below_room n r m le =
    let one : (n + 1) * 1 ≤ (n + 1) * 10 ^ r = mul-le-mul_left (n + 1) (pow-pos r) in
    omega arith

-- a number whose digits do not all fit 64 bits
split_power : (most : ℕ) → 13 < most → 10 ^ most ≡ 10 ^ (most - 13) * 10 ^ 13
split_power most lt = ap (λ k. 10 ^ k) (omega arith) ∙ pow-add 10 (most - 13) 13

pub short_room : (start most : ℕ) → 13 < most → (start + 1) * 10 ^ most ≤ 10 ^ 31
    → (start + 1) * 10 ^ (most - 13) ≤ 10 ^ 18
short_room start most lt le =
    let power = ap (λ k. (start + 1) * k) (split_power most lt) in
    let shorter : (start + 1) * (10 ^ (most - 13) * 10 ^ 13) ≡ (start + 1) * 10 ^ (most - 13)
    * 10 ^ 13 = sym (mul_assoc (start + 1) (10 ^ (most - 13)) (10 ^ 13)) in
    omega (arith, le, power, shorter)

pub long_room : (start number most i : ℕ) → 13 < most → i ≤ most - 13
    → (number + 1) * 10 ^ (most - 13 - i) ≤ (start + 1) * 10 ^ (most - 13)
    → (number + 1) * 10 ^ (most - i) ≤ (start + 1) * 10 ^ most
long_room start number most i lt few le =
    let power = ap (λ k. (start + 1) * k) (split_power most lt) in
    let assoc : (start + 1) * (10 ^ (most - 13) * 10 ^ 13) ≡ (start + 1) * 10 ^ (most - 13)
    * 10 ^ 13 = sym (mul_assoc (start + 1) (10 ^ (most - 13)) (10 ^ 13)) in
    let rest : 10 ^ (most - i) ≡ 10 ^ (most - 13 - i) * 10 ^ 13 =
    ap (λ k. 10 ^ k) (omega arith) ∙ pow-add 10 (most - 13 - i) 13 in
    let front = ap (λ k. (number + 1) * k) rest in
    let same : (number + 1) * (10 ^ (most - 13 - i) * 10 ^ 13) ≡ (number + 1) * 10 ^ (most - 13 - i)
    * 10 ^ 13 = sym (mul_assoc (number + 1) (10 ^ (most - 13 - i)) (10 ^ 13)) in
    omega (arith, le, power, assoc, front, same)

-- a table of powers
abbrev are_tens : ℕ → List ℕ → Bool
are_tens k [] = true
are_tens k (x ∷ xs) = x == 10 ^ k && are_tens (k + 1) xs

tens_at : (from : ℕ) (xs : List ℕ) → are_tens from xs ≡ true → (k : ℕ) → k < length xs
    → get_or xs k 0 ≡ 10 ^ (from + k)
tens_at from [] are k lt = absurd (omega arith)
tens_at from (x ∷ xs) are zero lt =
    eqb-true x (10 ^ from) (and_parts (x == 10 ^ from) (are_tens (from + 1) xs) are).0
    ∙ ap (λ n. 10 ^ n) (omega arith)
tens_at from (x ∷ xs) are (suc k) lt =
    tens_at (from + 1) xs (and_parts (x == 10 ^ from) (are_tens (from + 1) xs) are).1 k
    (omega arith) ∙ ap (λ n. 10 ^ n) (omega arith)

abbrev pub tens : List ℕ
tens =
    1 ∷ 10 ∷ 100 ∷ 1000 ∷ 10000 ∷ 100000 ∷ 1000000 ∷ 10000000 ∷ 100000000 ∷ 1000000000 ∷ 10000000000
    ∷ 100000000000
    ∷ 1000000000000 ∷ 10000000000000 ∷ 100000000000000 ∷ 1000000000000000 ∷ []

pub ten_at : (k : ℕ) → k ≤ 15 → get_or tens k 0 ≡ 10 ^ k
ten_at k le = tens_at 0 tens refl k (omega arith) ∙ ap (λ n. 10 ^ n) (omega arith)

-- a number that grows above the limit
large : (number tens : ℕ) → amount_limit < number * 10 ^ tens
    → Err TooLarge ≡ scaled_by number tens 0
large number tens lt =
    let size : ℕ = number * 10 ^ tens in
    let whole : size % 1 ≡ 0 = omega arith in
    let same : size / 1 ≡ size = omega arith in
    sym (cond-false _ _ _ (ap (λ n. not (n == 0)) whole)
    ∙ ap (λ n. if nat_lt amount_limit n then Err TooLarge else Ok n) same
    ∙ cond-true _ _ _ (lt-ltb amount_limit size lt))

pub grown_large : (number tens : ℕ) → 0 < number → (amount_limit < number)
    ⊎ ((number ≤ amount_limit) × (15 < tens)) → Err TooLarge ≡ scaled_by number tens 0
grown_large number tens some (inl lt) =
    large number tens (let more : number * 1 ≤ number * 10 ^ tens =
    mul-le-mul_left number (pow-pos tens) in omega arith)
grown_large number tens some (inr far) = large number tens (
    let power : 10 ^ 16 ≤ 10 ^ tens = power_le 16 tens far.1 in
    let more : 1 * 10 ^ tens ≤ number * 10 ^ tens = mul-le-mul_right (10 ^ tens) some in
    omega arith)

-- a number that shrinks below its digits
pub shrunk_far : (number tens : ℕ) → 0 < number → number < 2 ^ 128 → 38 < tens
    → Err TooFine ≡ scaled_by number 0 tens
shrunk_far number tens some fits far =
    let power : 10 ^ 39 ≤ 10 ^ tens = power_le 39 tens far in
    let one : number * 1 ≡ number = omega arith in
    let same : number % 10 ^ tens ≡ number = mod-eq_of_lt (omega arith) in
    sym (cond-true _ _ _
    (ap not
    (ne_eqb (number * 1 % 10 ^ tens) 0
    (λ e. absurd (let off = ap (λ n. n % 10 ^ tens) one in omega (arith, off, same, e))))))
