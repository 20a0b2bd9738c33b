-- Digits, one by one.
use Rattle.std.proofs.Common.{◌≡◌, ℕ, zero, suc, ◌+◌, ◌-◌, ◌*◌, ◌/◌, ◌%◌, ◌^◌, ◌<◌, ◌≤◌, List, []}
use Rattle.std.proofs.Common.{◌∷◌, ◌++◌, length, get_or, refl, sym, ap, ap₂, ◌∙◌, subst, arith}
use Rattle.std.proofs.Common.{add-one}
use Rattle.std.proofs.lemmas.Nat.{pow-add}
use Rattle.std.proofs.Math.Nat.{div-div-eq-div-mul}
use Rattle.std.proofs.Math.Pow.{pow_mono}
use Rattle.pgraph.specs.pns_rules.Tokens.{digit, digits, IsDigit}

length_push : (xs : List ℕ) (x : ℕ) → length (xs ++ x ∷ []) ≡ length xs + 1
length_push [] x = omega arith
length_push (y ∷ ys) x = let rest = length_push ys x in omega arith

pub length_digits : (k n : ℕ) → length (digits k n) ≡ k
unfolding digits
length_digits zero n = refl
length_digits (suc k) n =
    let one = length_push (digits k (n / 16)) (digit (n % 16)) in
    let rest = length_digits k (n / 16) in
    omega arith

get_push : (xs : List ℕ) (x d i : ℕ) → (i < length xs → IsDigit (get_or xs i d)) → IsDigit x
    → i < length xs + 1 → IsDigit (get_or (xs ++ x ∷ []) i d)
get_push [] x d zero h k lt = k
get_push [] x d (suc i) h k lt = absurd (omega (arith, lt))
get_push (y ∷ ys) x d zero h k lt = h (omega arith)
get_push (y ∷ ys) x d (suc i) h k lt =
    get_push ys x d i (λ q. h (omega (arith, q))) k (omega (arith, lt))

pub are_digits : (k n i d : ℕ) → i < k → IsDigit (get_or (digits k n) i d)
unfolding digits
are_digits zero n i d lt = absurd (omega (arith, lt))
are_digits (suc k) n i d lt =
    let len = length_digits k (n / 16) in
    get_push (digits k (n / 16)) (digit (n % 16)) d i (λ q. are_digits k (n / 16) i d (omega arith))
    (record { digit_is = n % 16; below = omega arith; same = refl }) (omega arith)

-- one digit more, after the others
pub digits_read : (k v d : ℕ) → d < 16 → digits (k + 1) (v * 16 + d) ≡ digits k v ++ digit d ∷ []
unfolding digits
digits_read k v d lt =
    ap (λ j. digits j (v * 16 + d)) (add-one k)
    ∙ ap₂ (λ q r. digits k q ++ digit r ∷ []) (let e : (v * 16 + d) / 16 ≡ v = omega arith in e)
    (let e : (v * 16 + d) % 16 ≡ d = omega arith in e)

pub digits_print : (k m w : ℕ) → w ≡ m / 16 → digits (k + 1) m ≡ digits k w ++ digit (m % 16) ∷ []
unfolding digits
digits_print k m w e = ap (λ j. digits j m) (add-one k)
    ∙ ap (λ q. digits k q ++ digit (m % 16) ∷ []) (sym e)

pub step_print : (bits i : ℕ) → i < 32
    → digits (i + 1) (bits / 2 ^ (128 - 4 * (i + 1))) ≡ digits i (bits / 2 ^ (128 - 4 * i))
    ++ digit (bits / 2 ^ (124 - 4 * i) % 16) ∷ []
step_print bits i lt =
    ap (λ e. digits (i + 1) (bits / 2 ^ e))
    (let e : 128 - 4 * (i + 1) ≡ 124 - 4 * i = omega arith in e)
    ∙ digits_print i (bits / 2 ^ (124 - 4 * i)) (bits / 2 ^ (128 - 4 * i))
    (ap (λ e. bits / 2 ^ e) (let e : 128 - 4 * i ≡ (124 - 4 * i) + 4 = omega arith in e)
    ∙ (ap (λ q. bits / q) (pow-add 2 (124 - 4 * i) 4)
    ∙ sym (div-div-eq-div-mul bits (2 ^ (124 - 4 * i)) (2 ^ 4))))

pub no_digits : (n : ℕ) → digits 0 n ≡ []
unfolding digits
no_digits n = refl

-- the number read so far has four bits for each digit
pub bits_read : (v d i : ℕ) → d < 16 → v < 2 ^ (4 * i) → i < 32 → (v * 16 + d < 2 ^ (4 * (i + 1)))
    × (v * 16 + d < 2 ^ 128)
bits_read v d i lt h k =
    let more : 2 ^ (4 * (i + 1)) ≡ 2 ^ (4 * i) * 2 ^ 4 =
    ap (λ e. 2 ^ e) (let e : 4 * (i + 1) ≡ 4 * i + 4 = omega arith in e)
    ∙ pow-add 2 (4 * i) 4 in
    let most : 2 ^ (4 * (i + 1)) ≤ 2 ^ 128 =
    pow_mono (let le : 4 * (i + 1) ≤ 128 = omega arith in le) in
    (omega arith, omega arith)

pub no_token : (bs : List ℕ) (m i d : ℕ) → i < 32 → (IsDigit (get_or bs i d) → ⊥) → bs ≡ digits 32 m
    → ⊥
no_token bs m i d lt h e =
    h (subst (λ xs. IsDigit (get_or xs i d)) (sym e) (are_digits 32 m i d lt))

pub short : (bs : List ℕ) (m : ℕ) → (length bs ≡ 32 → ⊥) → bs ≡ digits 32 m → ⊥
short bs m h e = h (ap length e ∙ length_digits 32 m)
