-- A token is the token of one set only, and each word of its form is a token.
use Rattle.std.proofs.Common.{◌≡◌, ℕ, zero, suc, ◌+◌, ◌/◌, ◌%◌, ◌^◌, ◌<◌, nat_lt, Bool, true, false}
use Rattle.std.proofs.Common.{cond, List, [], ◌∷◌, ◌++◌, length, get_or, take, refl, sym, ap, ◌∙◌}
use Rattle.std.proofs.Common.{subst, arith, pow-suc}
use Rattle.std.proofs.Math.Seq.{take-append_seam, get_or-append_seam}
use Rattle.pgraph.specs.number_sets.Sets.{has, mask_of, IsSet}
use Rattle.pgraph.proofs.number_sets.Cited.{weight, mask-weight, same-mask}
use Rattle.pgraph.specs.pns_rules.Tokens.{digit, digits, token_of, IsDigit, AreDigits, IsToken}
use Rattle.structure_list.proofs.DigitLemmas.{length_digits}

-- ---- one set for a token

weight_below : (n : ℕ) (s : ℕ → Bool) → weight n s < 2 ^ n
weight_below zero s = omega arith
weight_below (suc n) s = at (s n) (weight_below n s)
  where
    at : (b : Bool) → weight n s < 2 ^ n → cond b (2 ^ n) 0 + weight n s < 2 ^ suc n
    at true h = omega (arith, pow-suc 2 n)
    at false h = omega (arith, pow-suc 2 n)

digit_one : (a b : ℕ) → a < 16 → b < 16 → digit a ≡ digit b → a ≡ b
digit_one a b p q e = at (nat_lt a 10) (nat_lt b 10) refl refl e
  where
    at : (x y : Bool) → nat_lt a 10 ≡ x → nat_lt b 10 ≡ y
        → cond x (48 + a) (87 + a) ≡ cond y (48 + b) (87 + b) → a ≡ b
    at true true i j h = omega arith
    at true false i j h = absurd (let k : a < 10 = omega arith in omega arith)
    at false true i j h = absurd (let k : b < 10 = omega arith in omega arith)
    at false false i j h = omega arith

-- two lists of one length, each with an element after it
same_front : (xs ys : List ℕ) (x y : ℕ) → length xs ≡ length ys → xs ++ x ∷ [] ≡ ys ++ y ∷ []
    → xs ≡ ys
same_front xs ys x y len e =
    sym (take-append_seam xs (x ∷ []))
    ∙ (ap (take (length xs)) e
    ∙ (ap (λ k. take k (ys ++ y ∷ [])) len ∙ take-append_seam ys (y ∷ [])))

same_last : (xs ys : List ℕ) (x y : ℕ) → length xs ≡ length ys → xs ++ x ∷ [] ≡ ys ++ y ∷ [] → x ≡ y
same_last xs ys x y len e =
    sym (get_or-append_seam xs x [] 0)
    ∙ (ap (λ zs. get_or zs (length xs) 0) e
    ∙ (ap (λ k. get_or (ys ++ y ∷ []) k 0) len ∙ get_or-append_seam ys y [] 0))

digits_one : (k m n : ℕ) → m < 16 ^ k → n < 16 ^ k → digits k m ≡ digits k n → m ≡ n
unfolding digits
digits_one zero m n p q e = omega (arith, p, q)
digits_one (suc k) m n p q e =
    let len : length (digits k (m / 16)) ≡ length (digits k (n / 16)) =
    length_digits k (m / 16) ∙ sym (length_digits k (n / 16)) in
    let front =
    digits_one k (m / 16) (n / 16) (omega (arith, p, pow-suc 16 k))
    (omega (arith, q, pow-suc 16 k))
    (same_front (digits k (m / 16)) (digits k (n / 16)) (digit (m % 16)) (digit (n % 16)) len
    e) in
    let last =
    digit_one (m % 16) (n % 16) (omega arith) (omega arith)
    (same_last (digits k (m / 16)) (digits k (n / 16)) (digit (m % 16)) (digit (n % 16)) len
    e) in
    omega (arith, front, last)

mask_fits : (s : List ℕ) → IsSet 128 s → mask_of s < 16 ^ 32
mask_fits s h = let e = mask-weight 128 s h in let less : weight 128 (has s) < 16 ^ 32 =
    weight_below 128 (has s) in omega (arith, e, less)

pub token_one : (s t : List ℕ) → IsSet 128 s → IsSet 128 t → token_of s ≡ token_of t → s ≡ t
token_one s t h k e =
    same-mask 128 s t h k (digits_one 32 (mask_of s) (mask_of t) (mask_fits s h) (mask_fits t k) e)

-- ---- the form of a token

are_push : (xs : List ℕ) (x : ℕ) → AreDigits xs → IsDigit x → AreDigits (xs ++ x ∷ [])
are_push [] x h d = (d, tt)
are_push (y ∷ ys) x h d = (h.0, are_push ys x h.1 d)

are_digits_all : (k n : ℕ) → AreDigits (digits k n)
unfolding digits
are_digits_all zero n = tt
are_digits_all (suc k) n =
    are_push (digits k (n / 16)) (digit (n % 16)) (are_digits_all k (n / 16))
    (record { digit_is = n % 16; below = omega arith; same = refl })

pub token_has_form : (text s : List ℕ) → text ≡ token_of s → IsToken text
token_has_form text s e =
    subst IsToken (sym e)
    (record { long = length_digits 32 (mask_of s); digits = are_digits_all 32 (mask_of s) })

pub digit_at : (xs : List ℕ) (i d : ℕ) → i < length xs → AreDigits xs → IsDigit (get_or xs i d)
digit_at [] i d less h = absurd (omega (arith, less))
digit_at (x ∷ xs) zero d less h = h.0
digit_at (x ∷ xs) (suc i) d less h = digit_at xs i d (omega (arith, less)) h.1
