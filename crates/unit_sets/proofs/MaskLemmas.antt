-- What the operations on masks do to their lists.
use Rattle.std.proofs.Common.{◌≡◌, ℕ, zero, suc, ◌-◌, ◌*◌, ◌/◌, ◌%◌, ◌^◌, ◌<◌, ◌≤◌, ◌==◌, nat_lt}
use Rattle.std.proofs.Common.{Bool, true, false, cond, not, ◌&&◌, ◌||◌, List, [], ◌∷◌, length, refl}
use Rattle.std.proofs.Common.{sym, ap, ap₂, ◌∙◌, subst, inl, inr, ◌⊎◌, arith, eq-eqb, eqb-true}
use Rattle.std.proofs.Common.{ltb-false, ne_eqb, mod-eq_of_lt, one-add, Some, pow_mono}
use Rattle.std.proofs.Common.{length-append, mod-lt, one-mul, min, max, bit_or, bit_and}
use Rattle.std.proofs.lemmas.Bool.Decides.{nat_tests}
use Rattle.std.proofs.lemmas.Bool.{true_from_ne_false, or_from, or_left, and_from, both_ways}
use Rattle.std.proofs.lemmas.Bool.{cases_order, cases_lt, eqb-false, le-ltb, lt-ltb}
use Rattle.std.proofs.lemmas.Nat.Bits.{bit_at-lt, bit_at_above, bit_at_or, bit_at_and, bit_at-zero}
use Rattle.std.proofs.lemmas.Nat.Bits.{bit_at-pow_same, bit_at-pow_other, bit_at_ones}
use Rattle.std.proofs.lemmas.Nat.Bits.{bit_at_ones_above, bit_at_not, bit_at-trailing_zeros}
use Rattle.std.proofs.lemmas.Nat.Bits.{same_from_bits, shr_and_one}
use Rattle.std.proofs.lemmas.Nat.{pow_pos as two_pow_pos, or_lt, and_le_l, ones_cat}
use Rattle.std.specs.Int.{w128, trailing_zeros}
use Rattle.std.specs.Int.Count.{ones}
use Rattle.std.proofs.Math.Pow.{pow-lt}
use Rattle.std.specs.Int.{bit_at}
use Rattle.number_sets.specs.Sets.{has, IsRising, AreBelow, listed, IsWithin, with_number, kept}
use Rattle.number_sets.specs.Sets.{union, meet, minus, mask_of, first}
use Rattle.number_sets.proofs.Cited.{below_not_had, has-listed, IsRising-listed, AreBelow-listed}
use Rattle.number_sets.proofs.Cited.{same_sets, has-with_number, has-kept, has-union, has-meet}
use Rattle.number_sets.proofs.Cited.{has-minus, IsRising-with_number, IsRising-kept, IsRising-union}
use Rattle.unit_sets.specs.Masks.{has_bit, members}
use Rattle.unit_sets.specs.MaskInverse.{split_bit, mask_of-members}

pub IsRising-members : (n : ℕ) → IsRising (members n)
unfolding members
IsRising-members n = IsRising-listed 128 (has_bit n)

pub AreBelow-members : (n : ℕ) → AreBelow 128 (members n)
unfolding members
AreBelow-members n = AreBelow-listed 128 (has_bit n)

-- a bit from 128 on is not set
no_high_bit : (n u : ℕ) → n < 2 ^ 128 → 128 ≤ u → has_bit n u ≡ false
no_high_bit n u h le = ap (λ b. b == 1) (bit_at_above n 128 u h le)

has-members_at : (n u : ℕ) (d : Bool) → n < 2 ^ 128 → nat_lt u 128 ≡ d
    → (d && has_bit n u) ≡ has_bit n u
has-members_at n u true h e = refl
has-members_at n u false h e = sym (no_high_bit n u h (ltb-false u 128 e))

pub has-members : (n u : ℕ) → n < 2 ^ 128 → has (members n) u ≡ has_bit n u
unfolding members
has-members n u h = has-listed 128 (has_bit n) u ∙ has-members_at n u (nat_lt u 128) h refl

-- a rising list that has the bits of n is the list of n
pub members-is : (n : ℕ) (xs : List ℕ) → n < 2 ^ 128 → IsRising xs
    → ((u : ℕ) → has_bit n u ≡ has xs u) → members n ≡ xs
members-is n xs h r same =
    same_sets (members n) xs (IsRising-members n) r (λ u. has-members n u h ∙ same u)

-- ---- the operations

and_lt : (m n : ℕ) → m < 2 ^ 128 → bit_and m n < 2 ^ 128
and_lt m n h = let le = and_le_l m n in omega arith

zero_bit : (u : ℕ) → has_bit 0 u ≡ false
zero_bit u = ap (λ b. b == 1) (bit_at-zero u)

pub members-zero : members 0 ≡ []
members-zero = members-is 0 [] (omega arith) tt zero_bit

-- numbers that are at most 1, as tests
max_test : (a b : ℕ) → a < 2 → b < 2 → (max a b == 1) ≡ ((a == 1) || (b == 1))
max_test a b p q = grind (arith, nat_tests)

min_test : (a b : ℕ) → a < 2 → b < 2 → (min a b == 1) ≡ ((a == 1) && (b == 1))
min_test a b p q = grind (arith, nat_tests)

pub has_bit-or : (m n u : ℕ) → has_bit (bit_or m n) u ≡ (has_bit m u || has_bit n u)
has_bit-or m n u = ap (λ b. b == 1) (bit_at_or m n u)
    ∙ max_test (bit_at m u) (bit_at n u) (bit_at-lt m u) (bit_at-lt n u)

pub has_bit-and : (m n u : ℕ) → has_bit (bit_and m n) u ≡ (has_bit m u && has_bit n u)
has_bit-and m n u = ap (λ b. b == 1) (bit_at_and m n u)
    ∙ min_test (bit_at m u) (bit_at n u) (bit_at-lt m u) (bit_at-lt n u)

-- the bit u alone, as `1 << u` computes
shifted_one : (u : ℕ) → u < 128 → 1 * 2 ^ u % 2 ^ 128 ≡ 2 ^ u
shifted_one u h = let lt : 2 ^ u < 2 ^ 128 = pow-lt h in rw one-mul (mod-eq_of_lt lt)

has_bit-pow : (u v : ℕ) → has_bit (2 ^ u) v ≡ (u == v)
has_bit-pow u v = at (u == v) refl
  where
    at : (b : Bool) → (u == v) ≡ b → has_bit (2 ^ u) v ≡ b
    at true e =
        ap (λ b. b == 1) (subst (λ w. bit_at (2 ^ u) w ≡ 1) (eqb-true u v e) (bit_at-pow_same u))
    at false e = ap (λ b. b == 1) (bit_at-pow_other u v (λ q. eqb-false u v e (sym q)))

pub with_lt : (n u : ℕ) → n < 2 ^ 128 → u < 128 → bit_or n (1 * 2 ^ u % 2 ^ 128) < 2 ^ 128
with_lt n u h k = rw (shifted_one u k) (or_lt 128 n (2 ^ u) h (pow-lt k))

pub members-with : (n u : ℕ) → n < 2 ^ 128 → u < 128
    → members (bit_or n (1 * 2 ^ u % 2 ^ 128)) ≡ with_number u (members n)
members-with n u h k =
    rw (shifted_one u k)
    (members-is (bit_or n (2 ^ u)) (with_number u (members n)) (or_lt 128 n (2 ^ u) h (pow-lt k))
    (IsRising-with_number u (members n) (IsRising-members n))
    (λ v. has_bit-or n (2 ^ u) v
    ∙ (ap₂ (λ a b. a || b) (sym (has-members n v h)) (has_bit-pow u v)
    ∙ (or_comm (has (members n) v) (u == v) ∙ sym (has-with_number u (members n) v)))))
  where
    or_comm : (a b : Bool) → (a || b) ≡ (b || a)
    or_comm true true = refl
    or_comm true false = refl
    or_comm false true = refl
    or_comm false false = refl

pub members-or : (m n : ℕ) → m < 2 ^ 128 → n < 2 ^ 128
    → members (bit_or m n) ≡ union (members m) (members n)
members-or m n h k =
    members-is (bit_or m n) (union (members m) (members n)) (or_lt 128 m n h k)
    (IsRising-union (members m) (members n) (IsRising-members n))
    (λ u. has_bit-or m n u
    ∙ (ap₂ (λ a b. a || b) (sym (has-members m u h)) (sym (has-members n u k))
    ∙ sym (has-union (members m) (members n) u)))

pub members-and : (m n : ℕ) → m < 2 ^ 128 → n < 2 ^ 128
    → members (bit_and m n) ≡ meet (members m) (members n)
members-and m n h k =
    members-is (bit_and m n) (meet (members m) (members n)) (and_lt m n h)
    (IsRising-kept (has (members n)) (members m) (IsRising-members m))
    (λ u. has_bit-and m n u
    ∙ (ap₂ (λ a b. a && b) (sym (has-members m u h)) (sym (has-members n u k))
    ∙ sym (has-meet (members m) (members n) u)))

-- the complement at 128 bits has the other bits below 128
pub has_bit-not : (n u : ℕ) → n < 2 ^ 128 → u < 128
    → has_bit (2 ^ 128 - 1 - n) u ≡ not (has_bit n u)
has_bit-not n u h k = ap (λ b. b == 1) (bit_at_not w128 n u h k) ∙ flip (bit_at n u) (bit_at-lt n u)
  where
    flip : (b : ℕ) → b < 2 → (1 - b == 1) ≡ not (b == 1)
    flip b h = grind (arith, nat_tests)

pub members-minus : (m n : ℕ) → m < 2 ^ 128 → n < 2 ^ 128
    → members (bit_and m (2 ^ 128 - 1 - n)) ≡ minus (members m) (members n)
members-minus m n h k =
    members-is (bit_and m (2 ^ 128 - 1 - n)) (minus (members m) (members n))
    (and_lt m (2 ^ 128 - 1 - n) h)
    (IsRising-kept (λ u. not (has (members n) u)) (members m) (IsRising-members m))
    (λ u. has_bit-and m (2 ^ 128 - 1 - n) u
    ∙ (at u (cases_lt u 128)
    ∙ (ap₂ (λ a b. a && not b) (sym (has-members m u h)) (sym (has-members n u k))
    ∙ sym (has-minus (members m) (members n) u))))
  where
    at : (u : ℕ) → (u < 128) ⊎ (128 ≤ u)
        → (has_bit m u && has_bit (2 ^ 128 - 1 - n) u) ≡ (has_bit m u && not (has_bit n u))
    at u (inl lt) = ap (λ b. has_bit m u && b) (has_bit-not n u k lt)
    at u (inr le) = rw (no_high_bit m u h le) refl

pub members-without : (n u : ℕ) → n < 2 ^ 128 → u < 128
    → members (bit_and n (2 ^ 128 - 1 - 1 * 2 ^ u % 2 ^ 128)) ≡ kept (λ v. not (u == v)) (members n)
members-without n u h k =
    rw (shifted_one u k)
    (members-is (bit_and n (2 ^ 128 - 1 - 2 ^ u)) (kept (λ v. not (u == v)) (members n))
    (and_lt n (2 ^ 128 - 1 - 2 ^ u) h)
    (IsRising-kept (λ v. not (u == v)) (members n) (IsRising-members n))
    (λ v. has_bit-and n (2 ^ 128 - 1 - 2 ^ u) v
    ∙ (at v (cases_lt v 128)
    ∙ (ap (λ a. a && not (u == v)) (sym (has-members n v h))
    ∙ sym (has-kept (λ w. not (u == w)) (members n) v)))))
  where
    at : (v : ℕ) → (v < 128) ⊎ (128 ≤ v)
        → (has_bit n v && has_bit (2 ^ 128 - 1 - 2 ^ u) v) ≡ (has_bit n v && not (u == v))
    at v (inl lt) =
        ap (λ b. has_bit n v && b) (has_bit-not (2 ^ u) v (pow-lt k) lt ∙ ap not (has_bit-pow u v))
    at v (inr le) = rw (no_high_bit n v h le) refl

-- ---- count and least

ones_of_bit : (b : ℕ) → b < 2 → ones b ≡ b
unfolding ones
ones_of_bit zero h = refl
ones_of_bit (suc zero) h = refl
ones_of_bit (suc (suc b)) h = absurd (omega arith)

length_of_bit : (n k : ℕ) (b : Bool) → (bit_at n k == 1) ≡ b
    → length (cond b (k ∷ []) []) ≡ bit_at n k
length_of_bit n k true e = sym (eqb-true (bit_at n k) 1 e)
length_of_bit n k false e =
    let lt = bit_at-lt n k in
    let ne : bit_at n k ≡ 1 → ⊥ = eqb-false (bit_at n k) 1 e in
    let none : 0 ≡ bit_at n k = omega arith in none

length-listed : (n k : ℕ) → length (listed k (has_bit n)) ≡ ones (n % 2 ^ k)
unfolding listed
length-listed n zero = zero_ones (n % 1) (omega arith)
  where
    zero_ones : (m : ℕ) → m ≡ 0 → 0 ≡ ones m
    zero_ones m e = sym (ap ones e ∙ ones_of_bit 0 (omega arith))
length-listed n (suc k) =
    let one = length_of_bit n k (has_bit n k) refl in
    let split = rw (one-add k) at (split_bit n k) in
    let before = length-listed n k in
    let cat = ones_cat k (bit_at n k) (n % 2 ^ k) (mod-lt n (two_pow_pos k)) in
    let bit = ones_of_bit (bit_at n k) (bit_at-lt n k) in
    length-append (listed k (has_bit n)) (cond (has_bit n k) (k ∷ []) []) ∙ rw split (omega arith)

pub length-members : (n : ℕ) → n < 2 ^ 128 → length (members n) ≡ ones n
unfolding members
length-members n h = length-listed n 128 ∙ ap ones (mod-eq_of_lt h)

-- the first number of a rising list is its least
first-is : (xs : List ℕ) (u : ℕ) → IsRising xs → has xs u ≡ true
    → ((v : ℕ) → v < u → has xs v ≡ false) → first xs ≡ Some u
first-is [] u r h none = absurd (both_ways false refl h)
first-is (x ∷ xs) u r h none = elim (cases_order x u) [
  | inl e ↦ ap Some e
  | inr d ↦ elim d [
    | inl lt
        ↦ absurd
        (both_ways (has (x ∷ xs) x) (none x lt) (or_left (x == x) (has xs x) (eq-eqb x x refl)))
    | inr gt
        ↦ absurd
        (both_ways (has (x ∷ xs) u)
        (or_from (x == u) (has xs u) (ne_eqb x u (λ e. omega arith))
        (below_not_had x u xs (omega arith) r.0)) h)
  ]
]

pub first-members : (n : ℕ) → 0 < n → n < 2 ^ 128 → first (members n) ≡ Some (trailing_zeros w128 n)
first-members n p h =
    let low = bit_at-trailing_zeros w128 n p h in
    first-is (members n) (trailing_zeros w128 n) (IsRising-members n)
    (has-members n (trailing_zeros w128 n) h ∙ ap (λ b. b == 1) low.1)
    (λ v lt. has-members n v h ∙ ap (λ b. b == 1) (low.2 v lt))

-- ---- tests

-- the test `(n >> u) & 1 == 1`
pub has_bit-shr : (n u : ℕ) → (bit_and (n / 2 ^ u) 1 == 1) ≡ has_bit n u
has_bit-shr n u = ap (λ b. b == 1) (shr_and_one n u)

no_bits : (n : ℕ) → n < 2 ^ 128 → ((u : ℕ) → has_bit n u ≡ false) → n ≡ 0
no_bits n h none = same_from_bits n 0 (λ u. at u ∙ sym (bit_at-zero u))
  where
    at : (u : ℕ) → bit_at n u ≡ 0
    at u = let lt = bit_at-lt n u in let ne : bit_at n u ≡ 1 → ⊥ =
        eqb-false (bit_at n u) 1 (none u) in omega arith

-- the test `m & !n == 0`
pub within_masks : (m n : ℕ) → m < 2 ^ 128 → n < 2 ^ 128 → (bit_and m (2 ^ 128 - 1 - n) == 0) ≡ true
    → IsWithin (has (members m)) (has (members n))
within_masks m n h k e u p =
    true_from_ne_false (has (members n) u) (λ q.
    both_ways (has (members (bit_and m (2 ^ 128 - 1 - n))) u)
    (ap (λ w. has (members w) u) (eqb-true (bit_and m (2 ^ 128 - 1 - n)) 0 e)
    ∙ ap (λ xs. has xs u) members-zero)
    (ap (λ xs. has xs u) (members-minus m n h k)
    ∙ (has-minus (members m) (members n) u
    ∙ and_from (has (members m) u) (not (has (members n) u)) p (ap not q))))

pub masks_within : (m n : ℕ) → m < 2 ^ 128 → n < 2 ^ 128
    → IsWithin (has (members m)) (has (members n)) → (bit_and m (2 ^ 128 - 1 - n) == 0) ≡ true
masks_within m n h k w =
    eq-eqb (bit_and m (2 ^ 128 - 1 - n)) 0
    (no_bits (bit_and m (2 ^ 128 - 1 - n)) (and_lt m (2 ^ 128 - 1 - n) h) (λ u.
    sym (has-members (bit_and m (2 ^ 128 - 1 - n)) u (and_lt m (2 ^ 128 - 1 - n) h))
    ∙ (ap (λ xs. has xs u) (members-minus m n h k)
    ∙ (has-minus (members m) (members n) u
    ∙ at u (has (members m) u) (has (members n) u) (w u)))))
  where
    at : (u : ℕ) (a b : Bool) → (a ≡ true → b ≡ true) → (a && not b) ≡ false
    at u true true f = refl
    at u true false f = sym (f refl)
    at u false b f = refl

-- two masks with one list are equal
pub same_masks : (m n : ℕ) → m < 2 ^ 128 → n < 2 ^ 128 → members m ≡ members n → m ≡ n
same_masks m n h k e = sym (mask_of-members m h) ∙ (ap mask_of e ∙ mask_of-members n k)

-- the list of the number of a list
pub members-mask_of : (xs : List ℕ) (n : ℕ) → n < 2 ^ 128 → members n ≡ xs → n ≡ mask_of xs
members-mask_of xs n h e = sym (mask_of-members n h) ∙ ap mask_of e

-- the lowest k bits
pub has-members_ones : (k u : ℕ) → k ≤ 128 → has (members (2 ^ k - 1)) u ≡ nat_lt u k
has-members_ones k u h =
    has-members (2 ^ k - 1) u (let le : 2 ^ k ≤ 2 ^ 128 = pow_mono h in let p =
    two_pow_pos k in omega arith) ∙ at (cases_lt u k)
  where
    at : (u < k) ⊎ (k ≤ u) → has_bit (2 ^ k - 1) u ≡ nat_lt u k
    at (inl lt) = ap (λ b. b == 1) (bit_at_ones k u lt) ∙ sym (lt-ltb u k lt)
    at (inr le) = ap (λ b. b == 1) (bit_at_ones_above k u le) ∙ sym (le-ltb u k le)

-- as `(1 << k) - 1` computes
pub has-members_shifted : (k u : ℕ) → k < 128
    → has (members (1 * 2 ^ k % 2 ^ 128 - 1)) u ≡ nat_lt u k
has-members_shifted k u h = rw (shifted_one k h) (has-members_ones k u (omega arith))
