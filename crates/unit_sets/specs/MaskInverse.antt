-- Lemmas that the model of a unit set cites: the number of the list of a mask is the mask.
use Rattle.std.proofs.Common.{◌≡◌, ℕ, zero, suc, ◌+◌, ◌*◌, ◌/◌, ◌%◌, ◌^◌, ◌<◌, ◌==◌, Bool, true}
use Rattle.std.proofs.Common.{false, cond, List, [], ◌∷◌, ◌++◌, sym, ap, ◌∙◌, arith, eqb-true}
use Rattle.std.proofs.Common.{mod-eq_of_lt, one-add, zero-add, refl}
use Rattle.std.proofs.lemmas.Bool.{eqb-false}
use Rattle.std.proofs.lemmas.Nat.Bits.{bit_at-lt}
use Rattle.std.proofs.Math.Pow.{field, mod-mod-pow}
use Rattle.std.proofs.Math.Nat.{div-add-mod}
use Rattle.std.specs.Int.{bit_at}
use Rattle.number_sets.specs.Sets.{listed, mask_of}
use Rattle.unit_sets.specs.Masks.{has_bit, members}

-- a number by its bits below k
pub split_bit : (n k : ℕ) → n % 2 ^ (1 + k) ≡ bit_at n k * 2 ^ k + n % 2 ^ k
split_bit n k =
    let whole = div-add-mod (n % 2 ^ (1 + k)) (2 ^ k) in
    let top : n % 2 ^ (1 + k) / 2 ^ k ≡ n / 2 ^ k % 2 = field n 1 k in
    let low = mod-mod-pow n 1 k in
    let moved = ap (λ q. 2 ^ k * q) top in
    omega arith

mask_of-append : (xs ys : List ℕ) → mask_of (xs ++ ys) ≡ mask_of xs + mask_of ys
mask_of-append [] ys = sym (zero-add (mask_of ys))
mask_of-append (x ∷ xs) ys = omega (arith, mask_of-append xs ys)

bit_of_mask : (n k : ℕ) (b : Bool) → (bit_at n k == 1) ≡ b
    → mask_of (cond b (k ∷ []) []) ≡ bit_at n k * 2 ^ k
bit_of_mask n k true e = let one : bit_at n k ≡ 1 =
    eqb-true (bit_at n k) 1 e in rw one (omega arith)
bit_of_mask n k false e =
    let lt = bit_at-lt n k in
    let ne : bit_at n k ≡ 1 → ⊥ = eqb-false (bit_at n k) 1 e in
    let none : bit_at n k ≡ 0 = omega arith in
    rw none (omega arith)

mask_of-listed : (n k : ℕ) → mask_of (listed k (has_bit n)) ≡ n % 2 ^ k
unfolding listed
mask_of-listed n zero = omega arith
mask_of-listed n (suc k) =
    let one = bit_of_mask n k (has_bit n k) refl in
    let split = rw (one-add k) at (split_bit n k) in
    let before = mask_of-listed n k in
    mask_of-append (listed k (has_bit n)) (cond (has_bit n k) (k ∷ []) []) ∙ omega arith

-- the number of the list of n is n
pub mask_of-members : (n : ℕ) → n < 2 ^ 128 → mask_of (members n) ≡ n
unfolding members
mask_of-members n h = mask_of-listed n 128 ∙ mod-eq_of_lt h
