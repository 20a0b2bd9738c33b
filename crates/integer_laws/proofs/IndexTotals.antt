-- Sums over the numbers below a given one: of sums and multiples, their order, one term alone, two
-- parts, the exchange of two sums.
use Rattle.std.proofs.Common.{◌≡◌, ◌≢◌, ℕ, zero, suc, ◌+◌, ◌<◌, inl, inr, refl, sym, ap, ◌∙◌, arith}
use Rattle.std.proofs.Common.{pos, ℤ, ◌+ℤ◌, ◌-ℤ◌, ◌*ℤ◌, neg_ℤ, ◌≤ℤ◌}
use Rattle.std.specs.List.{range_with_len}
use Rattle.std.proofs.lemmas.Int.{ints}
use Rattle.std.proofs.lemmas.Bool.Decides.{eqb_tells}
use Rattle.integer_laws.specs.Total.{total, total_below}
use Rattle.integer_laws.proofs.Ring.{ring_z}

pub total_below-same : (n : ℕ) (f g : ℕ → ℤ) → ((k : ℕ) → k < n → f k ≡ g k)
    → total_below n f ≡ total_below n g
total_below-same zero f g e = refl
total_below-same (suc n) f g e = let x =
    total_below-same n f g (λ k l. e k (omega arith)) in let y = e n (omega arith) in cc

pub total_below-add : (n : ℕ) (f g : ℕ → ℤ)
    → total_below n (λ k. f k +ℤ g k) ≡ total_below n f +ℤ total_below n g
total_below-add zero f g = omega (arith, ints)
total_below-add (suc n) f g = let x = total_below-add n f g in omega (arith, ints, x)

pub total_below-sub : (n : ℕ) (f g : ℕ → ℤ)
    → total_below n (λ k. f k -ℤ g k) ≡ total_below n f -ℤ total_below n g
total_below-sub zero f g = omega (arith, ints)
total_below-sub (suc n) f g = let x = total_below-sub n f g in omega (arith, ints, x)

pub total_below-neg : (n : ℕ) (f : ℕ → ℤ)
    → total_below n (λ k. neg_ℤ (f k)) ≡ neg_ℤ (total_below n f)
total_below-neg zero f = omega (arith, ints)
total_below-neg (suc n) f = let x = total_below-neg n f in omega (arith, ints, x)

pub total_below-mul : (n : ℕ) (c : ℤ) (f : ℕ → ℤ)
    → total_below n (λ k. c *ℤ f k) ≡ c *ℤ total_below n f
total_below-mul zero c f = omega (arith, ints)
total_below-mul (suc n) c f = let x = total_below-mul n c f in omega (arith, ring_z, x)

pub total_below-mul_right : (n : ℕ) (c : ℤ) (f : ℕ → ℤ)
    → total_below n (λ k. f k *ℤ c) ≡ total_below n f *ℤ c
total_below-mul_right zero c f = omega (arith, ints)
total_below-mul_right (suc n) c f = let x = total_below-mul_right n c f in omega (arith, ring_z, x)

pub total_below-zero : (n : ℕ) → total_below n (λ k. pos 0) ≡ pos 0
total_below-zero zero = refl
total_below-zero (suc n) = let x = total_below-zero n in omega (arith, ints, x)

pub total_below-le : (n : ℕ) (f g : ℕ → ℤ) → ((k : ℕ) → k < n → f k ≤ℤ g k)
    → total_below n f ≤ℤ total_below n g
total_below-le zero f g e = omega (arith, ints)
total_below-le (suc n) f g e = let x = total_below-le n f g (λ k l. e k (omega arith)) in let y =
    e n (omega arith) in omega (arith, ints, x, y)

-- the order of two sums may be exchanged
pub total_below-exchange : (n m : ℕ) (f : ℕ → ℕ → ℤ)
    → total_below n (λ i. total_below m (λ j. f i j))
    ≡ total_below m (λ j. total_below n (λ i. f i j))
total_below-exchange zero m f = sym (total_below-zero m)
total_below-exchange (suc n) m f =
    ap (λ x. x +ℤ total_below m (f n)) (total_below-exchange n m f)
    ∙ sym (total_below-add m (λ j. total_below n (λ i. f i j)) (f n))

-- all terms but one are 0
pub total_below-single : (n k : ℕ) (f : ℕ → ℤ) → k < n → ((i : ℕ) → i < n → i ≢ k → f i ≡ pos 0)
    → total_below n f ≡ f k
total_below-single zero k f h z = absurd (omega arith)
total_below-single (suc n) k f h z =
    elim (eqb_tells n k) [
      | inl (_, e) ↦
          let x : total_below n f ≡ pos 0 =
          total_below-same n f (λ i. pos 0)
          (λ i l. z i (omega arith) (λ q. absurd (omega arith))) ∙ total_below-zero n in
          let y : f n ≡ f k = ap f e in
          omega (arith, ints, x, y)
      | inr (_, e) ↦
          let x = total_below-single n k f (omega arith) (λ i l q. z i (omega arith) q) in
          let y = z n (omega arith) e in
          omega (arith, ints, x, y)
    ]

-- the first n, and the m after them
pub total_below-split : (n m : ℕ) (f : ℕ → ℤ)
    → total_below (n + m) f ≡ total_below n f +ℤ total_below m (λ k. f (n + k))
total_below-split n zero f =
    let none : n + 0 ≡ n = omega arith in
    let same : total_below (n + 0) f ≡ total_below n f = ap (λ (k : ℕ). total_below k f) none in
    omega (arith, ints)
total_below-split n (suc m) f =
    let more : n + suc m ≡ suc (n + m) = omega arith in
    let same : total_below (n + suc m) f ≡ total_below (n + m) f +ℤ f (n + m) =
    ap (λ (k : ℕ). total_below k f) more in
    let x = total_below-split n m f in
    omega (arith, ints, x)

-- the first term, and those after it
pub total_below-first : (n : ℕ) (f : ℕ → ℤ)
    → total_below (suc n) f ≡ f 0 +ℤ total_below n (λ k. f (suc k))
total_below-first zero f = omega (arith, ints)
total_below-first (suc n) f = let x = total_below-first n f in omega (arith, ints, x)

total_from : (a n : ℕ) (f : ℕ → ℤ) → total f (range_with_len a n) ≡ total_below n (λ k. f (a + k))
total_from a zero f = refl
total_from a (suc n) f =
    let x = total_from (a + 1) n f in
    let y = total_below-first n (λ k. f (a + k)) in
    let z : total_below n (λ k. f ((a + 1) + k)) ≡ total_below n (λ k. f (a + suc k)) =
    total_below-same n (λ k. f ((a + 1) + k)) (λ k. f (a + suc k))
    (λ k l. ap f (omega arith)) in
    let first : f (a + 0) ≡ f a = ap f (omega arith) in
    omega (arith, ints, x, y, z, first)

-- the same sum over the list of these numbers
pub total-range : (n : ℕ) (f : ℕ → ℤ) → total f (range_with_len 0 n) ≡ total_below n f
total-range n f = total_from 0 n f
    ∙ total_below-same n (λ k. f (0 + k)) f (λ k l. ap f (omega arith))
