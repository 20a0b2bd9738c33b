use Rattle.std.proofs.Common.{◌≡◌, ℕ, zero, suc, ◌+◌, ◌*◌, ◌/◌, ◌<◌, ◌≤◌, ◌⊎◌, inl, inr, arith}
use Rattle.std.proofs.Common.{refl, ap, sym, subst}
use Rattle.std.proofs.lemmas.Nat.{le-div}
use Rattle.std.proofs.Math.Nat.{lt-mul-div-succ, mul-le-mul, mul-le-mul_left}
use Rattle.std.proofs.Math.Nat.{mul-lt-mul_of_pos_left, div-mul-le_self, le_of_mul-le-mul_right}
use Rattle.std.proofs.Math.Nat.{eq-or-lt_of_le}
use Rattle.std.proofs.lemmas.Bool.{cases_order}
use Rattle.flow_rules.specs.Rank.{number, digit, power}

number_same : (w n : ℕ) (f g : ℕ → ℕ) → ((k : ℕ) → k < n → f k ≡ g k) → number w n f ≡ number w n g
number_same w zero f g e = refl
number_same w (suc n) f g e =
    let h = number_same w n f g (λ k l. e k (omega arith)) in
    let x = e n (omega arith) in
    cc

pub number_below : (w n : ℕ) (f : ℕ → ℕ) → ((k : ℕ) → k < n → f k < w) → number w n f < power w n
number_below w zero f h = omega arith
number_below w (suc n) f h =
    let r = number_below w n f (λ k l. h k (omega arith)) in
    let x = h n (omega arith) in
    below (number w n f) (f n) w (power w n) r x
  where
    below : (a b w p : ℕ) → a < p → b < w → a * w + b < p * w
    below a b w p h k = let m : (a + 1) * w ≤ p * w =
        mul-le-mul (omega arith) (omega arith) in omega arith

-- the first digit that differs decides
pub number_less : (w n at : ℕ) (f g : ℕ → ℕ) → at < n → ((k : ℕ) → k < n → f k < w)
    → ((k : ℕ) → k < at → f k ≡ g k) → f at < g at → number w n f < number w n g
number_less w zero at f g l h e x = absurd (omega arith)
number_less w (suc n) at f g l h e x =
    elim (eq-or-lt at n (omega arith)) [
      | inl q ↦
          let s = number_same w n f g (λ k i. e k (omega (arith, q))) in
          let y : f n < g n = subst (λ k. f k < g k) q x in
          last (number w n f) (number w n g) (f n) (g n) w s y
      | inr q ↦
          let r = number_less w n at f g q (λ k i. h k (omega arith)) e x in
          let y = h n (omega arith) in
          more (number w n f) (number w n g) (f n) (g n) w r y
    ]
  where
    last : (a b x y w : ℕ) → a ≡ b → x < y → a * w + x < b * w + y
    last a b x y w e h = let m = ap (λ n. n * w) e in omega arith

    more : (a b x y w : ℕ) → a < b → x < w → a * w + x < b * w + y
    more a b x y w h k = let m : (a + 1) * w ≤ b * w =
        mul-le-mul (omega arith) (omega arith) in omega arith

    eq-or-lt : (a b : ℕ) → a < suc b → (a ≡ b) ⊎ (a < b)
    eq-or-lt a b h = eq-or-lt_of_le (omega arith)

digit_le : (m a b c d : ℕ) → 0 < b → 0 < d → a * d ≡ c * b → digit m a b ≤ digit m c d
digit_le m a b c d pb pd e =
    let q = a * (m * m) / b in
    let h : q * b ≤ a * (m * m) = div-mul-le_self (a * (m * m)) b in
    let i : d * (q * b) ≤ d * (a * (m * m)) = mul-le-mul_left d h in
    let j = ap (λ n. n * (m * m)) e in
    let k : (q * d) * b ≤ (c * (m * m)) * b =
    rearranged q b d (a * (m * m)) (c * (m * m)) i (ring a b c d (m * m) e) in
    le-div q (c * (m * m)) d pd (le_of_mul-le-mul_right k pb)
  where
    ring : (a b c d k : ℕ) → a * d ≡ c * b → d * (a * k) ≡ (c * k) * b
    ring a b c d k e = let f = ap (λ n. n * k) e in omega arith

    rearranged : (q b d x y : ℕ) → d * (q * b) ≤ d * x → d * x ≡ y * b → (q * d) * b ≤ y * b
    rearranged q b d x y h e = omega arith

pub digit_same : (m a b c d : ℕ) → 0 < b → 0 < d → a * d ≡ c * b → digit m a b ≡ digit m c d
digit_same m a b c d pb pd e = let x = digit_le m a b c d pb pd e in let y =
    digit_le m c d a b pd pb (sym e) in omega arith

clash : (k a b c d q q' : ℕ) → 0 < b → 0 < d → b * d ≤ k → a * d < c * b → q * b ≤ a * k
    → c * k < d * (q' + 1) → q' ≤ q → ⊥
clash k a b c d q q' pb pd bd h lo hi le =
    let one : (a * d + 1) * k ≤ (c * b) * k = mul-le-mul (omega arith) (omega arith) in
    let two : b * (c * k) < b * (d * (q' + 1)) = mul-lt-mul_of_pos_left hi pb in
    let three : (b * d) * (q' + 1) ≤ (b * d) * (q + 1) = mul-le-mul_left (b * d) (omega arith) in
    let four : d * (q * b) ≤ d * (a * k) = mul-le-mul_left d lo in
    omega arith

pub digit_less : (m a b c d : ℕ) → 0 < b → 0 < d → b ≤ m → d ≤ m → a * d < c * b
    → digit m a b < digit m c d
digit_less m a b c d pb pd bm dm h =
    let lo = div-mul-le_self (a * (m * m)) b in
    let hi : c * (m * m) < d * (c * (m * m) / d + 1) = lt-mul-div-succ (c * (m * m)) pd in
    let bd : b * d ≤ m * m = mul-le-mul bm dm in
    elim (lt-or-ge (digit m a b) (digit m c d)) [
      | inl l ↦ l
      | inr g
          ↦ absurd (clash (m * m) a b c d (a * (m * m) / b) (c * (m * m) / d) pb pd bd h lo hi g)
    ]
  where
    lt-or-ge : (x y : ℕ) → (x < y) ⊎ (y ≤ x)
    lt-or-ge x y =
        elim (cases_order x y)
        [ inl e ↦ inr (omega arith) | inr o ↦ elim o [ inl l ↦ inl l | inr g ↦ inr (omega arith) ] ]
