-- Units that are taken one by one, with their sizes.
use Rattle.std.proofs.Common.{◌≡◌, ◌<◌, ◌≤◌, ◌+◌, ◌*◌, ◌==◌, ℕ, suc, Bool, true, false, cond}
use Rattle.std.proofs.Common.{nat_lt, List, [], ◌∷◌, ◌++◌, map, ℤ, refl, sym, ap, ◌∙◌, arith}
use Rattle.std.proofs.Common.{append-nil}
use Rattle.std.proofs.lemmas.Bool.{le-ltb, ne_eqb}
use Rattle.std.proofs.lemmas.List.{map-append}
use Rattle.std.proofs.Math.Nat.{mul-le-mul_left}
use Rattle.plan_laws.specs.number_sets.Sets.{listed, with_number, AreBelow}
use Rattle.plan_laws.proofs.number_sets.Cited.{AreBelow-listed}

pushed : (n : ℕ) (xs : List ℕ) → AreBelow n xs → with_number n xs ≡ xs ++ n ∷ []
pushed n [] below = refl
pushed n (x ∷ xs) below =
    ap (λ b. cond b (n ∷ x ∷ xs) (cond (x == n) (x ∷ xs) (x ∷ with_number n xs)))
    (le-ltb n x (let lt = below.0 in omega (arith, lt)))
    ∙ (ap (λ b. cond b (x ∷ xs) (x ∷ with_number n xs))
    (ne_eqb x n (λ e. let lt = below.0 in absurd (omega (arith, lt, e))))
    ∙ ap (λ (ys : List ℕ). x ∷ ys) (pushed n xs below.1))

listed_next : (n : ℕ) (t : ℕ → Bool) → listed (n + 1) t ≡ listed n t ++ cond (t n) (n ∷ []) []
unfolding listed
listed_next n t = let next : n + 1 ≡ suc n = omega arith in ap (λ k. listed k t) next

pub units_with : (n : ℕ) (t : ℕ → Bool) (b : Bool) → t n ≡ b
    → cond b (with_number n (listed n t)) (listed n t) ≡ listed (n + 1) t
units_with n t b e =
    at b ∙ (ap (λ c. listed n t ++ cond c (n ∷ []) []) (sym e) ∙ sym (listed_next n t)) where
      at : (b : Bool) → cond b (with_number n (listed n t)) (listed n t) ≡ listed n t
          ++ cond b (n ∷ []) []
      at true = pushed n (listed n t) (AreBelow-listed n t)
      at false = sym (append-nil (listed n t))

pub sizes_with : (f : ℕ → ℤ) (n : ℕ) (t : ℕ → Bool) (b : Bool) (size : ℤ) → t n ≡ b
    → (b ≡ true → size ≡ f n) → map f (listed n t) ++ cond b (size ∷ []) []
    ≡ map f (listed (n + 1) t)
sizes_with f n t b size e is =
    ap (λ (zs : List ℤ). map f (listed n t) ++ zs) (at b is)
    ∙ (sym (map-append f (listed n t) (cond b (n ∷ []) []))
    ∙ ap (map f) (ap (λ c. listed n t ++ cond c (n ∷ []) []) (sym e)
    ∙ sym (listed_next n t))) where
      at : (b : Bool) → (b ≡ true → size ≡ f n) → cond b (size ∷ []) [] ≡ map f (cond b (n ∷ []) [])
      at true is = ap (λ z. z ∷ []) (is refl)
      at false is = refl

pub none_taken : (t : ℕ → Bool) → [] ≡ listed 0 t
unfolding listed
none_taken t = refl

pub no_sizes : (f : ℕ → ℤ) (t : ℕ → Bool) → [] ≡ map f (listed 0 t)
unfolding listed
no_sizes f t = refl

pub sizes_more : (f : ℕ → ℤ) (n : ℕ) (t : ℕ → Bool) (b : Bool) (size : ℤ) (before after : List ℤ)
    → t n ≡ b → (b ≡ true → size ≡ f n) → before ≡ map f (listed n t)
    → after ≡ before ++ cond b (size ∷ []) [] → after ≡ map f (listed (n + 1) t)
sizes_more f n t b size before after e is had more =
    more ∙ (ap (λ (zs : List ℤ). zs ++ cond b (size ∷ []) []) had ∙ sizes_with f n t b size e is)

-- the last unit that runs in a period is among the first 128
pub within_limit : (u t k : ℕ) → t < k → u * (k + 1) ≤ 128 → u + t * u + u ≤ 128
within_limit u t k lt few = let more : u * (t + 2) ≤ u * (k + 1) =
    mul-le-mul_left u (omega (arith, lt)) in omega (arith, more, few)
