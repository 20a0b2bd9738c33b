-- Sums over the numbers of a set, and what holds of each of its numbers.
use Rattle.std.proofs.Common.{◌≡◌, ℕ, zero, suc, ◌<◌, refl, sym, ap, ◌∙◌, arith, pos, ℤ, ◌+ℤ◌, List}
use Rattle.std.proofs.Common.{[], ◌∷◌, ◌++◌, Bool, true, false, cond}
use Rattle.std.specs.List.{AllByRecursion}
use Rattle.std.proofs.lemmas.Int.{ints}
use Rattle.integer_laws.specs.Total.{total, total_below}
use Rattle.integer_laws.proofs.Cited.{total-append, total_below-same}
use Rattle.pns_rules.specs.number_sets.Sets.{listed}

All-append : {X : Type 0} (P : X → Type 0) (xs ys : List X) → AllByRecursion P xs
    → AllByRecursion P ys → AllByRecursion P (xs ++ ys)
All-append P [] ys h k = k
All-append P (x ∷ xs) ys h k = (h.0, All-append P xs ys h.1 k)

last_one : (P : ℕ → Type 0) (n : ℕ) (b : Bool) → (b ≡ true → P n)
    → AllByRecursion P (cond b (n ∷ []) [])
last_one P n true h = (h refl, tt)
last_one P n false h = tt

pub All-listed : (P : ℕ → Type 0) (n : ℕ) (t : ℕ → Bool) → ((i : ℕ) → i < n → t i ≡ true → P i)
    → AllByRecursion P (listed n t)
unfolding listed
All-listed P zero t h = tt
All-listed P (suc n) t h =
    All-append P (listed n t) (cond (t n) (n ∷ []) [])
    (All-listed P n t (λ i l e. h i (omega arith) e)) (last_one P n (t n) (h n (omega arith)))

last_term : (f : ℕ → ℤ) (n : ℕ) (b : Bool) → total f (cond b (n ∷ []) []) ≡ cond b (f n) (pos 0)
last_term f n true = omega (arith, ints)
last_term f n false = refl

-- a sum over a set is a sum over all numbers, with 0 for those that are not in it
pub total-listed : (f : ℕ → ℤ) (n : ℕ) (t : ℕ → Bool)
    → total f (listed n t) ≡ total_below n (λ i. cond (t i) (f i) (pos 0))
unfolding listed
total-listed f zero t = refl
total-listed f (suc n) t =
    total-append f (listed n t) (cond (t n) (n ∷ []) [])
    ∙ ap (λ z. z +ℤ total f (cond (t n) (n ∷ []) [])) (total-listed f n t)
    ∙ ap (λ z. total_below n (λ i. cond (t i) (f i) (pos 0)) +ℤ z) (last_term f n (t n))

-- two sums over sets agree if their terms do; a term outside its set counts 0
pub total-sets : (f g : ℕ → ℤ) (s t : ℕ → Bool) (n : ℕ)
    → ((i : ℕ) → i < n → cond (s i) (f i) (pos 0) ≡ cond (t i) (g i) (pos 0))
    → total f (listed n s) ≡ total g (listed n t)
total-sets f g s t n h =
    total-listed f n s
    ∙ total_below-same n (λ i. cond (s i) (f i) (pos 0)) (λ i. cond (t i) (g i) (pos 0)) h
    ∙ sym (total-listed g n t)

-- a term outside the smaller set is 0 already
pub over_larger : (a b : Bool) (x : ℤ) → (b ≡ true → a ≡ true) → (b ≡ false → x ≡ pos 0)
    → cond a x (pos 0) ≡ cond b x (pos 0)
over_larger true true x sub out = refl
over_larger true false x sub out = out refl
over_larger false true x sub out = let e = sub refl in cc
over_larger false false x sub out = refl

-- or is made 0 there
pub within_larger : (a b : Bool) (x : ℤ) → (b ≡ true → a ≡ true)
    → cond a (cond b x (pos 0)) (pos 0) ≡ cond b x (pos 0)
within_larger true b x sub = refl
within_larger false true x sub = let e = sub refl in cc
within_larger false false x sub = refl
