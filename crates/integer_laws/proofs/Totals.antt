-- Sums over a list: of sums, of multiples, over a filtered list; their order; the exchange of two
-- sums.
use Rattle.std.proofs.Common.{◌≡◌, refl, sym, ap, ◌∙◌, arith, pos, ℤ, ◌+ℤ◌, ◌-ℤ◌, ◌*ℤ◌, ◌≤ℤ◌, List}
use Rattle.std.proofs.Common.{[], ◌∷◌, ◌++◌, Bool, true, false, cond}
use Rattle.std.specs.Prelude.{filter}
use Rattle.std.specs.List.{AllByRecursion}
use Rattle.std.proofs.lemmas.Int.{ints}
use Rattle.integer_laws.specs.Total.{total}
use Rattle.integer_laws.proofs.Ring.{ring_z}

pub total-append : {X : Type 0} (f : X → ℤ) (xs ys : List X)
    → total f (xs ++ ys) ≡ total f xs +ℤ total f ys
total-append f [] ys = omega (arith, ints)
total-append f (x ∷ xs) ys = omega (arith, ints, total-append f xs ys)

pub total-add : {X : Type 0} (f g : X → ℤ) (xs : List X)
    → total (λ x. f x +ℤ g x) xs ≡ total f xs +ℤ total g xs
total-add f g [] = refl
total-add f g (x ∷ xs) = omega (arith, ints, total-add f g xs)

pub total-sub : {X : Type 0} (f g : X → ℤ) (xs : List X)
    → total (λ x. f x -ℤ g x) xs ≡ total f xs -ℤ total g xs
total-sub f g [] = refl
total-sub f g (x ∷ xs) = omega (arith, ints, total-sub f g xs)

pub total-mul : {X : Type 0} (k : ℤ) (f : X → ℤ) (xs : List X)
    → total (λ x. k *ℤ f x) xs ≡ k *ℤ total f xs
total-mul k f [] = omega (arith, ints)
total-mul k f (x ∷ xs) = omega (arith, ring_z, total-mul k f xs)

pub total-mul_right : {X : Type 0} (k : ℤ) (f : X → ℤ) (xs : List X)
    → total (λ x. f x *ℤ k) xs ≡ total f xs *ℤ k
total-mul_right k f [] = omega (arith, ints)
total-mul_right k f (x ∷ xs) = omega (arith, ring_z, total-mul_right k f xs)

pub total-zero : {X : Type 0} (f : X → ℤ) (xs : List X) → AllByRecursion (λ x. f x ≡ pos 0) xs
    → total f xs ≡ pos 0
total-zero f [] h = refl
total-zero f (x ∷ xs) h = omega (arith, ints, h.0, total-zero f xs h.1)

pub total-agree : {X : Type 0} (f g : X → ℤ) (xs : List X) → AllByRecursion (λ x. f x ≡ g x) xs
    → total f xs ≡ total g xs
total-agree f g [] h = refl
total-agree f g (x ∷ xs) h = omega (arith, ints, h.0, total-agree f g xs h.1)

pub total-le : {X : Type 0} (f g : X → ℤ) (xs : List X) → AllByRecursion (λ x. f x ≤ℤ g x) xs
    → total f xs ≤ℤ total g xs
total-le f g [] h = omega (arith, ints)
total-le f g (x ∷ xs) h = omega (arith, ints, h.0, total-le f g xs h.1)

pub total-constant_zero : {X : Type 0} (xs : List X) → total (λ x. pos 0) xs ≡ pos 0
total-constant_zero [] = refl
total-constant_zero (x ∷ xs) = omega (arith, ints, total-constant_zero xs)

-- the order of two sums may be exchanged
pub total-exchange : {X Y : Type 0} (f : X → Y → ℤ) (xs : List X) (ys : List Y)
    → total (λ x. total (f x) ys) xs ≡ total (λ y. total (λ x. f x y) xs) ys
total-exchange f [] ys = sym (total-constant_zero ys)
total-exchange f (x ∷ xs) ys = ap (λ z. total (f x) ys +ℤ z) (total-exchange f xs ys)
    ∙ sym (total-add (f x) (λ y. total (λ x'. f x' y) xs) ys)

pub total-same : {X : Type 0} (f g : X → ℤ) → ((x : X) → f x ≡ g x) → (xs : List X)
    → total f xs ≡ total g xs
total-same f g h [] = refl
total-same f g h (x ∷ xs) = omega (arith, ints, h x, total-same f g h xs)

-- a sum over the elements that pass a test
cond_total : {X : Type 0} (f : X → ℤ) (p : X → Bool) (x : X) (xs : List X) (b : Bool)
    → total f (cond b (x ∷ filter p xs) (filter p xs))
    ≡ cond b (f x) (pos 0) +ℤ total f (filter p xs)
cond_total f p x xs true = refl
cond_total f p x xs false = omega (arith, ints)

pub total-filter : {X : Type 0} (f : X → ℤ) (p : X → Bool) (xs : List X)
    → total f (filter p xs) ≡ total (λ x. cond (p x) (f x) (pos 0)) xs
total-filter f p [] = refl
total-filter f p (x ∷ xs) = cond_total f p x xs (p x)
    ∙ ap (λ z. cond (p x) (f x) (pos 0) +ℤ z) (total-filter f p xs)
