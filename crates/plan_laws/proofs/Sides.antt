-- Which materials the sides of an expanded problem's units have, and at which rates.
use Rattle.std.proofs.Common.{◌≡◌, ◌<◌, ◌≤◌, ◌+◌, ◌==◌, ◌||◌, ℕ, zero, suc, Bool, true, false}
use Rattle.std.proofs.Common.{List}
use Rattle.std.proofs.Common.{[], ◌∷◌, ◌++◌, map, ℤ, pos, refl, sym, ap, ◌∙◌, inl, inr, ◌⊎◌}
use Rattle.std.proofs.Common.{arith}
use Rattle.std.specs.List.{range_with_len}
use Rattle.std.proofs.lemmas.Bool.{or_cases, or_left, or_right, or_parts, ne_eqb, eq-eqb}
use Rattle.std.proofs.lemmas.Bool.{eqb-true}
use Rattle.std.proofs.lemmas.Bool.{true≢false}
use Rattle.plan_rules.specs.problem_rules.Problem.{Term, terms_have, rate_in}
use Rattle.plan_rules.specs.Expanded.{at_rate_one, one}
use Rattle.plan_laws.proofs.Terms.{moved}

-- ---- terms of rate 1

abbrev pub ones : (ℕ → ℕ) → ℕ → ℕ → List Term
ones f a k = map (λ t. at_rate_one (f t)) (range_with_len a k)

pub ones_have : (f : ℕ → ℕ) (a k t x : ℕ) → a ≤ t → t < a + k → f t ≡ x
    → terms_have (ones f a k) x ≡ true
ones_have f a zero t x le lt e = absurd (omega (arith, le, lt))
ones_have f a (suc k) t x le lt e =
    at (f a == x) (terms_have (ones f (a + 1) k) x) (λ same. eq-eqb (f a) x (ap f same ∙ e))
    (λ more. ones_have f (a + 1) k t x more (omega (arith, lt)) e) where
      at : (here later : Bool) → (a ≡ t → here ≡ true) → (a + 1 ≤ t → later ≡ true)
          → (here || later) ≡ true
      at true later same more = refl
      at false later same more =
          more (omega (arith, le, (λ (is : a ≡ t). true≢false (sym (same is)))))

pub ones_have_some : (f : ℕ → ℕ) (a k x : ℕ) → terms_have (ones f a k) x ≡ true → (t : ℕ)
    × (a ≤ t)
    × (t < a + k) × (f t ≡ x)
ones_have_some f a zero x e = absurd (true≢false (sym e))
ones_have_some f a (suc k) x e =
    elim (or_cases (f a == x) (terms_have (ones f (a + 1) k) x) e) as (λ _. (t : ℕ) × (a ≤ t)
    × (t < a + suc k) × (f t ≡ x)) [
      | inl here ↦ (a, omega arith, omega arith, eqb-true (f a) x here)
      | inr later ↦ let r = ones_have_some f (a + 1) k x later in
          (r.0, omega (arith, r.1), omega (arith, r.2), r.3)
    ]

pub ones_rate : (f : ℕ → ℕ) (a k x : ℕ) → terms_have (ones f a k) x ≡ true
    → rate_in (ones f a k) x ≡ one
ones_rate f a zero x e = absurd (true≢false (sym e))
ones_rate f a (suc k) x e = at (f a == x) refl (ones_rate f (a + 1) k x) where
  at : (b : Bool) → (f a == x) ≡ b
      → (terms_have (ones f (a + 1) k) x ≡ true → rate_in (ones f (a + 1) k) x ≡ one)
      → rate_in (ones f a (suc k)) x ≡ one
  at true is rest = rw (rate_in, is) refl
  at false is rest =
      rw (rate_in, is) (rest (sym (ap (λ b. b || terms_have (ones f (a + 1) k) x) is) ∙ e))

-- ---- moved terms

pub moved_some : (a : ℕ) (ts : List Term) (x : ℕ) → terms_have (moved a ts) x ≡ true → (y : ℕ)
    × (x ≡ a + y) × (terms_have ts y ≡ true)
moved_some a [] x e = absurd (true≢false (sym e))
moved_some a (t ∷ ts) x e =
    elim (or_cases (a + t.material == x) (terms_have (moved a ts) x) e) as (λ _. (y : ℕ)
    × (x ≡ a + y) × (terms_have (t ∷ ts) y ≡ true)) [
      | inl here
          ↦ (
            t.material,
            sym (eqb-true (a + t.material) x here),
            or_left (t.material == t.material) (terms_have ts t.material)
                (eq-eqb t.material t.material refl),
          )
      | inr later ↦ let r = moved_some a ts x later in
          (r.0, r.1, or_right (t.material == r.0) (terms_have ts r.0) r.2)
    ]

pub moved_rate : (a : ℕ) (ts : List Term) (x : ℕ) → rate_in (moved a ts) (a + x) ≡ rate_in ts x
moved_rate a [] x = refl
moved_rate a (t ∷ ts) x = at (t.material == x) refl (moved_rate a ts x) where
  at : (b : Bool) → (t.material == x) ≡ b → rate_in (moved a ts) (a + x) ≡ rate_in ts x
      → rate_in (moved a (t ∷ ts)) (a + x) ≡ rate_in (t ∷ ts) x
  at true is rest =
      let there : (a + t.material == a + x) ≡ true =
      eq-eqb (a + t.material) (a + x) (ap (λ z. a + z) (eqb-true t.material x is)) in
      rw (rate_in, there, is) refl
  at false is rest =
      let there : (a + t.material == a + x) ≡ false =
      ne_eqb (a + t.material) (a + x)
      (λ same. true≢false (sym (eq-eqb t.material x (omega (arith, same))) ∙ is)) in
      rw (rate_in, there, is) rest

-- ---- two lists of terms

pub append_rate : (xs ys : List Term) (x : ℕ) → terms_have xs x ≡ false
    → rate_in (xs ++ ys) x ≡ rate_in ys x
append_rate [] ys x e = refl
append_rate (t ∷ ts) ys x e = let parts =
    or_parts (t.material == x) (terms_have ts x) e in
    rw (rate_in, parts.0) (append_rate ts ys x parts.1)

pub append_rate_left : (xs ys : List Term) (x : ℕ) → rate_in ys x ≡ pos 0
    → rate_in (xs ++ ys) x ≡ rate_in xs x
append_rate_left [] ys x none = none
append_rate_left (t ∷ ts) ys x none =
    at (t.material == x) refl (append_rate_left ts ys x none) where
      at : (b : Bool) → (t.material == x) ≡ b → rate_in (ts ++ ys) x ≡ rate_in ts x
          → rate_in ((t ∷ ts) ++ ys) x ≡ rate_in (t ∷ ts) x
      at true is rest = rw (rate_in, is) refl
      at false is rest = rw (rate_in, is) rest
