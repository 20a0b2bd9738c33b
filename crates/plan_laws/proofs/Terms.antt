-- The sides of the units of an expanded problem.
use Rattle.std.proofs.Common.{◌≡◌, ◌<◌, ◌≤◌, ◌+◌, ◌==◌, ◌||◌, ℕ, zero, suc, Bool, true, false, List}
use Rattle.std.proofs.Common.{[], ◌∷◌, ◌++◌, map, refl, ap, ◌∙◌, arith}
use Rattle.std.specs.List.{range_with_len}
use Rattle.std.proofs.lemmas.Bool.{or_from, or_parts, ne_eqb, eq-eqb, eqb-true}
use Rattle.plan_rules.specs.problem_rules.Problem.{Term, terms_have}
use Rattle.plan_rules.specs.problem_rules.Validity.{repeats_material, shares_material}
use Rattle.plan_rules.specs.Expanded.{at_rate_one}

-- terms that are moved by a number
abbrev pub moved : ℕ → List Term → List Term
moved a terms =
    map (λ (term : Term). record { material = a + term.material; rate = term.rate }) terms

same_place : (a x y : ℕ) → (a + x == a + y) ≡ (x == y)
same_place a x y = at (x == y) refl where
  at : (b : Bool) → (x == y) ≡ b → (a + x == a + y) ≡ b
  at true e = let same = eqb-true x y e in eq-eqb (a + x) (a + y) (ap (λ z. a + z) same)
  at false e =
      ne_eqb (a + x) (a + y) (λ same. let it =
      eq-eqb x y (omega (arith, same)) in absurd (grind (arith, it, e)))

pub moved_have : (a : ℕ) (terms : List Term) (x : ℕ)
    → terms_have (moved a terms) (a + x) ≡ terms_have terms x
moved_have a [] x = refl
moved_have a (t ∷ ts) x = λ i. same_place a t.material x i || moved_have a ts x i

first : (x : ℕ) (b : Bool) → ((x == x) || b) ≡ true
first x b = ap (λ c. c || b) (eq-eqb x x refl)

later : (a b : Bool) → b ≡ true → (a || b) ≡ true
later true b e = refl
later false b e = e

pub moved_repeats : (a : ℕ) (terms : List Term) → repeats_material terms ≡ false
    → repeats_material (moved a terms) ≡ false
moved_repeats a [] once = refl
moved_repeats a (t ∷ ts) once =
    let parts = or_parts (terms_have ts t.material) (repeats_material ts) once in
    or_from (terms_have (moved a ts) (a + t.material)) (repeats_material (moved a ts))
    (moved_have a ts t.material ∙ parts.0) (moved_repeats a ts parts.1)

-- a number above all of them
pub moved_have_not : (a m : ℕ) (terms : List Term) (x : ℕ)
    → ((y : ℕ) → terms_have terms y ≡ true → y < m) → a + m ≤ x
    → terms_have (moved a terms) x ≡ false
moved_have_not a m [] x known past = refl
moved_have_not a m (t ∷ ts) x known past =
    let here = known t.material (first t.material (terms_have ts t.material)) in
    or_from (a + t.material == x) (terms_have (moved a ts) x)
    (ne_eqb (a + t.material) x (λ e. absurd (omega (arith, here, e, past))))
    (moved_have_not a m ts x (λ y g. known y (later (t.material == y) (terms_have ts y) g))
    past)

pub have-append : (xs ys : List Term) (x : ℕ)
    → terms_have (xs ++ ys) x ≡ (terms_have xs x || terms_have ys x)
have-append [] ys x = refl
have-append (t ∷ ts) ys x =
    at (t.material == x) (terms_have (ts ++ ys) x) (terms_have ts x) (terms_have ys x)
    (have-append ts ys x) where
      at : (a whole b c : Bool) → whole ≡ (b || c) → (a || whole) ≡ ((a || b) || c)
      at true whole b c e = refl
      at false whole b c e = e

-- moved, with one more after them all
pub moved_once : (a m c : ℕ) (terms : List Term) → ((y : ℕ) → terms_have terms y ≡ true → y < m)
    → a + m ≤ c → repeats_material terms ≡ false
    → repeats_material (moved a terms ++ at_rate_one c ∷ []) ≡ false
moved_once a m c [] known past once = refl
moved_once a m c (t ∷ ts) known past once =
    let parts = or_parts (terms_have ts t.material) (repeats_material ts) once in
    let here = known t.material (first t.material (terms_have ts t.material)) in
    or_from (terms_have (moved a ts ++ at_rate_one c ∷ []) (a + t.material))
    (repeats_material (moved a ts ++ at_rate_one c ∷ []))
    (have-append (moved a ts) (at_rate_one c ∷ []) (a + t.material)
    ∙ or_from (terms_have (moved a ts) (a + t.material)) ((c == a + t.material) || false)
    (moved_have a ts t.material ∙ parts.0)
    (or_from (c == a + t.material) false
    (ne_eqb c (a + t.material) (λ e. absurd (omega (arith, here, e, past)))) refl))
    (moved_once a m c ts (λ y g. known y (later (t.material == y) (terms_have ts y) g)) past
    parts.1)

pub moved_apart : (a m c : ℕ) (ins outs : List Term) → ((y : ℕ) → terms_have outs y ≡ true → y < m)
    → a + m ≤ c → shares_material ins outs ≡ false
    → shares_material (moved a ins ++ at_rate_one c ∷ []) (moved a outs) ≡ false
moved_apart a m c ins [] known past apart = refl
moved_apart a m c ins (t ∷ ts) known past apart =
    let parts = or_parts (terms_have ins t.material) (shares_material ins ts) apart in
    let here = known t.material (first t.material (terms_have ts t.material)) in
    or_from (terms_have (moved a ins ++ at_rate_one c ∷ []) (a + t.material))
    (shares_material (moved a ins ++ at_rate_one c ∷ []) (moved a ts))
    (have-append (moved a ins) (at_rate_one c ∷ []) (a + t.material)
    ∙ or_from (terms_have (moved a ins) (a + t.material)) ((c == a + t.material) || false)
    (moved_have a ins t.material ∙ parts.0)
    (or_from (c == a + t.material) false
    (ne_eqb c (a + t.material) (λ e. absurd (omega (arith, here, e, past)))) refl))
    (moved_apart a m c ins ts (λ y g. known y (later (t.material == y) (terms_have ts y) g)) past
    parts.1)

-- terms of rising materials
pub rising_have_not : (f : ℕ → ℕ) (x a n : ℕ) → ((i : ℕ) → a ≤ i → x < f i)
    → terms_have (map (λ i. at_rate_one (f i)) (range_with_len a n)) x ≡ false
rising_have_not f x a zero h = refl
rising_have_not f x a (suc n) h =
    let here = h a (omega arith) in
    or_from (f a == x) (terms_have (map (λ i. at_rate_one (f i)) (range_with_len (a + 1) n)) x)
    (ne_eqb (f a) x (λ e. absurd (omega (arith, here, e))))
    (rising_have_not f x (a + 1) n (λ i le. h i (omega (arith, le))))

pub rising_once : (f : ℕ → ℕ) (a n : ℕ) → ((i j : ℕ) → i < j → f i < f j)
    → repeats_material (map (λ i. at_rate_one (f i)) (range_with_len a n)) ≡ false
rising_once f a zero h = refl
rising_once f a (suc n) h =
    or_from (terms_have (map (λ i. at_rate_one (f i)) (range_with_len (a + 1) n)) (f a))
    (repeats_material (map (λ i. at_rate_one (f i)) (range_with_len (a + 1) n)))
    (rising_have_not f (f a) (a + 1) n (λ i le. h a i (omega (arith, le))))
    (rising_once f (a + 1) n h)

pub rising_apart : (x : ℕ) (f : ℕ → ℕ) (a n : ℕ) → ((i : ℕ) → x < f i)
    → shares_material (at_rate_one x ∷ []) (map (λ i. at_rate_one (f i)) (range_with_len a n))
    ≡ false
rising_apart x f a zero h = refl
rising_apart x f a (suc n) h =
    let here = h a in
    or_from ((x == f a) || false)
    (shares_material (at_rate_one x ∷ [])
    (map (λ i. at_rate_one (f i)) (range_with_len (a + 1) n)))
    (or_from (x == f a) false (ne_eqb x (f a) (λ e. absurd (omega (arith, here, e)))) refl)
    (rising_apart x f (a + 1) n h)
