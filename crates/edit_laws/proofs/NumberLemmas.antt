-- Renumbering after an insertion and a removal.
use Rattle.std.proofs.Common.{◌≡◌, ℕ, ◌+◌, ◌<◌, ◌==◌, false, List, [], ◌∷◌, map, refl, arith}
use Rattle.std.proofs.lemmas.Bool.{or_parts, or_from, ne_eqb, eqb-false}
use Rattle.std.proofs.lemmas.Bool.Decides.{nat_tests}
use Rattle.edit_rules.specs.number_sets.Sets.{has}
use Rattle.edit_rules.specs.problem_rules.Problem.{Term, OperatingUnit, Exclusion, terms_have}
use Rattle.edit_rules.specs.Numbering.{up, down, in_term, in_unit, in_exclusion, unit_has}
use Rattle.edit_rules.specs.Numbering.{any_unit_has, any_excludes}

pub down-up : (k x : ℕ) → down k (up k x) ≡ x
down-up k x = grind (arith, nat_tests)

pub up-down : (k x : ℕ) → (x ≡ k → ⊥) → up k (down k x) ≡ x
up-down k x h = grind (arith, nat_tests)

pub up-apart : (k x : ℕ) → up k x ≡ k → ⊥
up-apart k x h = grind (arith, nat_tests)

pub up-lt : (k x n : ℕ) → x < n → up k x < n + 1
up-lt k x n h = grind (arith, nat_tests)

pub down-lt : (k x n : ℕ) → x < n + 1 → k < n + 1 → (x ≡ k → ⊥) → down k x < n
down-lt k x n h below apart = grind (arith, nat_tests)

-- ---- terms

pub terms_back : (k : ℕ) (ts : List Term) → map (in_term (down k)) (map (in_term (up k)) ts) ≡ ts
terms_back k [] = refl
terms_back k (t ∷ ts) =
    λ i. record { material = down-up k t.material i; rate = t.rate } ∷ terms_back k ts i

pub terms_forth : (k : ℕ) (ts : List Term) → terms_have ts k ≡ false
    → map (in_term (up k)) (map (in_term (down k)) ts) ≡ ts
terms_forth k [] e = refl
terms_forth k (t ∷ ts) e =
    let p = or_parts (t.material == k) (terms_have ts k) e in
    λ i. record { material = up-down k t.material (eqb-false t.material k p.0) i; rate = t.rate }
    ∷ terms_forth k ts p.1 i

pub terms_free : (k : ℕ) (ts : List Term) → terms_have (map (in_term (up k)) ts) k ≡ false
terms_free k [] = refl
terms_free k (t ∷ ts) =
    or_from (up k t.material == k) (terms_have (map (in_term (up k)) ts) k)
    (ne_eqb (up k t.material) k (up-apart k t.material)) (terms_free k ts)

-- ---- units

pub units_back : (k : ℕ) (us : List OperatingUnit)
    → map (in_unit (down k)) (map (in_unit (up k)) us) ≡ us
units_back k [] = refl
units_back k (u ∷ us) =
    λ i. record u { inputs = terms_back k u.inputs i; outputs = terms_back k u.outputs i }
    ∷ units_back k us i

pub units_forth : (k : ℕ) (us : List OperatingUnit) → any_unit_has us k ≡ false
    → map (in_unit (up k)) (map (in_unit (down k)) us) ≡ us
units_forth k [] e = refl
units_forth k (u ∷ us) e =
    let p = or_parts (unit_has u k) (any_unit_has us k) e in
    let q = or_parts (terms_have u.inputs k) (terms_have u.outputs k) p.0 in
    λ i. record u { inputs = terms_forth k u.inputs q.0 i; outputs = terms_forth k u.outputs q.1 i }
    ∷ units_forth k us p.1 i

pub units_free : (k : ℕ) (us : List OperatingUnit)
    → any_unit_has (map (in_unit (up k)) us) k ≡ false
units_free k [] = refl
units_free k (u ∷ us) =
    or_from (unit_has (in_unit (up k) u) k) (any_unit_has (map (in_unit (up k)) us) k)
    (or_from (terms_have (map (in_term (up k)) u.inputs) k)
    (terms_have (map (in_term (up k)) u.outputs) k) (terms_free k u.inputs)
    (terms_free k u.outputs))
    (units_free k us)

-- ---- exclusions

pub numbers_back : (k : ℕ) (xs : List ℕ) → map (down k) (map (up k) xs) ≡ xs
numbers_back k [] = refl
numbers_back k (x ∷ xs) = λ i. down-up k x i ∷ numbers_back k xs i

pub numbers_forth : (k : ℕ) (xs : List ℕ) → has xs k ≡ false → map (up k) (map (down k) xs) ≡ xs
numbers_forth k [] e = refl
numbers_forth k (x ∷ xs) e =
    let p = or_parts (x == k) (has xs k) e in
    λ i. up-down k x (eqb-false x k p.0) i ∷ numbers_forth k xs p.1 i

pub numbers_free : (k : ℕ) (xs : List ℕ) → has (map (up k) xs) k ≡ false
numbers_free k [] = refl
numbers_free k (x ∷ xs) =
    or_from (up k x == k) (has (map (up k) xs) k) (ne_eqb (up k x) k (up-apart k x))
    (numbers_free k xs)

pub exclusions_back : (k : ℕ) (xs : List Exclusion)
    → map (in_exclusion (down k)) (map (in_exclusion (up k)) xs) ≡ xs
exclusions_back k [] = refl
exclusions_back k (x ∷ xs) =
    λ i. record x { units = numbers_back k x.units i } ∷ exclusions_back k xs i

pub exclusions_forth : (k : ℕ) (xs : List Exclusion) → any_excludes xs k ≡ false
    → map (in_exclusion (up k)) (map (in_exclusion (down k)) xs) ≡ xs
exclusions_forth k [] e = refl
exclusions_forth k (x ∷ xs) e =
    let p = or_parts (has x.units k) (any_excludes xs k) e in
    λ i. record x { units = numbers_forth k x.units p.0 i } ∷ exclusions_forth k xs p.1 i

pub exclusions_free : (k : ℕ) (xs : List Exclusion)
    → any_excludes (map (in_exclusion (up k)) xs) k ≡ false
exclusions_free k [] = refl
exclusions_free k (x ∷ xs) =
    or_from (has (map (up k) x.units) k) (any_excludes (map (in_exclusion (up k)) xs) k)
    (numbers_free k x.units) (exclusions_free k xs)
