-- Numbers of materials and units in lists: which are there, which are there twice, and which rise.
use Rattle.std.proofs.Common.{◌≡◌, ◌<◌, ◌≤◌, ◌+◌, ◌||◌, ◌==◌, Bool, false, ℕ, List, [], ◌∷◌, refl}
use Rattle.std.proofs.Common.{sym, ◌∙◌, ap, arith, ne_eqb, eq-eqb}
use Rattle.std.specs.List.{list_any}
use Rattle.std.proofs.lemmas.Bool.{or_parts, or_from, true≢false}
use Rattle.text_rules.specs.problem_rules.Each.{Each}
use Rattle.text_rules.specs.problem_rules.Problem.{Term, numbers_of, terms_have}
use Rattle.text_rules.specs.problem_rules.Validity.{repeats_material, shares_material}
use Rattle.text_rules.specs.problem_rules.WellFormed.{AreRisingFrom}

abbrev pub has_number : ℕ → List ℕ → Bool
has_number n [] = false
has_number n (k ∷ ks) = (k == n) || has_number n ks

abbrev pub has_double_number : List ℕ → Bool
has_double_number [] = false
has_double_number (k ∷ ks) = has_number k ks || has_double_number ks

-- the materials of terms, as numbers
have_same : (ts : List Term) (x : ℕ) → terms_have ts x ≡ has_number x (numbers_of ts)
have_same [] x = refl
have_same (t ∷ ts) x = ap (λ b. (t.material == x) || b) (have_same ts x)

pub repeats_same : (ts : List Term) → repeats_material ts ≡ has_double_number (numbers_of ts)
repeats_same [] = refl
repeats_same (t ∷ ts) =
    ap (λ b. b || repeats_material ts) (have_same ts t.material)
    ∙ ap (λ b. has_number t.material (numbers_of ts) || b) (repeats_same ts)

shares_same : (ins outs : List Term)
    → shares_material ins outs ≡ list_any (λ n. has_number n (numbers_of ins)) (numbers_of outs)
shares_same ins [] = refl
shares_same ins (t ∷ outs) =
    ap (λ b. b || shares_material ins outs) (have_same ins t.material)
    ∙ ap (λ b. has_number t.material (numbers_of ins) || b) (shares_same ins outs)

-- no number is in both lists, in both directions
apart_parts : (k : ℕ) (ks js : List ℕ) → list_any (λ n. has_number n (k ∷ ks)) js ≡ false
    → (has_number k js ≡ false) × (list_any (λ n. has_number n ks) js ≡ false)
apart_parts k ks [] off = (refl, refl)
apart_parts k ks (j ∷ js) off =
    let parts =
    or_parts ((k == j) || has_number j ks) (list_any (λ n. has_number n (k ∷ ks)) js) off in
    let here = or_parts (k == j) (has_number j ks) parts.0 in
    let rest = apart_parts k ks js parts.1 in
    let turned : (j == k) ≡ false =
    ne_eqb j k (λ e. true≢false (sym (eq-eqb k j (sym e)) ∙ here.0)) in (
      or_from (j == k) (has_number k js) turned rest.0,
      or_from (has_number j ks) (list_any (λ n. has_number n ks) js) here.1 rest.1,
    )

apart_turned : (js ks : List ℕ) → list_any (λ n. has_number n ks) js ≡ false
    → list_any (λ n. has_number n js) ks ≡ false
apart_turned js [] off = refl
apart_turned js (k ∷ ks) off =
    let parts = apart_parts k ks js off in
    or_from (has_number k js) (list_any (λ n. has_number n js) ks) parts.0
    (apart_turned js ks parts.1)

pub sides_apart : (ins outs : List Term) → shares_material ins outs ≡ false
    → list_any (λ n. has_number n (numbers_of outs)) (numbers_of ins) ≡ false
sides_apart ins outs off =
    apart_turned (numbers_of outs) (numbers_of ins) (sym (shares_same ins outs) ∙ off)

pub shares_none : (ins outs : List Term)
    → list_any (λ n. has_number n (numbers_of outs)) (numbers_of ins) ≡ false
    → shares_material ins outs ≡ false
shares_none ins outs off = shares_same ins outs
    ∙ apart_turned (numbers_of ins) (numbers_of outs) off

-- numbers that rise are within the count, and each is there once
pub rising_within : (count low : ℕ) (ks : List ℕ) → AreRisingFrom count low ks
    → Each (λ k. k < count) ks
rising_within count low [] rising = tt
rising_within count low (k ∷ ks) rising = (rising.1, rising_within count (k + 1) ks rising.2)

pub rising_none : (n count low : ℕ) (ks : List ℕ) → n < low → AreRisingFrom count low ks
    → has_number n ks ≡ false
rising_none n count low [] lt rising = refl
rising_none n count low (k ∷ ks) lt rising =
    let le : low ≤ k = rising.0 in
    or_from (k == n) (has_number n ks) (ne_eqb k n (λ e. absurd (omega arith)))
    (rising_none n count (k + 1) ks (omega arith) rising.2)

pub rising_double : (count low : ℕ) (ks : List ℕ) → AreRisingFrom count low ks
    → has_double_number ks ≡ false
rising_double count low [] rising = refl
rising_double count low (k ∷ ks) rising =
    or_from (has_number k ks) (has_double_number ks)
    (rising_none k count (k + 1) ks (omega arith) rising.2)
    (rising_double count (k + 1) ks rising.2)

-- numbers that rise from higher up rise from here
pub rising_less : (count low higher : ℕ) (ks : List ℕ) → low ≤ higher
    → AreRisingFrom count higher ks → AreRisingFrom count low ks
rising_less count low higher [] le rising = tt
rising_less count low higher (k ∷ ks) le rising = let here : higher ≤ k =
    rising.0 in (omega arith, rising.1, rising.2)
