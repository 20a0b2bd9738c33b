-- What digits stand for.
use Rattle.std.proofs.Common.{◌≡◌, ◌<◌, ◌≤◌, ◌+◌, ◌-◌, ◌*◌, ◌/◌, ◌%◌, ◌^◌, ◌&&◌, ◌||◌, ◌==◌, Bool}
use Rattle.std.proofs.Common.{true, false, not, ℕ, zero, suc, nat_le, List, [], ◌∷◌, ◌++◌, length}
use Rattle.std.proofs.Common.{slice_index, decimal, if◌then◌else◌, refl, sym, ◌∙◌, ap, arith}
use Rattle.std.proofs.Common.{length-append, ne_eqb, eq-eqb, le-leb}
use Rattle.std.specs.List.{list_all}
use Rattle.std.specs.Char.{is_ascii_digit}
use Rattle.std.proofs.lemmas.Bool.{cond-true, and_from, or_left, or_right}
use Rattle.std.proofs.lemmas.Bool.Decides.{nat_tests}
use Rattle.std.proofs.lemmas.Fmt.{decimal_by_steps_wide}
use Rattle.std.proofs.Math.Nat.{pow-suc, add-mul-mod_self_left, mod-eq_of_lt, mod-lt, div-add-mod}
use Rattle.std.proofs.Math.Nat.{one-le-pow}
use Rattle.std.proofs.lemmas.Nat.{pow-add}
use Rattle.text_rules.specs.Amount.{number_from}
use Rattle.text_rules.specs.Printed.{digits}

pub pow-pos : (k : ℕ) → 0 < 10 ^ k
pow-pos k = one-le-pow k 10 (omega arith)

pub digit-yes : (d : ℕ) → d < 10 → is_ascii_digit (48 + d) ≡ true
digit-yes d lt = grind (arith, nat_tests)

pub number-append : (a : ℕ) (xs ys : List ℕ)
    → number_from a (xs ++ ys) ≡ number_from (number_from a xs) ys
number-append a [] ys = refl
number-append a (x ∷ xs) ys =
    number-append (if is_ascii_digit x then 10 * a + (x - 48) else a) xs ys

pub number-last : (a : ℕ) (ds : List ℕ) (d : ℕ) → d < 10
    → number_from a (ds ++ (48 + d) ∷ []) ≡ 10 * number_from a ds + d
number-last a ds d lt =
    number-append a ds ((48 + d) ∷ [])
    ∙ cond-true (is_ascii_digit (48 + d)) (10 * number_from a ds + (48 + d - 48)) (number_from a ds)
    (digit-yes d lt)
    ∙ omega arith

pub all-append : (p : ℕ → Bool) (xs ys : List ℕ) → list_all p xs ≡ true → list_all p ys ≡ true
    → list_all p (xs ++ ys) ≡ true
all-append p [] ys all more = more
all-append p (x ∷ xs) ys all more =
    all_in (p x) (list_all p xs) (list_all p (xs ++ ys)) all
    (λ rest. all-append p xs ys rest more) where
      all_in : (b rest whole : Bool) → (b && rest) ≡ true → (rest ≡ true → whole ≡ true)
          → (b && whole) ≡ true
      all_in true rest whole all step = step all
      all_in false rest whole all step = all

pub all-last : (ds : List ℕ) (d : ℕ) → d < 10 → list_all is_ascii_digit ds ≡ true
    → list_all is_ascii_digit (ds ++ (48 + d) ∷ []) ≡ true
all-last ds d lt all =
    all-append is_ascii_digit ds ((48 + d) ∷ []) all (ap (λ b. b && true) (digit-yes d lt))

-- ---- printed numbers

-- digits that stand for the number, without a leading 0
pub record IsPrinted (n : ℕ) (ds : List ℕ) : Type 0 where
  pub all : list_all is_ascii_digit ds ≡ true
  pub some : 0 < length ds
  pub value : number_from 0 ds ≡ n
  pub one : n < 10 → length ds ≡ 1
  pub first : 0 < n → (slice_index ds 0 == 48) ≡ false

first_of : (ds : List ℕ) (d : ℕ) → 0 < length ds → slice_index (ds ++ d ∷ []) 0 ≡ slice_index ds 0
first_of [] d some = absurd (omega arith)
first_of (c ∷ cs) d some = refl

printed_one : (n : ℕ) → n < 10 → IsPrinted n ((48 + n) ∷ [])
printed_one n lt = record {
  all = all-last [] n lt refl;
  some = omega arith;
  value = number-last 0 [] n lt ∙ omega arith;
  one = λ _. refl;
  first = λ above. ne_eqb (48 + n) 48 (λ e. omega (arith, e, above));
}

printed_more : (n : ℕ) (ds : List ℕ) → 10 ≤ n → IsPrinted (n / 10) ds
    → IsPrinted n (ds ++ (48 + n % 10) ∷ [])
printed_more n ds le before = record {
  all = all-last ds (n % 10) (omega arith) before.all;
  some = omega (arith, length-append ds ((48 + n % 10) ∷ []));
  value = number-last 0 ds (n % 10) (omega arith) ∙ ap (λ m. 10 * m + n % 10) before.value
      ∙ omega arith;
  one = λ small. absurd (omega (arith, small, le));
  first = λ above. ap (λ (c : ℕ). c == 48) (first_of ds (48 + n % 10) before.some)
      ∙ before.first (omega (arith, le));
}

pub decimal_printed : (n : ℕ) → n < 10 ^ 64 → IsPrinted n (decimal n)
decimal_printed = decimal_by_steps_wide IsPrinted printed_one printed_more

no_zero : (n : ℕ) (ds : List ℕ) → IsPrinted n ds
    → (length ds == 1 || not (slice_index ds 0 == 48)) ≡ true
no_zero zero ds is =
    or_left (length ds == 1) (not (slice_index ds 0 == 48))
    (eq-eqb (length ds) 1 (is.one (omega arith)))
no_zero (suc n) ds is =
    or_right (length ds == 1) (not (slice_index ds 0 == 48)) (ap not (is.first (omega arith)))

-- a printed number is whole: 0, or digits that do not begin with 0
pub decimal_whole : (n : ℕ) → n < 10 ^ 64
    → (list_all is_ascii_digit (decimal n) && nat_le 1 (length (decimal n)) &&
    (length (decimal n) == 1 || not (slice_index (decimal n) 0 == 48))) ≡ true
decimal_whole n lt = let is = decimal_printed n lt in
    and_from _ _ (and_from _ _ is.all (le-leb 1 (length (decimal n)) is.some))
    (no_zero n (decimal n) is)

pub decimal_reads : (n : ℕ) → n < 2 ^ 64 → (list_all is_ascii_digit (decimal n) ≡ true)
    × (number_from 0 (decimal n) ≡ n)
decimal_reads n lt = let is = decimal_printed n (omega (arith, lt)) in (is.all, is.value)

-- the last digits of a number stand for its remainder
pub digits_all : (k n : ℕ) → list_all is_ascii_digit (digits k n) ≡ true
digits_all zero n = refl
digits_all (suc k) n = all-last (digits k (n / 10)) (n % 10) (omega arith) (digits_all k (n / 10))

-- one digit more of a remainder
pub mod-digit : (m k : ℕ) → m % 10 ^ (k + 1) ≡ m / 10 % 10 ^ k * 10 + m % 10
mod-digit m k =
    let t : ℕ = 10 ^ k in
    let q : ℕ = m / 10 / t in
    let r : ℕ = m / 10 % t in
    let power : 10 ^ (k + 1) ≡ t * 10 = pow-add 10 k 1 in
    let small : r < t = mod-lt (m / 10) (pow-pos k) in
    let parts : m / 10 ≡ t * q + r = sym (div-add-mod (m / 10) t) in
    let whole : m ≡ r * 10 + m % 10 + t * 10 * q = omega arith in
    let below : r * 10 + m % 10 < t * 10 = omega arith in
    ap (λ n. m % n) power ∙ ap (λ n. n % (t * 10)) whole
    ∙ add-mul-mod_self_left (r * 10 + m % 10) (t * 10) q ∙ mod-eq_of_lt below

-- the last digits of a number, after digits that were read, stand for its remainder
pub number-digits : (k a m : ℕ) → number_from a (digits k m) ≡ a * 10 ^ k + m % 10 ^ k
number-digits zero a m = omega arith
number-digits (suc k) a m =
    let last = number-last a (digits k (m / 10)) (m % 10) (omega arith) in
    let front = number-digits k a (m / 10) in
    let power : 10 ^ suc k ≡ 10 ^ k * 10 = pow-suc 10 k in
    let rest : m % 10 ^ suc k ≡ m / 10 % 10 ^ k * 10 + m % 10 =
    ap (λ n. m % n) (power ∙ sym (pow-add 10 k 1)) ∙ mod-digit m k in
    let scaled : a * 10 ^ suc k ≡ a * 10 ^ k * 10 = ap (λ n. a * n) power ∙ omega arith in
    last ∙ omega arith
