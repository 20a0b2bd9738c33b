-- The digits at the front of a number with at most one point among them, and what they say of the
-- whole.
use Rattle.std.proofs.Common.{◌≡◌, ◌<◌, ◌≤◌, ◌+◌, ◌-◌, ◌*◌, ◌^◌, ◌&&◌, ◌||◌, ◌==◌, Bool, true}
use Rattle.std.proofs.Common.{false, not, ℕ, ◌⊎◌, List, [], ◌∷◌, ◌++◌, Option, Some, None, Result}
use Rattle.std.proofs.Common.{Err, ℤ, length, take, get_or, count_by, nat_le, if◌then◌else◌, refl}
use Rattle.std.proofs.Common.{sym, ◌∙◌, ap, arith, append-nil, le-leb, eqb-true, one-add, inl, inr}
use Rattle.std.specs.List.{list_all, list_any, position_or_len, before_first, after_first}
use Rattle.std.specs.Char.{is_ascii_digit}
use Rattle.std.proofs.lemmas.Bool.{true≢false, cond-true, cond-false, lt-leb, and_left, and_right}
use Rattle.std.proofs.lemmas.Bool.{and_from, or_from, or_parts, cases_lt, cases_Bool}
use Rattle.std.proofs.lemmas.List.{take_more}
use Rattle.std.proofs.lemmas.List.Folds.{list_all-append, list_all_more}
use Rattle.std.proofs.lemmas.List.Sums.{sum_by-append, sum_by-cons}
use Rattle.text_laws.proofs.Cited.{not_mark, none_from_all, before_mark, after_mark, any_mark}
use Rattle.text_laws.proofs.Cited.{number-append, all-append, all_to, count_none, count_all}
use Rattle.text_laws.proofs.Cited.{before_none, after_none}
use Rattle.edit_rules.specs.text_rules.Amount.{is_point, is_digit_or_point, is_exponent_mark}
use Rattle.edit_rules.specs.text_rules.Amount.{has_minus}
use Rattle.edit_rules.specs.text_rules.Amount.{without_sign, number_from, number_of, is_mantissa}
use Rattle.edit_rules.specs.text_rules.Amount.{is_exponent}
use Rattle.edit_rules.specs.text_rules.Amount.{scaled, with_sign, amount_of}
use Rattle.text_lines.specs.declared.amount.Front.{Front}
use Rattle.edit_rules.specs.text_rules.declared.TextKind.TheVariants.{BadNumber}
use Rattle.edit_rules.specs.text_rules.declared.TextKind.{TextKind}
use Rattle.text_lines.specs.Numbers.{begins, IsFront, tens_read}
use Rattle.text_lines.proofs.Tens.{room_more}

-- one digit more
pub number_more : (start : ℕ) (text : List ℕ) (i : ℕ) → i < length text
    → is_ascii_digit (get_or text i 0) ≡ true
    → number_from start (take (i + 1) text) ≡ 10 * number_from start (take i text)
    + (get_or text i 0 - 48)
number_more start text i lt digit =
    ap (number_from start) (take_more text i 0 lt)
    ∙ number-append start (take i text) (get_or text i 0 ∷ [])
    ∙ cond-true (is_ascii_digit (get_or text i 0))
    (10 * number_from start (take i text) + (get_or text i 0 - 48))
    (number_from start (take i text)) digit

-- the digits at the front that were read so far, if at most so many are read
pub record AreRead (start most : ℕ) (text : List ℕ) (i number : ℕ) : Type 0 where
  pub digits : list_all is_ascii_digit (take i text) ≡ true
  pub value : number ≡ number_from start (take i text)
  pub few : i ≤ most
  pub room : (number + 1) * 10 ^ (most - i) ≤ (start + 1) * 10 ^ most

pub none_read : (start most : ℕ) (text : List ℕ) → AreRead start most text 0 start
none_read start most text =
    let same : (start + 1) * 10 ^ (most - 0) ≡ (start + 1) * 10 ^ most =
    ap (λ k. (start + 1) * 10 ^ k) (omega arith) in
    record { digits = refl; value = refl; few = omega arith; room = omega arith }

pub one_read : (start most : ℕ) (text : List ℕ) (i number : ℕ) → AreRead start most text i number
    → i < length text → is_ascii_digit (get_or text i 0) ≡ true → get_or text i 0 - 48 ≤ 9
    → i < most
    → AreRead start most text (i + 1) (10 * number + (get_or text i 0 - 48))
one_read start most text i number read lt digit small more =
    record {
      digits = list_all_more is_ascii_digit text i 0 lt ∙ and_from _ _ read.digits digit;
      value = ap (λ n. 10 * n + (get_or text i 0 - 48)) read.value
          ∙ sym (number_more start text i lt digit);
      few = omega arith;
      room = room_more number (get_or text i 0 - 48) most i _ small more read.room;
    }

-- digits alone
module _ (ds : List ℕ) (all : list_all is_ascii_digit ds ≡ true) where
  no_points : list_any is_point ds ≡ false
  no_points =
      none_from_all is_ascii_digit is_point (λ c is. not_mark is_ascii_digit 46 c refl is) ds all

  pub digits_pass : list_all is_digit_or_point ds ≡ true
  digits_pass =
      all_to is_ascii_digit is_digit_or_point (λ c is. ap (λ b. b || is_point c) is) ds all

  pub points_none : count_by is_point ds ≡ 0
  points_none = count_none is_point ds no_points

  pub digits_count : count_by is_ascii_digit ds ≡ length ds
  digits_count = count_all is_ascii_digit ds all

  pub behind_none : length (after_first is_point ds) ≡ 0
  behind_none = ap (λ (t : List ℕ). length t) (after_none is_point ds no_points)

-- a point among digits
module _ (ds fs : List ℕ) (front : list_all is_ascii_digit ds ≡ true)
    (behind : list_all is_ascii_digit fs ≡ true) where
  pub point_passes : list_all is_digit_or_point (ds ++ 46 ∷ fs) ≡ true
  point_passes =
      all-append is_digit_or_point ds (46 ∷ fs) (digits_pass ds front) (digits_pass fs behind)

  pub point_one : count_by is_point (ds ++ 46 ∷ fs) ≡ 1
  point_one =
      omega (
        arith,
        sum_by-append (λ c. if is_point c then 1 else 0) ds (46 ∷ fs),
        sum_by-cons (λ c. if is_point c then 1 else 0) 46 fs,
        points_none ds front,
        points_none fs behind,
      )

  pub point_count : count_by is_ascii_digit (ds ++ 46 ∷ fs) ≡ length ds + length fs
  point_count =
      omega (
        arith,
        sum_by-append (λ c. if is_ascii_digit c then 1 else 0) ds (46 ∷ fs),
        sum_by-cons (λ c. if is_ascii_digit c then 1 else 0) 46 fs,
        digits_count ds front,
        digits_count fs behind,
      )

  pub point_behind : length (after_first is_point (ds ++ 46 ∷ fs)) ≡ length fs
  point_behind =
      ap (λ (t : List ℕ). length t) (after_mark is_point ds 46 fs (no_points ds front) refl)

-- up to a byte that does not pass, nothing changes
before_one : (p : ℕ → Bool) (y : ℕ) (ys : List ℕ) → p y ≡ false
    → before_first p (y ∷ ys) ≡ y ∷ before_first p ys
before_one p y ys off = ap (λ b. take (if not b then 1 + position_or_len p ys else 0) (y ∷ ys)) off
    ∙ ap (λ n. take n (y ∷ ys)) (one-add (position_or_len p ys))

before_more : (p : ℕ → Bool) (xs : List ℕ) (y : ℕ) (ys : List ℕ) → list_any p xs ≡ false
    → p y ≡ false → before_first p (xs ++ y ∷ ys) ≡ xs ++ y ∷ before_first p ys
before_more p [] y ys none off = before_one p y ys off
before_more p (x ∷ xs) y ys none off =
    let parts : (p x ≡ false) × (list_any p xs ≡ false) = or_parts (p x) (list_any p xs) none in
    before_one p x (xs ++ y ∷ ys) parts.0
    ∙ ap (λ (zs : List ℕ). x ∷ zs) (before_more p xs y ys parts.1 off)

-- a number by its mantissa and its exponent, and by what was read of them
abbrev number_by : Bool → List ℕ → Bool → List ℕ → Result ℤ TextKind
number_by minus m marked e =
    if is_mantissa m && (not marked || is_exponent e) then with_sign minus
    (scaled (number_of m) (6 + (if has_minus e then 0 else number_of e))
    (length (after_first is_point m) + (if has_minus e then number_of e else 0)))
    else Err BadNumber

abbrev pub with_tens : Bool → ℕ → Option (ℕ × ℕ) → Result ℤ TextKind
with_tens minus number None = Err BadNumber
with_tens minus number (Some tens) = with_sign minus (scaled number tens.0 tens.1)

abbrev tens_if : ℕ → List ℕ → Bool → Option (ℕ × ℕ)
tens_if places e b =
    if b && is_exponent e then Some (
      6 + (if has_minus e then 0 else number_of e),
      places + (if has_minus e then number_of e else 0),
    ) else None

abbrev few : ℕ → Bool
few digits = nat_le 1 digits && nat_le digits 30

both : (a b minus : Bool) (n up down : ℕ)
    → (if a && b then with_sign minus (scaled n up down) else Err BadNumber)
    ≡ (if a then with_tens minus n (if b then Some (up, down) else None) else Err BadNumber)
both true true minus n up down = refl
both true false minus n up down = refl
both false b minus n up down = refl

none_at_all : (a minus : Bool) (n : ℕ)
    → Err BadNumber ≡ (if a then with_tens minus n None else Err BadNumber)
none_at_all true minus n = refl
none_at_all false minus n = refl

module _ (minus : Bool) (part : List ℕ) (digits number places : ℕ)
    (passes : list_all is_digit_or_point part ≡ true) (points : count_by is_point part ≤ 1)
    (count : count_by is_ascii_digit part ≡ digits)
    (spelt : number_of part ≡ number) (behind : length (after_first is_point part) ≡ places) where
  unmarked : list_any is_exponent_mark part ≡ false
  unmarked =
      none_from_all is_digit_or_point is_exponent_mark
      (λ c is. or_from (c == 101) (c == 69) (not_mark is_digit_or_point 101 c refl is)
      (not_mark is_digit_or_point 69 c refl is)) part passes

  abbrev read_by : Option (ℕ × ℕ) → Result ℤ TextKind
  read_by tens = if few digits then with_tens minus number tens else Err BadNumber

  -- the mantissa alone
  alone : (marked : Bool) (e : List ℕ)
      → number_by minus part marked e
      ≡ read_by
      (if not marked || is_exponent e then Some (
        6 + (if has_minus e then 0 else number_of e),
        places + (if has_minus e then number_of e else 0),
      ) else None)
  alone marked e =
      (λ i.
      if (passes i && le-leb (count_by is_point part) 1 points i && nat_le 1 (count i) && nat_le
      (count i) 30) && (not marked || is_exponent e) then with_sign minus
      (scaled (spelt i) (6 + (if has_minus e then 0 else number_of e))
      (behind i + (if has_minus e then number_of e else 0))) else Err BadNumber)
      ∙ both (few digits) (not marked || is_exponent e) minus number
      (6 + (if has_minus e then 0 else number_of e))
      (places + (if has_minus e then number_of e else 0))

  -- with one byte more than fits, it is not a mantissa
  off : (c : ℕ) (ys : List ℕ) → (digits < 31 → is_ascii_digit c ≡ false)
      → (count_by is_point part ≡ 0 → is_point c ≡ false) → is_mantissa (part ++ c ∷ ys) ≡ false
  off c ys digit point = elim (cases_lt digits 31) as (λ _. is_mantissa (part ++ c ∷ ys) ≡ false) [
    | inl lt ↦ elim (cases_Bool (is_point c)) as (λ _. is_mantissa (part ++ c ∷ ys) ≡ false) [
      | inl is
          ↦ and_left _ _ (and_left _ _ (and_right _ _ (lt-leb (count_by is_point (part ++ c ∷ ys)) 1
          (omega (
            arith,
            sum_by-append (λ c. if is_point c then 1 else 0) part (c ∷ ys),
            sum_by-cons (λ c. if is_point c then 1 else 0) c ys,
            ap {B = ℕ} (λ b. if b then 1 else 0) is,
            one is,
          )))))
      | inr other
          ↦ and_left _ _
          (and_left _ _
          (and_left _ _ (list_all-append is_digit_or_point part (c ∷ ys)
          ∙ and_right _ _ (and_left _ _ (or_from _ _ (digit lt) other)))))
    ]
    | inr le
        ↦ and_right _ _
        (lt-leb (count_by is_ascii_digit (part ++ c ∷ ys)) 30
        (omega (
          arith,
          sum_by-append (λ c. if is_ascii_digit c then 1 else 0) part (c ∷ ys),
          count,
        )))
  ] where
    one : is_point c ≡ true → 1 ≤ count_by is_point part
    one is = elim (cases_lt 0 (count_by is_point part)) as (λ _. 1 ≤ count_by is_point part) [
      | inl some ↦ some
      | inr none ↦ absurd (true≢false (sym is ∙ point (omega arith)))
    ]

  ends : (rest : List ℕ) → (digits < 31 → begins is_ascii_digit rest ≡ false)
      → (count_by is_point part ≡ 0 → begins is_point rest ≡ false)
      → number_by minus (before_first is_exponent_mark (part ++ rest))
      (list_any is_exponent_mark (part ++ rest)) (after_first is_exponent_mark (part ++ rest))
      ≡ read_by (tens_read places rest)
  ends [] digit point =
      ap (λ (body : List ℕ). number_by minus (before_first is_exponent_mark body)
      (list_any is_exponent_mark body) (after_first is_exponent_mark body)) (append-nil part)
      ∙ (λ i. number_by minus (before_none is_exponent_mark part unmarked i) (unmarked i)
      (after_none is_exponent_mark part unmarked i))
      ∙ alone false [] ∙ ap (λ k. read_by (Some (6, k))) (omega arith)
  ends (c ∷ cs) digit point =
      elim
      (cases_Bool (is_exponent_mark c)) as (λ _. number_by minus
      (before_first is_exponent_mark (part ++ c ∷ cs)) (list_any is_exponent_mark (part ++ c ∷ cs))
      (after_first is_exponent_mark (part ++ c ∷ cs)) ≡ read_by (tens_read places (c ∷ cs))) [
        | inl is ↦
            (λ i. number_by minus (before_mark is_exponent_mark part c cs unmarked is i)
            (any_mark is_exponent_mark part c cs is i)
            (after_mark is_exponent_mark part c cs unmarked is i))
            ∙ alone true cs ∙ ap (λ b. read_by (tens_if places cs b)) (sym is)
        | inr other ↦
            ap (λ (m : List ℕ). number_by minus m (list_any is_exponent_mark (part ++ c ∷ cs))
            (after_first is_exponent_mark (part ++ c ∷ cs)))
            (before_more is_exponent_mark part c cs unmarked other)
            ∙ cond-false _ _ _ (and_left _ _ (off c (before_first is_exponent_mark cs) digit point))
            ∙ none_at_all (few digits) minus number
            ∙ ap (λ b. read_by (tens_if places cs b)) (sym other)
      ]

-- a number by its front
module _ (text body : List ℕ) (front : Front) (same : body ≡ without_sign text)
    (is : IsFront body front) where
  amount_read : amount_of text
      ≡ (if few front.digits then with_tens (has_minus text) front.number
      (tens_read front.places front.rest.now) else Err BadNumber)
  amount_read =
      ap (λ (body : List ℕ). number_by (has_minus text) (before_first is_exponent_mark body)
      (list_any is_exponent_mark body) (after_first is_exponent_mark body)) (sym same ∙ is.cut)
      ∙ ends (has_minus text) is.part front.digits front.number front.places is.passes is.points
      is.digits is.number is.places front.rest.now is.digit_ends is.point_ends

  pub amount_off : (front.digits < 1) ⊎ ((1 ≤ front.digits) × (30 < front.digits))
      → amount_of text ≡ Err BadNumber
  amount_off (inl lt) = amount_read ∙ cond-false _ _ _ (and_left _ _ (lt-leb 1 front.digits lt))
  amount_off (inr far) = amount_read
      ∙ cond-false _ _ _ (and_right _ _ (lt-leb front.digits 30 far.1))

  pub amount_on : (tens : Option (ℕ × ℕ)) → 1 ≤ front.digits → front.digits ≤ 30
      → tens ≡ tens_read front.places front.rest.now
      → amount_of text ≡ with_tens (has_minus text) front.number tens
  amount_on tens some most e =
      amount_read
      ∙ (λ i. if le-leb 1 front.digits some i && le-leb front.digits 30 most i then with_tens
      (has_minus text) front.number (sym e i) else Err BadNumber)
