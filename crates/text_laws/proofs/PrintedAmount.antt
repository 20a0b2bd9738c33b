-- A printed amount is read back.
use Rattle.std.proofs.Common.{◌≡◌, ◌<◌, ◌≤◌, ◌+◌, ◌-◌, ◌*◌, ◌/◌, ◌%◌, ◌^◌, ◌||◌, ◌==◌, Bool, true}
use Rattle.std.proofs.Common.{false, not, ℕ, zero, suc, List, [], ◌∷◌, ◌++◌, length, take, drop}
use Rattle.std.proofs.Common.{count_by, decimal, Ok, Err, ℤ, pos, negsuc, unsigned_abs, refl, sym}
use Rattle.std.proofs.Common.{◌∙◌, ap, arith, append-nil, length-append, mod-eq_of_lt, pow-suc}
use Rattle.std.proofs.Common.{take_all, drop_of_length-le, le-leb, le-ltb, eqb-true, mul-div_cancel}
use Rattle.std.proofs.Common.{nat_lt, if◌then◌else◌}
use Rattle.std.specs.List.{list_all, list_any, position_or_len, before_first, after_first}
use Rattle.std.specs.Char.{is_ascii_digit}
use Rattle.std.proofs.lemmas.Bool.{cond-true, cond-false, cond_both, and_from, and_parts, or_from}
use Rattle.std.proofs.lemmas.Bool.{or_parts}
use Rattle.std.proofs.Math.Nat.{mul-mod_left}
use Rattle.std.proofs.lemmas.Nat.{pow-add}
use Rattle.std.proofs.lemmas.Fmt.{decimal_nonempty, length-decimal-le}
use Rattle.std.proofs.lemmas.List.Sums.{sum_by-append, count_by-le-length, sum_by-cons}
use Rattle.text_rules.specs.declared.TextKind.TheVariants.{BadNumber, TooLarge}
use Rattle.text_rules.specs.Amount.{is_point, is_digit_or_point, is_sign, is_exponent_mark}
use Rattle.text_rules.specs.Amount.{has_minus, without_sign, number_from, number_of, mantissa}
use Rattle.text_rules.specs.Amount.{exponent, is_mantissa, is_exponent, is_number, tens_for}
use Rattle.text_rules.specs.Amount.{tens_against, amount_limit, signed, scaled, scaled_by}
use Rattle.text_rules.specs.Amount.{with_sign, amount_of}
use Rattle.text_rules.specs.Printed.{digits, places, amount_bytes}
use Rattle.text_laws.proofs.Digits.{number-append, all-append, decimal_reads, digits_all}
use Rattle.text_laws.proofs.Digits.{number-digits, pow-pos}
use Rattle.text_laws.proofs.Cuts.{none_from_all, not_mark, after_mark}

-- a number that is whole in millionths and within the limit
whole_of : (number up down q : ℕ) → number * 10 ^ up ≡ q * 10 ^ down
    → number * 10 ^ up % 10 ^ down ≡ 0
whole_of number up down q e = ap (λ n. n % 10 ^ down) e ∙ mul-mod_left q (10 ^ down)

quotient_of : (number up down q : ℕ) → number * 10 ^ up ≡ q * 10 ^ down
    → number * 10 ^ up / 10 ^ down ≡ q
quotient_of number up down q e = ap (λ n. n / 10 ^ down) e ∙ mul-div_cancel q (pow-pos down)

scaled_whole : (number up down q : ℕ) → number * 10 ^ up ≡ q * 10 ^ down → q ≤ amount_limit
    → scaled_by number up down ≡ Ok q
scaled_whole number up down q e small =
    cond-false _ _ _ (ap (λ n. not (n == 0)) (whole_of number up down q e))
    ∙ ap (λ n. if nat_lt amount_limit n then Err TooLarge else Ok n)
    (quotient_of number up down q e)
    ∙ cond-false _ _ _ (le-ltb amount_limit q small)

length-digits : (k n : ℕ) → length (digits k n) ≡ k
length-digits zero n = refl
length-digits (suc k) n = length-append (digits k (n / 10)) ((48 + n % 10) ∷ [])
    ∙ ap (λ m. m + 1) (length-digits k (n / 10)) ∙ omega arith

-- what the places after the point say of a number of so many digits
pub record Places (k n : ℕ) (ds : List ℕ) : Type 0 where
  short : length ds ≤ k
  part : ℕ
  value : part * 10 ^ (k - length ds) ≡ n
  reads : (a : ℕ) → number_from a ds ≡ a * 10 ^ length ds + part
  all : list_all is_ascii_digit ds ≡ true

places_read : (k n : ℕ) → n < 10 ^ k → Places k n (places k n)
places_read zero n lt =
    record {
      short = omega arith;
      part = 0;
      value = omega arith;
      reads = λ a. omega arith;
      all =
          refl;
    }
places_read (suc k) n lt =
    cond_both (n % 10 == 0) (places k (n / 10)) (digits (suc k) n) (λ ds. Places (suc k) n ds)
    (less (places_read k (n / 10))) whole where
      less : (n / 10 < 10 ^ k → Places k (n / 10) (places k (n / 10))) → (n % 10 == 0) ≡ true
          → Places (suc k) n (places k (n / 10))
      less found zero_digit =
          let digit : n % 10 ≡ 0 = eqb-true (n % 10) 0 zero_digit in
          let power : 10 ^ suc k ≡ 10 ^ k * 10 = pow-suc 10 k in
          let rest : Places k (n / 10) (places k (n / 10)) = found (omega arith) in
          let len : ℕ = length (places k (n / 10)) in
          let le : len ≤ k = rest.short in
          let one : suc k - len ≡ suc (k - len) = omega arith in
          let more : 10 ^ (suc k - len) ≡ 10 ^ (k - len) * 10 =
          ap (λ j. 10 ^ j) one ∙ pow-suc 10 (k - len) in
          let tens : ℕ = 10 ^ (k - len) in
          let value : rest.part * tens ≡ n / 10 = rest.value in
          let shape : rest.part * (tens * 10) ≡ rest.part * tens * 10 = omega arith in
          record {
            short = omega arith;
            part = rest.part;
            value =
                ap (λ t. rest.part * t) more ∙ shape ∙ omega arith;
            reads = rest.reads;
            all =
                rest.all;
          }

      whole : (n % 10 == 0) ≡ false → Places (suc k) n (digits (suc k) n)
      whole other =
          let len : length (digits (suc k) n) ≡ suc k = length-digits (suc k) n in
          let none : suc k - length (digits (suc k) n) ≡ 0 = omega arith in
          record {
            short = omega arith;
            part = n;
            value = ap (λ j. n * 10 ^ j) none ∙ omega arith;
            reads = λ a. number-digits (suc k) a n ∙ ap (λ m. a * 10 ^ suc k + m) (mod-eq_of_lt lt)
                ∙ ap (λ j. a * 10 ^ j + n) (sym len);
            all = digits_all (suc k) n;
          }

-- the point and the places, or nothing
abbrev pub fraction : ℕ → List ℕ
fraction n = if n == 0 then [] else 46 ∷ places 6 n

pub record Fraction (n : ℕ) (text : List ℕ) : Type 0 where
  pub short : length text ≤ 7
  pub count : ℕ
  pub few : count ≤ 6
  pub part : ℕ
  pub value : part * 10 ^ (6 - count) ≡ n
  pub reads : (a : ℕ) → number_from a text ≡ a * 10 ^ count + part
  pub all : list_all is_digit_or_point text ≡ true
  pub points : count_by is_point text ≤ 1
  pub behind : (ds : List ℕ) → list_any is_point ds ≡ false
      → length (after_first is_point (ds ++ text)) ≡ count

digit_passes : (c : ℕ) → is_ascii_digit c ≡ true → is_digit_or_point c ≡ true
digit_passes c is = ap (λ b. b || is_point c) is

digit_no_point : (c : ℕ) → is_ascii_digit c ≡ true → is_point c ≡ false
digit_no_point c is = not_mark is_ascii_digit 46 c refl is

pub all_to : (p q : ℕ → Bool) → ((c : ℕ) → p c ≡ true → q c ≡ true) → (xs : List ℕ)
    → list_all p xs ≡ true → list_all q xs ≡ true
all_to p q each [] all = refl
all_to p q each (x ∷ xs) all =
    let parts : (p x ≡ true) × (list_all p xs ≡ true) = and_parts (p x) (list_all p xs) all in
    and_from (q x) (list_all q xs) (each x parts.0) (all_to p q each xs parts.1)

pub count_none : (p : ℕ → Bool) (xs : List ℕ) → list_any p xs ≡ false → count_by p xs ≡ 0
count_none p [] none = refl
count_none p (x ∷ xs) none =
    let parts : (p x ≡ false) × (list_any p xs ≡ false) = or_parts (p x) (list_any p xs) none in
    sum_by-cons (λ c. if p c then 1 else 0) x xs
    ∙ ap (λ b. (if b then 1 else 0) + count_by p xs) parts.0
    ∙ omega (arith, count_none p xs parts.1)

pub count_all : (p : ℕ → Bool) (xs : List ℕ) → list_all p xs ≡ true → count_by p xs ≡ length xs
count_all p [] all = refl
count_all p (x ∷ xs) all =
    let parts : (p x ≡ true) × (list_all p xs ≡ true) = and_parts (p x) (list_all p xs) all in
    sum_by-cons (λ c. if p c then 1 else 0) x xs
    ∙ ap (λ b. (if b then 1 else 0) + count_by p xs) parts.0
    ∙ omega (arith, count_all p xs parts.1)

pub place_none : {A : Type 0} (p : A → Bool) (xs : List A) → list_any p xs ≡ false
    → position_or_len p xs ≡ length xs
place_none p [] none = refl
place_none p (x ∷ xs) none =
    let parts : (p x ≡ false) × (list_any p xs ≡ false) = or_parts (p x) (list_any p xs) none in
    cond-true (not (p x)) (1 + position_or_len p xs) 0 (ap not parts.0)
    ∙ omega (arith, place_none p xs parts.1)

pub before_none : {A : Type 0} (p : A → Bool) (xs : List A) → list_any p xs ≡ false
    → before_first p xs ≡ xs
before_none p xs none = ap (λ n. take n xs) (place_none p xs none)
    ∙ take_all (length xs) xs (omega arith)

pub after_none : {A : Type 0} (p : A → Bool) (xs : List A) → list_any p xs ≡ false
    → after_first p xs ≡ []
after_none p xs none = ap (λ n. drop (n + 1) xs) (place_none p xs none)
    ∙ drop_of_length-le xs (omega arith)

pub fraction_reads : (n : ℕ) → n < 1000000 → Fraction n (fraction n)
fraction_reads n lt =
    cond_both (n == 0) [] (46 ∷ places 6 n) (λ text. Fraction n text) nothing some where
      nothing : (n == 0) ≡ true → Fraction n []
      nothing is = record {
        short = omega arith;
        count = 0;
        few = omega arith;
        part = 0;
        value = sym (eqb-true n 0 is);
        reads = λ a. omega arith;
        all = refl;
        points = omega arith;
        behind = λ ds none. ap (λ (t : List ℕ). length (after_first is_point t)) (append-nil ds)
            ∙ ap (λ (t : List ℕ). length t) (after_none is_point ds none);
      }

      some : (n == 0) ≡ false → Fraction n (46 ∷ places 6 n)
      some other =
          let ps : Places 6 n (places 6 n) = places_read 6 n lt in
          let no_points : list_any is_point (places 6 n) ≡ false =
          none_from_all is_ascii_digit is_point digit_no_point (places 6 n) ps.all in
          record {
            short = omega (arith, ps.short);
            count = length (places 6 n);
            few = ps.short;
            part = ps.part;
            value = ps.value;
            reads = ps.reads;
            all = all_to is_ascii_digit is_digit_or_point digit_passes (places 6 n) ps.all;
            points =
                omega (
                  arith,
                  sum_by-cons (λ c. if is_point c then 1 else 0) 46 (places 6 n),
                  count_none is_point (places 6 n) no_points,
                );
            behind =
                λ ds none. ap (λ (t : List ℕ). length t)
                (after_mark is_point ds 46 (places 6 n) none refl);
          }

-- digits and then a fraction
module _ (w n a : ℕ) (ds text : List ℕ) (some : 0 < length ds) (short : length ds ≤ 20)
    (all : list_all is_ascii_digit ds ≡ true) (value : number_from 0 ds ≡ w) (f : Fraction n text)
    (sum : w * 1000000 + n ≡ a) (small : a ≤ amount_limit) where
  marks : list_any is_exponent_mark (ds ++ text) ≡ false
  marks =
      none_from_all is_digit_or_point is_exponent_mark
      (λ c is. or_from (c == 101) (c == 69) (not_mark is_digit_or_point 101 c refl is)
      (not_mark is_digit_or_point 69 c refl is))
      (ds ++ text)
      (all-append is_digit_or_point ds text
      (all_to is_ascii_digit is_digit_or_point digit_passes ds all) f.all)

  points : count_by is_point (ds ++ text) ≤ 1
  points =
      omega (
        arith,
        sum_by-append (λ c. if is_point c then 1 else 0) ds text,
        count_none is_point ds (none_from_all is_ascii_digit is_point digit_no_point ds all),
        f.points,
      )

  mantissa_good : is_mantissa (ds ++ text) ≡ true
  mantissa_good =
      let count = sum_by-append (λ c. if is_ascii_digit c then 1 else 0) ds text in
      let in_front : count_by is_ascii_digit ds ≡ length ds = count_all is_ascii_digit ds all in
      let behind : count_by is_ascii_digit text ≤ length text =
      count_by-le-length is_ascii_digit text in
      let few : length text ≤ 7 = f.short in
      and_from _ _ (and_from _ _ (and_from _ _
      (all-append is_digit_or_point ds text
      (all_to is_ascii_digit is_digit_or_point digit_passes ds all) f.all)
      (le-leb (count_by is_point (ds ++ text)) 1 points))
      (le-leb 1 (count_by is_ascii_digit (ds ++ text)) (omega (arith, count))))
      (le-leb (count_by is_ascii_digit (ds ++ text)) 30 (omega (arith, count)))

  tens : scaled (number_of (ds ++ text)) 6 (f.count + 0) ≡ Ok a
  tens =
      let le : f.count ≤ 6 = f.few in
      let none : f.count + 0 - 6 ≡ 0 = omega arith in
      let up : 6 - (f.count + 0) ≡ 6 - f.count = omega arith in
      let power : 10 ^ f.count * 10 ^ (6 - f.count) ≡ 1000000 =
      sym (pow-add 10 f.count (6 - f.count)) ∙ ap (λ k. 10 ^ k) (add-all f.count le) in
      let spelt : number_of (ds ++ text) ≡ w * 10 ^ f.count + f.part =
      number-append 0 ds text ∙ ap (λ k. number_from k text) value ∙ f.reads w in
      let goal : (w * 10 ^ f.count + f.part) * 10 ^ (6 - f.count) ≡ a * 10 ^ 0 =
      expand w (10 ^ f.count) f.part (10 ^ (6 - f.count))
      ∙ ap (λ k. w * k + f.part * 10 ^ (6 - f.count)) power ∙ ap (λ k. w * 1000000 + k) f.value
      ∙ sum ∙ omega arith in
      ap (λ k. scaled k 6 (f.count + 0)) spelt
      ∙ ap (λ k. scaled_by (w * 10 ^ f.count + f.part) k (f.count + 0 - 6)) up
      ∙ ap (λ k. scaled_by (w * 10 ^ f.count + f.part) (6 - f.count) k) none
      ∙ scaled_whole (w * 10 ^ f.count + f.part) (6 - f.count) 0 a goal small where
        add-all : (j : ℕ) → j ≤ 6 → j + (6 - j) ≡ 6
        add-all j le = omega arith

        expand : (w t q s : ℕ) → (w * t + q) * s ≡ w * (t * s) + q * s
        expand w t q s = omega arith

  -- after a sign that was read
  pub signed_reads : (whole : List ℕ) → without_sign whole ≡ ds ++ text
      → amount_of whole ≡ Ok (signed (has_minus whole) a)
  signed_reads whole off =
      let front : mantissa whole ≡ ds ++ text =
      ap (before_first is_exponent_mark) off
      ∙ before_none is_exponent_mark (ds ++ text) marks in
      let rest : exponent whole ≡ [] =
      ap (after_first is_exponent_mark) off ∙ after_none is_exponent_mark (ds ++ text) marks in
      let unmarked : list_any is_exponent_mark (without_sign whole) ≡ false =
      ap (list_any is_exponent_mark) off ∙ marks in
      let good : is_number whole ≡ true =
      and_from _ _ (ap is_mantissa front ∙ mantissa_good)
      (ap (λ b. not b || is_exponent (exponent whole)) unmarked) in
      let for' : tens_for whole ≡ 6 =
      ap (λ (e : List ℕ). 6 + (if has_minus e then 0 else number_of e)) rest in
      let no_points : list_any is_point ds ≡ false =
      none_from_all is_ascii_digit is_point digit_no_point ds all in
      let against : tens_against whole ≡ f.count + 0 =
      ap (λ (m : List ℕ). length (after_first is_point m)
      + (if has_minus (exponent whole) then number_of (exponent whole) else 0)) front
      ∙ ap (λ (e : List ℕ). length (after_first is_point (ds ++ text))
      + (if has_minus e then number_of e else 0)) rest
      ∙ ap (λ k. k + 0) (f.behind ds no_points) in
      cond-true (is_number whole)
      (with_sign (has_minus whole)
      (scaled (number_of (mantissa whole)) (tens_for whole) (tens_against whole)))
      (Err BadNumber) good
      ∙ ap
      (λ m. with_sign (has_minus whole)
      (scaled (number_of m) (tens_for whole) (tens_against whole))) front
      ∙ ap
      (λ k. with_sign (has_minus whole)
      (scaled (number_of (ds ++ text)) k (tens_against whole))) for'
      ∙ ap (λ k. with_sign (has_minus whole) (scaled (number_of (ds ++ text)) 6 k)) against
      ∙ ap (with_sign (has_minus whole)) tens

-- a digit in front is no sign
plain_front : (ds text : List ℕ) → 0 < length ds → list_all is_ascii_digit ds ≡ true
    → (without_sign (ds ++ text) ≡ ds ++ text) × (has_minus (ds ++ text) ≡ false)
plain_front [] text some all = absurd (omega arith)
plain_front (d ∷ ds) text some all =
    let digit : is_ascii_digit d ≡ true =
    (and_parts (is_ascii_digit d) (list_all is_ascii_digit ds) all).0 in
    let minus : (d == 45) ≡ false = not_mark is_ascii_digit 45 d refl digit in
    let plus : (d == 43) ≡ false = not_mark is_ascii_digit 43 d refl digit in (
      cond-false (is_sign d) (ds ++ text) (d ∷ (ds ++ text))
          (or_from (d == 43) (d == 45) plus minus),
      minus,
    )

module _ (a : ℕ) (small : a ≤ amount_limit) where
  below : a / 1000000 < 2 ^ 64
  below = omega arith

  size_reads : (whole : List ℕ)
      → without_sign whole ≡ decimal (a / 1000000) ++ fraction (a % 1000000)
      → amount_of whole ≡ Ok (signed (has_minus whole) a)
  size_reads =
      signed_reads (a / 1000000) (a % 1000000) a (decimal (a / 1000000)) (fraction (a % 1000000))
      (decimal_nonempty (a / 1000000) below)
      (length-decimal-le 20 (a / 1000000) (omega arith) (omega arith) below)
      (decimal_reads (a / 1000000) below).0 (decimal_reads (a / 1000000) below).1
      (fraction_reads (a % 1000000) (omega arith)) (omega arith) small

-- reading a printed amount gives the amount
pub amounts_read_back : (z : ℤ) → unsigned_abs z ≤ amount_limit → amount_of (amount_bytes z) ≡ Ok z
amounts_read_back (pos n) small =
    let text : List ℕ = decimal (n / 1000000) ++ fraction (n % 1000000) in
    let at : amount_bytes (pos n) ≡ text =
    ap (λ b. (if b then 45 ∷ [] else []) ++ decimal (n / 1000000) ++ fraction (n % 1000000))
    (le-ltb n 0 (omega arith)) in
    let front =
    plain_front (decimal (n / 1000000)) (fraction (n % 1000000))
    (decimal_nonempty (n / 1000000) (omega arith))
    (decimal_reads (n / 1000000) (omega arith)).0 in
    ap amount_of at ∙ size_reads n small text front.0 ∙ ap (λ b. Ok (signed b n)) front.1
amounts_read_back (negsuc n) small =
    size_reads (suc n) small (45 ∷ (decimal (suc n / 1000000) ++ fraction (suc n % 1000000))) refl
