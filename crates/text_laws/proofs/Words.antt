-- Names and amounts are words: they have bytes, and all of them are bytes of names. No word is one
-- of the signs between words.
use Rattle.std.proofs.Common.{◌≡◌, ◌<◌, ◌≤◌, ◌^◌, ⊎_elim, ◌==◌, ◌/◌, ◌%◌, Bool, true, false, ℕ, suc}
use Rattle.std.proofs.Common.{List, [], ◌∷◌, ◌++◌, length, codes, bytes_eq, decimal, ℤ, pos, negsuc}
use Rattle.std.proofs.Common.{unsigned_abs, refl, sym, ap, subst, arith, length-append, leb-true}
use Rattle.std.proofs.Common.{if◌then◌else◌, le-ltb}
use Rattle.std.specs.List.{list_all, slice_split}
use Rattle.std.specs.Char.{is_ascii_digit}
use Rattle.std.proofs.lemmas.Bool.{and_parts, and_left, or_cases, or_left, or_right}
use Rattle.std.proofs.lemmas.Fmt.{decimal_nonempty}
use Rattle.text_rules.specs.problem_rules.Names.{continues_name, begins_name, is_name}
use Rattle.text_rules.specs.Amount.{is_point, is_digit_or_point, amount_limit}
use Rattle.text_rules.specs.Field.{terms_of}
use Rattle.text_rules.specs.Printed.{amount_bytes}
use Rattle.text_laws.proofs.Cuts.{not_mark}
use Rattle.text_laws.proofs.Digits.{all-append, decimal_reads}
use Rattle.text_laws.proofs.PrintedAmount.{fraction, fraction_reads, all_to}

pub record IsWord (text : List ℕ) : Type 0 where
  pub all : list_all continues_name text ≡ true
  pub some : 0 < length text

pub name_word : (text : List ℕ) → is_name text ≡ true → IsWord text
name_word text is =
    let parts = and_parts _ (list_all continues_name text) is in
    let front = and_parts _ _ parts.0 in
    let size = and_parts _ _ front.0 in
    record { all = parts.1; some = leb-true 1 (length text) size.0 }

pub digit_continues : (c : ℕ) → is_ascii_digit c ≡ true → continues_name c ≡ true
digit_continues c is = or_left _ _ (or_left _ _ (or_right (begins_name c) (is_ascii_digit c) is))

part_continues : (c : ℕ) → is_digit_or_point c ≡ true → continues_name c ≡ true
part_continues c is =
    ⊎_elim (digit_continues c) (λ point. or_right _ (c == 46) point)
    (or_cases (is_ascii_digit c) (is_point c) is)

size_word : (a : ℕ) → a ≤ amount_limit → IsWord (decimal (a / 1000000) ++ fraction (a % 1000000))
size_word a small =
    let below : a / 1000000 < 2 ^ 64 = omega arith in
    record {
      all = all-append continues_name (decimal (a / 1000000)) (fraction (a % 1000000))
          (all_to is_ascii_digit continues_name digit_continues (decimal (a / 1000000))
          (decimal_reads (a / 1000000) below).0)
          (all_to is_digit_or_point continues_name part_continues (fraction (a % 1000000))
          (fraction_reads (a % 1000000) (omega arith)).all);
      some =
          omega (
            arith,
            decimal_nonempty (a / 1000000) below,
            length-append (decimal (a / 1000000)) (fraction (a % 1000000)),
          );
    }

pub amount_word : (z : ℤ) → unsigned_abs z ≤ amount_limit → IsWord (amount_bytes z)
amount_word (pos n) small =
    subst IsWord
    (ap (λ b. (if b then 45 ∷ [] else []) ++ decimal (n / 1000000) ++ fraction (n % 1000000))
    (sym (le-ltb n 0 (omega arith)))) (size_word n small)
amount_word (negsuc n) small =
    let w : IsWord (decimal (suc n / 1000000) ++ fraction (suc n % 1000000)) =
    size_word (suc n) small in
    record { all = w.all; some = omega arith }

-- ---- signs

abbrev pub is_plus : List ℕ → Bool
is_plus token = bytes_eq token (codes "+")

abbrev pub is_arrow : List ℕ → Bool
is_arrow token = bytes_eq token (codes "=>")

pub word_no_plus : (text : List ℕ) → IsWord text → is_plus text ≡ false
word_no_plus [] is = refl
word_no_plus (c ∷ cs) is =
    let first = and_parts (continues_name c) (list_all continues_name cs) is.all in
    and_left (c == 43) (bytes_eq cs []) (not_mark continues_name 43 c refl first.0)

pub word_no_arrow : (text : List ℕ) → IsWord text → is_arrow text ≡ false
word_no_arrow [] is = refl
word_no_arrow (c ∷ cs) is =
    let first = and_parts (continues_name c) (list_all continues_name cs) is.all in
    and_left (c == 61) (bytes_eq cs (62 ∷ [])) (not_mark continues_name 61 c refl first.0)

-- the terms of a side that has tokens are what is between its signs `+`
pub terms_split : (tokens : List (List ℕ)) → 0 < length tokens
    → terms_of tokens ≡ slice_split is_plus tokens
terms_split [] some = absurd (omega arith)
terms_split (token ∷ tokens) some = refl
