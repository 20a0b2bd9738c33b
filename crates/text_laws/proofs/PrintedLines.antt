-- Lines that are printed one after the other are read back.
use Rattle.std.proofs.Common.{◌≡◌, ◌+◌, ◌-◌, ◌==◌, Bool, true, false, ℕ, zero, suc, List, [], ◌∷◌}
use Rattle.std.proofs.Common.{◌++◌, length, take, drop, get_or, map, flat_map, refl, ◌∙◌, ap, arith}
use Rattle.std.proofs.Common.{append_assoc, length-append}
use Rattle.std.specs.List.{list_any, prefix_len, suffix_len, slice_split}
use Rattle.std.proofs.lemmas.Bool.{cond-false, cond-true, or_parts}
use Rattle.text_rules.specs.Blanks.{is_blank, trim}
use Rattle.text_rules.specs.Line.{without_return, without_empty_last, is_remark, without_remark}
use Rattle.text_rules.specs.Line.{lines_of, without_mark}
use Rattle.text_laws.proofs.Cuts.{split_at, take_front, trim_solid}
use Rattle.text_rules.specs.problem_rules.Each.{Each}
use Rattle.text_laws.proofs.Each.{each-to, map_same}

-- a line as it is printed: no line feed, no carriage return and no number sign, and no blank at its
-- ends
pub record IsLine (text : List ℕ) : Type 0 where
  pub feed : list_any (λ c. c == 10) text ≡ false
  pub ret : list_any (λ c. c == 13) text ≡ false
  pub sign : list_any (λ c. c == 35) text ≡ false
  pub front : prefix_len is_blank text ≡ 0
  pub back : suffix_len is_blank text ≡ 0

abbrev pub printed_line : List ℕ → List ℕ
printed_line line = line ++ 10 ∷ []

pub split_lines : (lines : List (List ℕ))
    → Each (λ line. list_any (λ c. c == 10) line ≡ false) lines
    → slice_split (λ c. c == 10) (flat_map printed_line lines) ≡ lines ++ [] ∷ []
split_lines [] each = refl
split_lines (line ∷ lines) each =
    ap (slice_split (λ c. c == 10)) (append_assoc line (10 ∷ []) (flat_map printed_line lines))
    ∙ split_at (λ c. c == 10) line 10 (flat_map printed_line lines) each.0 refl
    ∙ ap (λ ls. line ∷ ls) (split_lines lines each.1)

get_at : {A : Type 0} (xs : List A) (y d : A) → get_or (xs ++ y ∷ []) (length xs) d ≡ y
get_at [] y d = refl
get_at (x ∷ xs) y d = get_at xs y d

pub without_last : (lines : List (List ℕ)) → without_empty_last (lines ++ [] ∷ []) ≡ lines
without_last lines =
    let all : List (List ℕ) = lines ++ [] ∷ [] in
    let one : length all ≡ length lines + 1 = length-append lines ([] ∷ []) in
    let place : length all - 1 ≡ length lines = omega arith in
    let last : get_or all (length all - 1) (0 ∷ []) ≡ [] =
    ap (λ k. get_or all k (0 ∷ [])) place ∙ get_at lines [] (0 ∷ []) in
    cond-true (length (get_or all (length all - 1) (0 ∷ [])) == 0) (take (length all - 1) all) all
    (ap (λ (t : List ℕ). length t == 0) last)
    ∙ ap (λ k. take k all) place ∙ take_front {A = List ℕ} (λ _. true) lines ([] ∷ [])

at_none : (p : ℕ → Bool) → p 0 ≡ false → (xs : List ℕ) (i : ℕ) → list_any p xs ≡ false
    → p (get_or xs i 0) ≡ false
at_none p off [] i none = off
at_none p off (x ∷ xs) zero none = (or_parts (p x) (list_any p xs) none).0
at_none p off (x ∷ xs) (suc i) none = at_none p off xs i ((or_parts (p x) (list_any p xs) none).1)

-- a line without a carriage return stays as it is
line_kept : (text : List ℕ) → list_any (λ c. c == 13) text ≡ false → without_return text ≡ text
line_kept text none =
    cond-false (get_or text (length text - 1) 0 == 13) (take (length text - 1) text) text
    (at_none (λ c. c == 13) refl text (length text - 1) none)

none_behind : (p : ℕ → Bool) (n : ℕ) (xs : List ℕ) → list_any p xs ≡ false
    → list_any p (drop n xs) ≡ false
none_behind p zero xs none = none
none_behind p (suc n) [] none = none
none_behind p (suc n) (x ∷ xs) none = none_behind p n xs ((or_parts (p x) (list_any p xs) none).1)

-- a line without a number sign is no remark
no_remark : (text : List ℕ) → list_any (λ c. c == 35) text ≡ false → is_remark text ≡ false
no_remark text none =
    let blanks : ℕ = prefix_len is_blank text in
    at_none (λ c. c == 35) refl (drop blanks text) 0 (none_behind (λ c. c == 35) blanks text none)

-- a line without either stays as it is
pub plain_kept : (text : List ℕ) → list_any (λ c. c == 13) text ≡ false
    → list_any (λ c. c == 35) text ≡ false → without_remark (without_return text) ≡ text
plain_kept text ret sign = ap without_remark (line_kept text ret)
    ∙ cond-false (is_remark text) [] text (no_remark text sign)

same_line : (text : List ℕ) → IsLine text → trim (without_remark (without_return text)) ≡ text
same_line text is = ap trim (plain_kept text is.ret is.sign) ∙ trim_solid text is.front is.back

-- without a byte order mark at the start, the lines are read back
pub lines_read : (lines : List (List ℕ)) → Each IsLine lines
    → without_mark (flat_map printed_line lines) ≡ flat_map printed_line lines
    → lines_of (flat_map printed_line lines) ≡ lines
lines_read lines each plain =
    ap (λ text. map (λ part. trim (without_remark (without_return part)))
    (without_empty_last (slice_split (λ c. c == 10) text))) plain
    ∙ ap
    (λ parts. map (λ part. trim (without_remark (without_return part)))
    (without_empty_last parts))
    (split_lines lines
    (each-to IsLine (λ line. list_any (λ c. c == 10) line ≡ false) (λ line is. is.feed) lines
    each))
    ∙ ap (map (λ part. trim (without_remark (without_return part)))) (without_last lines)
    ∙ map_same (λ part. trim (without_remark (without_return part))) lines
    (each-to IsLine (λ t. trim (without_remark (without_return t)) ≡ t) same_line lines each)
