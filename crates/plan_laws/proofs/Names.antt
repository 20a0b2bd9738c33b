-- The names of an expanded problem: each is a name, and its letter, its number and its period can
-- be read from it.
use Rattle.std.proofs.Common.{◌≡◌, ◌<◌, ◌≤◌, ◌+◌, ◌-◌, ◌*◌, ◌^◌, ◌==◌, ◌||◌, ◌&&◌, ℕ, suc, true}
use Rattle.std.proofs.Common.{false, nat_le, List, [], ◌∷◌, ◌++◌, length, decimal, if◌then◌else◌}
use Rattle.std.proofs.Common.{refl, ap, ◌∙◌, arith, length-append}
use Rattle.std.specs.Fmt.{digits}
use Rattle.std.specs.List.{list_all, list_any, before_first, after_first}
use Rattle.std.specs.Char.{is_ascii_digit}
use Rattle.std.specs.Str.{byte}
use Rattle.std.proofs.lemmas.Bool.{or_from, and_from, le-leb, leb-true, agree_below_at}
use Rattle.plan_rules.specs.problem_rules.Names.{is_name, begins_name, continues_name}
use Rattle.text_laws.proofs.Cited.{not_mark, none_from_all, before_mark, after_mark, all-append}
use Rattle.text_laws.proofs.Cited.{decimal_reads}
use Rattle.plan_rules.specs.text_rules.Amount.{is_point, number_from, number_of}
use Rattle.plan_rules.specs.Expanded.{numbered, numbered_in}

-- ---- names

continue : (n : ℕ) → n < 300 → list_all continues_name (decimal n) ≡ true
unfolding digits
continue n h = agree_below_at (λ i. list_all continues_name (decimal i)) (λ i. true) 300 n refl h

short : (n : ℕ) → n < 300 → length (decimal n) ≤ 3
unfolding digits
short n h =
    leb-true (length (decimal n)) 3
    (agree_below_at (λ i. nat_le (length (decimal i)) 3) (λ i. true) 300 n refl h)

continued : (c : ℕ) → begins_name c ≡ true → continues_name c ≡ true
continued c begins = ap (λ b. b || is_ascii_digit c || c == byte "-" || c == byte ".") begins

named : (c : ℕ) (rest : List ℕ) → begins_name c ≡ true → list_all continues_name rest ≡ true
    → length rest ≤ 63 → is_name (c ∷ rest) ≡ true
named c rest begins all few =
    let text : List ℕ = c ∷ rest in
    and_from (nat_le 1 (length text) && nat_le (length text) 64 && begins_name c)
    (list_all continues_name text)
    (and_from (nat_le 1 (length text) && nat_le (length text) 64) (begins_name c)
    (and_from (nat_le 1 (length text)) (nat_le (length text) 64)
    (le-leb 1 (length text) (omega arith)) (le-leb (length text) 64 (omega (arith, few))))
    begins)
    (and_from (continues_name c) (list_all continues_name rest) (continued c begins) all)

pub numbered_named : (c i : ℕ) → begins_name c ≡ true → i < 300
    → is_name (numbered (c ∷ []) i) ≡ true
numbered_named c i begins lt = let few =
    short i lt in named c (decimal i) begins (continue i lt) (omega (arith, few))

pub numbered_in_named : (c i t : ℕ) → begins_name c ≡ true → i < 300 → suc t < 300
    → is_name (numbered_in (c ∷ []) i t) ≡ true
numbered_in_named c i t begins lt less =
    let few = short i lt in
    let last = short (suc t) less in
    let long = length-append (decimal i) (46 ∷ decimal (suc t)) in
    named c (decimal i ++ 46 ∷ decimal (suc t)) begins
    (all-append continues_name (decimal i) (46 ∷ decimal (suc t)) (continue i lt)
    (continue (suc t) less)) (omega (arith, few, last, long))

-- ---- what is read from a name

abbrev pub number_in : List ℕ → ℕ
number_in text = number_of (before_first is_point text)

abbrev pub period_in : List ℕ → ℕ
period_in text = number_of (after_first is_point text)

no_point : (c : ℕ) → is_ascii_digit c ≡ true → is_point c ≡ false
no_point c digit = not_mark is_ascii_digit 46 c refl digit

behind_letter : (c i : ℕ) → is_ascii_digit c ≡ false → i < 2 ^ 64 → number_of (c ∷ decimal i) ≡ i
behind_letter c i letter lt =
    ap (λ b. number_from (if b then 10 * 0 + (c - 48) else 0) (decimal i)) letter
    ∙ (decimal_reads i lt).1

pub numbered_read : (c i : ℕ) → is_ascii_digit c ≡ false → i < 2 ^ 64
    → number_of (numbered (c ∷ []) i) ≡ i
numbered_read c i letter lt = behind_letter c i letter lt

none : (c i : ℕ) → is_point c ≡ false → i < 2 ^ 64 → list_any is_point (c ∷ decimal i) ≡ false
none c i off lt =
    or_from (is_point c) (list_any is_point (decimal i)) off
    (none_from_all is_ascii_digit is_point no_point (decimal i) (decimal_reads i lt).0)

pub number_read : (c i t : ℕ) → is_ascii_digit c ≡ false → is_point c ≡ false → i < 2 ^ 64
    → number_in (numbered_in (c ∷ []) i t) ≡ i
number_read c i t letter off lt =
    ap number_of (before_mark is_point (c ∷ decimal i) 46 (decimal (suc t)) (none c i off lt) refl)
    ∙ behind_letter c i letter lt

pub period_read : (c i t : ℕ) → is_point c ≡ false → i < 2 ^ 64 → suc t < 2 ^ 64
    → period_in (numbered_in (c ∷ []) i t) ≡ suc t
period_read c i t off lt less =
    ap number_of (after_mark is_point (c ∷ decimal i) 46 (decimal (suc t)) (none c i off lt) refl)
    ∙ (decimal_reads (suc t) less).1
