-- The number that digits spell: it does not fall as more are read, and after all are read it is the
-- whole.
use Rattle.std.proofs.Common.{◌≡◌, ◌==◌, ◌&&◌, ◌||◌, ◌<◌, ◌≤◌, ◌+◌, ◌-◌, ◌*◌, ℕ, Bool, true, false}
use Rattle.std.proofs.Common.{not, Some, None, List, [], ◌∷◌, ◌++◌, length, drop, get_or}
use Rattle.std.proofs.Common.{slice_index, nat_le, if◌then◌else◌, arith, refl, ap, sym, ◌∙◌}
use Rattle.std.proofs.Common.{append-nil}
use Rattle.std.specs.List.{list_all}
use Rattle.std.specs.Str.{byte}
use Rattle.std.proofs.lemmas.Bool.{lt-leb}
use Rattle.std.proofs.lemmas.List.{at_drop_more}
use Rattle.std.specs.Char.{is_ascii_digit}
use Rattle.edit_rules.specs.text_rules.Amount.{number_from, number_of}
use Rattle.edit_rules.specs.ScriptFault.{whole_within}

one_more : (b : Bool) (n d : ℕ) → n ≤ (if b then 10 * n + d else n)
one_more true n d = omega arith
one_more false n d = omega arith

number_grows : (n : ℕ) (cs : List ℕ) → n ≤ number_from n cs
number_grows n [] = omega arith
number_grows n (c ∷ cs) =
    let here = one_more (is_ascii_digit c) n (c - 48) in
    let rest = number_grows (if is_ascii_digit c then 10 * n + (c - 48) else n) cs in
    omega (arith, here, rest)

-- above the limit it stays above
pub past_digit : (limit n : ℕ) (text : List ℕ) (i whole : ℕ) → i < length text
    → is_ascii_digit (get_or text i 0) ≡ true → limit < 10 * n + (get_or text i 0 - 48)
    → number_from n (drop i text) ≡ whole
    → None ≡ (if nat_le whole limit then Some whole else None)
past_digit limit n text i whole lt digit past e =
    let here : number_from n (drop i text)
    ≡ number_from (10 * n + (get_or text i 0 - 48)) (drop (i + 1) text) =
    at_drop_more (number_from n) text i 0 lt
    ∙ ap
    (λ b. number_from (if b then 10 * n + (get_or text i 0 - 48) else n) (drop (i + 1) text))
    digit in
    let grown = number_grows (10 * n + (get_or text i 0 - 48)) (drop (i + 1) text) in
    sym (ap (λ b. if b then Some whole else None)
    (lt-leb whole limit (omega (arith, grown, here, e))))

-- digits that are the whole text
pub short : (limit n : ℕ) (token ds rest : List ℕ) → token ≡ ds ++ rest → rest ≡ []
    → list_all is_ascii_digit ds ≡ true → n ≡ number_from 0 ds
    → (nat_le 1 (length token) && (length token == 1 || not (slice_index token 0 == byte "0")))
    ≡ true → (if nat_le n limit then Some n else None) ≡ whole_within limit token
short limit n token ds rest cut end digits value front =
    let same : token ≡ ds = cut ∙ ap (λ (t : List ℕ). ds ++ t) end ∙ append-nil ds in
    let all : list_all is_ascii_digit token ≡ true = ap (list_all is_ascii_digit) same ∙ digits in
    let spelled : number_of token ≡ n = ap number_of same ∙ sym value in
    sym (rw (all, front, spelled) refl)
