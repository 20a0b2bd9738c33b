-- Tokens of sets of units.
use Rattle.std.proofs.Common.{◌≡◌, ◌≤◌, ◌<◌, ◌==◌, ℕ, zero, suc, false, not, List, [], ◌∷◌, refl}
use Rattle.std.proofs.Common.{sym, ap, ◌∙◌, arith}
use Rattle.std.specs.Prelude.{IsUtf8, slice_index}
use Rattle.std.specs.List.{list_any}
use Rattle.std.proofs.lemmas.Bool.{ne_eqb, or_from}
use Rattle.std.proofs.lemmas.Bool.Decides.{nat_tests}
use Rattle.std.proofs.lemmas.Str.{IsUtf8-from_ascii}
use Rattle.tree_text_laws.specs.number_sets.Sets.{IsSet}
use Rattle.tree_text_laws.proofs.number_sets.Cited.{AreBelow-higher}
use Rattle.tree_text_laws.specs.pns_rules.Tokens.{digit, token_of, AreDigits}
use Rattle.cert_check.proofs.structure_list.Cited.{token_one, token_has_form}
use Rattle.tree_text_laws.specs.Codes.{IsToken}

-- ---- sets

-- a set of numbers below a lesser count
pub wider : (n : ℕ) (xs : List ℕ) → n ≤ 128 → IsSet n xs → IsSet 128 xs
wider n xs le is = record { rising = is.rising; below = AreBelow-higher n 128 xs le is.below }

-- a word is the token of one set alone
pub one_set : (n : ℕ) (word xs ys : List ℕ) → n ≤ 128 → IsSet 128 xs → IsSet n ys
    → word ≡ token_of xs → word ≡ token_of ys → xs ≡ ys
one_set n word xs ys le is is' e f = token_one xs ys is (wider n ys le is') (sym e ∙ f)

-- ---- digits

digit_from : (d : ℕ) → 48 ≤ digit d
digit_from d = grind (arith, nat_tests)

digit_ascii : (d : ℕ) → d < 16 → digit d < 128
digit_ascii d lt = grind (arith, nat_tests)

digits_ascii : (bs : List ℕ) → AreDigits bs → (i : ℕ) → slice_index bs i < 128
digits_ascii [] h i = omega arith
digits_ascii (b ∷ bs) h zero = let less = digit_ascii h.0.digit_is h.0.below in let same =
    h.0.same in omega (arith, less, same)
digits_ascii (b ∷ bs) h (suc i) = digits_ascii bs h.1 i

-- a token is a text
pub token_utf8 : (token units : List ℕ) → token ≡ token_of units → IsUtf8 token
token_utf8 token units e =
    IsUtf8-from_ascii token (digits_ascii token (token_has_form token units e).digits)

no_mark : (mark : ℕ) → mark < 48 → (bs : List ℕ) → AreDigits bs
    → list_any (λ c. c == mark) bs ≡ false
no_mark mark lt [] h = refl
no_mark mark lt (b ∷ bs) h =
    or_from (b == mark) (list_any (λ c. c == mark) bs)
    (ne_eqb b mark (λ e. let from : 48 ≤ digit h.0.digit_is = digit_from h.0.digit_is in let same =
    h.0.same in omega (arith, e, from, same, lt)))
    (no_mark mark lt bs h.1)

-- a line can have the token
pub set_is_token : (units : List ℕ) → IsToken (token_of units)
set_is_token units =
    let form = token_has_form (token_of units) units refl in
    record {
      some = ap (λ (n : ℕ). not (n == 0)) form.long;
      space = no_mark 32 (omega arith) (token_of units) form.digits;
      feed = no_mark 10 (omega arith) (token_of units) form.digits;
    }
