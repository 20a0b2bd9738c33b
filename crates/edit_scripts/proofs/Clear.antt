-- What is true of a token without a fault.
use Rattle.std.proofs.Common.{◌≡◌, ◌≤◌, ◌&&◌, ◌*◌, ◌/◌, ◌%◌, ◌^◌, ◌-◌, ◌==◌, Bool, true, false, not}
use Rattle.std.proofs.Common.{ℕ, zero, suc, nat_lt, nat_le, Option, Some, None, List, [], ◌∷◌}
use Rattle.std.proofs.Common.{Result, Ok, Err, ℤ, pos, int_lt, unsigned_abs, refl, subst, arith}
use Rattle.std.proofs.Common.{unwrap_or, if◌then◌else◌}
use Rattle.std.specs.Result.{result_unwrap_or}
use Rattle.std.proofs.lemmas.Bool.{cond_both, and_parts, leb-true, ltb-false, lt-ltb}
use Rattle.text_lines.specs.problem_rules.Each.{Each}
use Rattle.text_lines.specs.problem_rules.Names.{is_name}
use Rattle.text_lines.specs.problem_rules.WellFormed.{IsInRange, IsBound}
use Rattle.text_lines.specs.text_rules.declared.TextKind.{TextKind}
use Rattle.text_lines.specs.text_rules.declared.TextKind.TheVariants.{BadNumber, TooFine, TooLarge}
use Rattle.text_lines.specs.text_rules.Amount.{mantissa, is_number, has_minus, number_of, tens_for}
use Rattle.text_lines.specs.text_rules.Amount.{tens_against, amount_limit, signed, scaled}
use Rattle.text_lines.specs.text_rules.Amount.{with_sign}
use Rattle.text_lines.specs.text_rules.Amount.{amount_of}
use Rattle.text_lines.specs.text_rules.Fault.{millionths}
use Rattle.text_lines.specs.edit_rules.Formed.{IsName, IsPlace, IsPayout}
use Rattle.text_lines.specs.edit_rules.declared.EditKind.{EditKind}
use Rattle.text_lines.specs.edit_rules.declared.EditKind.TheVariants as kinds
use Rattle.text_lines.specs.edit_rules.ScriptFault.{lesser, least, some_token, unless, name_fault}
use Rattle.text_lines.specs.edit_rules.ScriptFault.{bound_fault}
use Rattle.text_lines.specs.edit_rules.ScriptFault.{rate_fault, not_negative, positive, is_whole}
use Rattle.text_lines.specs.edit_rules.ScriptFault.{whole_within}
use Rattle.text_lines.specs.edit_rules.ScriptFault.{place_of, years_of, years_fault, names_fault}
use Rattle.text_lines.specs.edit_rules.Read.{told, judged}

pub err_not_ok : {A B : Type 0} (fault : B) (value : A)
    → ◌≡◌ {A = Result A B} (Err fault) (Ok value) → ⊥
err_not_ok fault value e = cc

pub ok_same : {A B : Type 0} (v w : A) → ◌≡◌ {A = Result A B} (Ok v) (Ok w) → v ≡ w
ok_same v w e = cc

pub some_not_none : (kind : EditKind) → Some kind ≡ None → ⊥
some_not_none kind e = cc

one_of_two : (b : Bool) (a c : EditKind) → (if b then Some a else Some c) ≡ None → ⊥
one_of_two true a c e = some_not_none a e
one_of_two false a c e = some_not_none c e

lesser_left : (a b : Option EditKind) → lesser a b ≡ None → a ≡ None
lesser_left None b e = refl
lesser_left (Some a) None e = e
lesser_left (Some a) (Some b) e = absurd (one_of_two _ a b e)

lesser_right : (a b : Option EditKind) → lesser a b ≡ None → b ≡ None
lesser_right None b e = e
lesser_right (Some a) None e = refl
lesser_right (Some a) (Some b) e = absurd (one_of_two _ a b e)

pub both_clear : (a b : Option EditKind) → lesser a b ≡ None → (a ≡ None) × (b ≡ None)
both_clear a b e = (lesser_left a b e, lesser_right a b e)

pub least_clear : (kinds : List (Option EditKind)) → least kinds ≡ None
    → Each (λ kind. kind ≡ None) kinds
least_clear [] e = tt
least_clear (kind ∷ kinds) e =
    (lesser_left kind (least kinds) e, least_clear kinds (lesser_right kind (least kinds) e))

told_clear : {A : Type 0} (kind : Option EditKind) (v w : A) → told kind v ≡ Ok w → kind ≡ None
told_clear None v w e = refl
told_clear (Some kind) v w e = absurd (err_not_ok kind w e)

told_same : {A : Type 0} (kind : Option EditKind) (v w : A) → told kind v ≡ Ok w → v ≡ w
told_same None v w e = ok_same v w e
told_same (Some kind) v w e = absurd (err_not_ok kind w e)

judged_clear : {A : Type 0} (faults : List (Option EditKind)) (v w : A) → judged faults v ≡ Ok w
    → Each (λ kind. kind ≡ None) faults
judged_clear faults v w e = least_clear faults (told_clear (least faults) v w e)

pub judged_same : {A : Type 0} (faults : List (Option EditKind)) (v w : A) → judged faults v ≡ Ok w
    → v ≡ w
judged_same faults v w e = told_same (least faults) v w e

-- what is read has what its tokens give if none of them has a fault
pub judged_good : {A : Type 0} (faults : List (Option EditKind)) (v w : A) (P : A → Type 0)
    → judged faults v ≡ Ok w → (Each (λ kind. kind ≡ None) faults → P v) → P w
judged_good faults v w P e good =
    subst P (judged_same faults v w e) (good (judged_clear faults v w e))

some_clear : (token : List ℕ) (kind : Option EditKind) → some_token token kind ≡ None → kind ≡ None
some_clear [] kind e = absurd (some_not_none kinds.BadLine e)
some_clear (c ∷ cs) kind e = e

pub unless_clear : (good : Bool) (kind : EditKind) → unless good kind ≡ None → good ≡ true
unless_clear true kind e = refl
unless_clear false kind e = absurd (some_not_none kind e)

pub not_clear : (bad : Bool) (kind : EditKind) → unless (not bad) kind ≡ None → bad ≡ false
not_clear false kind e = refl
not_clear true kind e = absurd (some_not_none kind e)

pub name_clear : (token : List ℕ) → name_fault token ≡ None → IsName token
name_clear token e = unless_clear (is_name token) kinds.BadName (some_clear token _ e)

pub names_clear : (tokens : List (List ℕ)) → names_fault tokens ≡ None → Each IsName tokens
names_clear [] e = tt
names_clear (token ∷ tokens) e =
    (name_clear token (lesser_left _ _ e), names_clear tokens (lesser_right _ _ e))

-- every number that is read is within the limit
signed_range : (minus : Bool) (n : ℕ) → n ≤ amount_limit
    → unsigned_abs (signed minus n) ≤ amount_limit
signed_range false n le = le
signed_range true zero le = le
signed_range true (suc n) le = le

pub range_of : (text : List ℕ) → IsInRange (millionths text)
range_of text =
    let Fine : Result ℤ TextKind → Type 0 =
    λ r. unsigned_abs (result_unwrap_or r (pos 0)) ≤ amount_limit in
    let none : 0 ≤ amount_limit = leb-true 0 amount_limit refl in
    let q : ℕ = number_of (mantissa text)
    * 10 ^ (tens_for text - tens_against text) / 10 ^ (tens_against text - tens_for text) in
    cond_both (is_number text)
    (with_sign (has_minus text)
    (scaled (number_of (mantissa text)) (tens_for text) (tens_against text))) (Err BadNumber)
    Fine
    (λ e. cond_both
    (not
    (number_of (mantissa text)
    * 10 ^ (tens_for text - tens_against text) % 10 ^ (tens_against text - tens_for text) == 0))
    (Err TooFine) (if nat_lt amount_limit q then Err TooLarge else Ok q)
    (λ r. Fine (with_sign (has_minus text) r))
    (λ e. none)
    (λ e. cond_both (nat_lt amount_limit q) (Err TooLarge) (Ok q)
    (λ r. Fine (with_sign (has_minus text) r)) (λ e. none)
    (λ small. signed_range (has_minus text) q (ltb-false amount_limit q small))))
    (λ e. none)

bound_at : (r : Result ℤ TextKind) → not_negative r ≡ None
    → int_lt (result_unwrap_or r (pos 0)) (pos 0) ≡ false
bound_at (Ok z) e = not_clear (int_lt z (pos 0)) kinds.Sign e
bound_at (Err kind) e = absurd (some_not_none _ e)

pub bound_clear : (token : List ℕ) → bound_fault token ≡ None → IsBound (millionths token)
bound_clear token e =
    record {
      in_range = range_of token;
      not_negative =
          bound_at (amount_of token) (some_clear token _ e);
    }

rate_by : (b c : Bool) → (if b then Some kinds.Sign else unless c kinds.BadTerms) ≡ None → c ≡ true
rate_by true c e = absurd (some_not_none kinds.Sign e)
rate_by false c e = unless_clear c kinds.BadTerms e

rate_at : (r : Result ℤ TextKind) → positive r ≡ None
    → int_lt (pos 0) (result_unwrap_or r (pos 0)) ≡ true
rate_at (Ok z) e = rate_by (int_lt z (pos 0)) (int_lt (pos 0) z) e
rate_at (Err kind) e = absurd (some_not_none _ e)

pub rate_clear : (token : List ℕ) → rate_fault token ≡ None
    → int_lt (pos 0) (millionths token) ≡ true
rate_clear token e = rate_at (amount_of token) (some_clear token _ e)

within : (b : Bool) (n limit : ℕ) → (b ≡ true → n ≤ limit)
    → unwrap_or (if b then Some n else None) 0 ≤ limit
within true n limit le = le refl
within false n limit le = omega arith

whole_limit : (limit : ℕ) (token : List ℕ) → unwrap_or (whole_within limit token) 0 ≤ limit
whole_limit limit token =
    within (is_whole token && nat_le (number_of token) limit) (number_of token) limit
    (λ e. leb-true (number_of token) limit
    ((and_parts (is_whole token) (nat_le (number_of token) limit) e).1))

pub place_clear : (token : List ℕ) → IsPlace (place_of token)
place_clear token = let le : place_of token ≤ 4294967295 =
    whole_limit 4294967295 token in omega (arith, le)

pub years_clear : (token : List ℕ) → years_fault token ≡ None → IsPayout (pos (years_of token))
years_clear token e =
    let some : 1 ≤ years_of token =
    leb-true 1 (years_of token)
    (unless_clear (nat_le 1 (years_of token)) kinds.BadNumber (some_clear token _ e)) in
    record { positive = lt-ltb 0 (years_of token) some; limit = whole_limit 100 token }
