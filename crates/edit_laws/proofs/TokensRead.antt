-- What is printed of an edit's fields has no fault, and stands for them.
use Rattle.std.proofs.Common.{◌≡◌, ◌<◌, ◌≤◌, ◌&&◌, ◌^◌, Bool, true, not, ℕ, Option, Some, None}
use Rattle.std.proofs.Common.{is_some, unwrap_or, nat_le, List, [], ◌∷◌, length, decimal, Result}
use Rattle.std.proofs.Common.{Ok, ℤ, pos, negsuc, int_lt, refl, sym, ◌∙◌, ap, arith, le-leb, le-ltb}
use Rattle.std.proofs.Common.{if◌then◌else◌}
use Rattle.std.specs.Result.{result_unwrap_or}
use Rattle.std.proofs.lemmas.Bool.{cond-true, and_from, true≢false}
use Rattle.std.proofs.lemmas.Fmt.{decimal_nonempty}
use Rattle.edit_rules.specs.problem_rules.Each.{Each}
use Rattle.edit_rules.specs.problem_rules.Names.{is_name}
use Rattle.edit_rules.specs.problem_rules.Problem.{Kind, raw_material, intermediate, product}
use Rattle.edit_rules.specs.problem_rules.WellFormed.{IsInRange, IsBound}
use Rattle.edit_rules.specs.text_rules.declared.TextKind.{TextKind}
use Rattle.edit_rules.specs.text_rules.Amount.{number_of, amount_of}
use Rattle.edit_rules.specs.text_rules.Fault.{millionths}
use Rattle.edit_rules.specs.text_rules.Printed.{amount_bytes}
use Rattle.edit_rules.specs.text_rules.Canonical.{kind_word}
use Rattle.edit_rules.specs.text_rules.Value.{kind_of}
use Rattle.text_laws.proofs.Cited.{decimal_reads, decimal_whole, amounts_read_back, name_word}
use Rattle.text_laws.proofs.Cited.{amount_word}
use Rattle.edit_rules.specs.Formed.{IsName, IsPlace}
use Rattle.edit_rules.specs.declared.EditKind.{EditKind}
use Rattle.edit_rules.specs.declared.EditKind.TheVariants as kinds
use Rattle.edit_rules.specs.ScriptFault.{least, lesser, some_token, unless, name_fault, kind_fault}
use Rattle.edit_rules.specs.ScriptFault.{amount_fault, bound_fault, rate_fault, any_sign}
use Rattle.edit_rules.specs.ScriptFault.{not_negative}
use Rattle.edit_rules.specs.ScriptFault.{positive, is_whole, whole_within, place_of, place_fault}
use Rattle.edit_rules.specs.ScriptFault.{years_of, years_fault, names_fault}

-- a token with bytes has no other fault
some_is : (token : List ℕ) (kind : Option EditKind) → 0 < length token
    → some_token token kind ≡ kind
some_is [] kind some = absurd (omega arith)
some_is (c ∷ cs) kind some = refl

pub unless_true : (good : Bool) (kind : EditKind) → good ≡ true → unless good kind ≡ None
unless_true good kind is = ap (λ (b : Bool). unless b kind) is

-- no fault among faults
pub least_none : (faults : List (Option EditKind)) → Each (λ kind. kind ≡ None) faults
    → least faults ≡ None
least_none [] each = refl
least_none (kind ∷ faults) each = ap (λ (k : Option EditKind). lesser k (least faults)) each.0
    ∙ least_none faults each.1

pub name_none : (name : List ℕ) → IsName name → name_fault name ≡ None
name_none name is = some_is name (unless (is_name name) kinds.BadName) (name_word name is).some
    ∙ unless_true (is_name name) kinds.BadName is

pub names_none : (names : List (List ℕ)) → Each IsName names → names_fault names ≡ None
names_none [] each = refl
names_none (name ∷ names) each =
    ap (λ (k : Option EditKind). lesser k (names_fault names)) (name_none name each.0)
    ∙ names_none names each.1

pub kind_none : (kind : Kind) → kind_fault (kind_word kind) ≡ None
kind_none raw_material = refl
kind_none intermediate = refl
kind_none product = refl

pub kind_back : (kind : Kind) → kind_of (kind_word kind) ≡ kind
kind_back raw_material = refl
kind_back intermediate = refl
kind_back product = refl

-- amounts
pub millionths_back : (z : ℤ) → IsInRange z → millionths (amount_bytes z) ≡ z
millionths_back z small =
    ap (λ (r : Result ℤ TextKind). result_unwrap_or r (pos 0)) (amounts_read_back z small)

amount_some : (z : ℤ) → IsInRange z → 0 < length (amount_bytes z)
amount_some z small = (amount_word z small).some

pub amount_none : (z : ℤ) → IsInRange z → amount_fault (amount_bytes z) ≡ None
amount_none z small =
    some_is (amount_bytes z) (any_sign (amount_of (amount_bytes z))) (amount_some z small)
    ∙ ap any_sign (amounts_read_back z small)

pub bound_none : (z : ℤ) → IsBound z → bound_fault (amount_bytes z) ≡ None
bound_none z is =
    some_is (amount_bytes z) (not_negative (amount_of (amount_bytes z))) (amount_some z is.in_range)
    ∙ ap not_negative (amounts_read_back z is.in_range)
    ∙ ap (λ (b : Bool). unless (not b) kinds.Sign) is.not_negative

pub bound_back : (z : ℤ) → IsBound z → millionths (amount_bytes z) ≡ z
bound_back z is = millionths_back z is.in_range

positive_none : (z : ℤ) → int_lt (pos 0) z ≡ true → positive (Ok z) ≡ None
positive_none (pos n) is =
    ap (λ (b : Bool). if b then Some kinds.Sign else unless (int_lt (pos 0) (pos n)) kinds.BadTerms)
    (le-ltb n 0 (omega arith)) ∙ unless_true _ kinds.BadTerms is
positive_none (negsuc n) is = absurd (true≢false (sym is))

pub rate_none : (z : ℤ) → IsInRange z → int_lt (pos 0) z ≡ true → rate_fault (amount_bytes z) ≡ None
rate_none z small above =
    some_is (amount_bytes z) (positive (amount_of (amount_bytes z))) (amount_some z small)
    ∙ ap positive (amounts_read_back z small) ∙ positive_none z above

-- places and years
whole_back : (limit n : ℕ) → n ≤ limit → n < 2 ^ 64 → whole_within limit (decimal n) ≡ Some n
whole_back limit n le lt =
    let value : number_of (decimal n) ≡ n = (decimal_reads n lt).1 in
    cond-true (is_whole (decimal n) && nat_le (number_of (decimal n)) limit)
    (Some (number_of (decimal n))) None
    (and_from _ _ (decimal_whole n (omega (arith, lt)))
    (ap (λ (k : ℕ). nat_le k limit) value ∙ le-leb n limit le))
    ∙ ap Some value

pub place_back : (n : ℕ) → IsPlace n → place_of (decimal n) ≡ n
place_back n is =
    ap (λ (found : Option ℕ). unwrap_or found 0)
    (whole_back 4294967295 n (omega (arith, is)) (omega (arith, is)))

pub place_none : (n : ℕ) → IsPlace n → place_fault (decimal n) ≡ None
place_none n is =
    some_is (decimal n) _ (decimal_nonempty n (omega (arith, is)))
    ∙ ap (λ (found : Option ℕ). unless (is_some found) kinds.BadNumber)
    (whole_back 4294967295 n (omega (arith, is)) (omega (arith, is)))

pub years_back : (n : ℕ) → n ≤ 100 → years_of (decimal n) ≡ n
years_back n le =
    ap (λ (found : Option ℕ). unwrap_or found 0) (whole_back 100 n le (omega (arith, le)))

pub years_none : (n : ℕ) → 1 ≤ n → n ≤ 100 → years_fault (decimal n) ≡ None
years_none n some le =
    some_is (decimal n) (unless (nat_le 1 (years_of (decimal n))) kinds.BadNumber)
    (decimal_nonempty n (omega (arith, le)))
    ∙ unless_true (nat_le 1 (years_of (decimal n))) kinds.BadNumber
    (ap (nat_le 1) (years_back n le) ∙ le-leb 1 n some)
