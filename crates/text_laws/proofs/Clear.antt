-- Lines without a fault of form, one before others, and numbers that have no fault.
use Rattle.std.proofs.Common.{◌≡◌, ◌&&◌, Bool, false, not, ℕ, List, [], ◌∷◌, find, Option, Some}
use Rattle.std.proofs.Common.{None, Ok, ℤ, pos, int_lt, refl, ◌∙◌, ap}
use Rattle.std.specs.List.{list_any}
use Rattle.std.proofs.lemmas.Bool.{cond-false, and_left, and_right}
use Rattle.text_rules.specs.problem_rules.Each.{Each}
use Rattle.text_rules.specs.declared.TextKind.{TextKind}
use Rattle.text_rules.specs.declared.TextKind.TheVariants.{BadNumber, TooFine, TooLarge, Negative}
use Rattle.text_rules.specs.Amount.{amount_of}
use Rattle.text_rules.specs.Line.{Placed}
use Rattle.text_rules.specs.Fault.{Seen, fault_or, first_fault, line_fault, seen_after}
use Rattle.text_rules.specs.Fault.{may_be_negative, value_stands, number_kinds}
use Rattle.text_laws.proofs.Each.{each-to, none_from_each}

pub find_none : {A : Type 0} (test : A → Bool) (xs : List A) → Each (λ x. test x ≡ false) xs
    → find test xs ≡ None
find_none test [] each = refl
find_none test (x ∷ xs) each = cond-false (test x) (Some x) (find test xs) each.0
    ∙ find_none test xs each.1

-- none of the items has a fault of these kinds
pub kinds_clear : {A : Type 0} (stands : TextKind → A → Bool) (kinds : List TextKind) (xs : List A)
    → Each (λ x. Each (λ kind. stands kind x ≡ false) kinds) xs
    → find (λ kind. list_any (stands kind) xs) kinds ≡ None
kinds_clear stands [] xs each = refl
kinds_clear stands (kind ∷ kinds) xs each =
    cond-false (list_any (stands kind) xs) (Some kind) (find (λ k. list_any (stands k) xs) kinds)
    (none_from_each (stands kind) xs
    (each-to (λ x. Each (λ k. stands k x ≡ false) (kind ∷ kinds)) (λ x. stands kind x ≡ false)
    (λ x good. good.0) xs each))
    ∙ kinds_clear stands kinds xs
    (each-to (λ x. Each (λ k. stands k x ≡ false) (kind ∷ kinds))
    (λ x. Each (λ k. stands k x ≡ false) kinds) (λ x good. good.1) xs each)

-- no fault at a line nor after it
pub first_clear : (seen : Seen) (line : Placed) (lines : List Placed) → line_fault seen line ≡ None
    → first_fault (seen_after seen line) lines ≡ None → first_fault seen (line ∷ lines) ≡ None
first_clear seen line lines here behind =
    ap (λ (kind : Option TextKind). fault_or line.number kind
    (first_fault (seen_after seen line) lines)) here ∙ behind

-- the number that the text is has no fault, given its key
abbrev pub IsGoodValue : List ℕ → List ℕ → Type 0
IsGoodValue key text = Each (λ kind. value_stands kind key (amount_of text) ≡ false) number_kinds

good_value : (key text : List ℕ) (z : ℤ) → amount_of text ≡ Ok z
    → (int_lt z (pos 0) && not (may_be_negative key)) ≡ false → IsGoodValue key text
good_value key text z reads sign = (
  ap (value_stands BadNumber key) reads,
  (
    ap (value_stands TooFine key) reads,
    (ap (value_stands TooLarge key) reads, (ap (value_stands Negative key) reads ∙ sign, tt)),
  ),
)

pub good_bound : (key text : List ℕ) (z : ℤ) → amount_of text ≡ Ok z → int_lt z (pos 0) ≡ false
    → IsGoodValue key text
good_bound key text z reads above =
    good_value key text z reads (and_left (int_lt z (pos 0)) (not (may_be_negative key)) above)

pub good_free : (key text : List ℕ) (z : ℤ) → amount_of text ≡ Ok z
    → not (may_be_negative key) ≡ false → IsGoodValue key text
good_free key text z reads may =
    good_value key text z reads (and_right (int_lt z (pos 0)) (not (may_be_negative key)) may)
