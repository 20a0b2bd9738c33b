-- The words and pieces that are printed for each item of a well formed problem.
use Rattle.std.proofs.Common.{◌<◌, ◌≤◌, ◌==◌, ◌+◌, ℕ, zero, suc, List, [], ◌∷◌, length, map}
use Rattle.std.proofs.Common.{codes}
use Rattle.std.proofs.Common.{ℤ, unsigned_abs, refl, arith}
use Rattle.std.proofs.lemmas.Bool.{cond_both}
use Rattle.text_rules.specs.problem_rules.Problem.{Kind, raw_material, intermediate, product}
use Rattle.text_rules.specs.problem_rules.Problem.{Material, Term}
use Rattle.text_rules.specs.problem_rules.Problem.{OperatingUnit}
use Rattle.text_rules.specs.Amount.{amount_limit}
use Rattle.text_rules.specs.Canonical.{field, kind_word, material_items, is_zero}
use Rattle.text_rules.specs.Canonical.{field_unless_zero}
use Rattle.text_rules.specs.Canonical.{unit_items, name_at, term_tokens}
use Rattle.text_rules.specs.Printed.{amount_bytes}
use Rattle.text_rules.specs.problem_rules.Each.{Each}
use Rattle.text_laws.proofs.Each.{each-append}
use Rattle.text_laws.proofs.Pieces.{IsPiece, word_piece}
use Rattle.text_laws.proofs.Words.{IsWord, amount_word}
use Rattle.text_rules.specs.problem_rules.WellFormed.{IsWellFormedMaterial, IsWellFormedUnit}
use Rattle.text_rules.specs.problem_rules.WellFormed.{IsWellFormedTerm}
use Rattle.text_rules.specs.problem_rules.WellFormed.{AreRisingFrom}

-- the items of a material and of a unit
piece_field : (key : List ℕ) → ((value : List ℕ) → IsPiece value → IsPiece (field key value))
    → (z : ℤ) → unsigned_abs z ≤ amount_limit → IsPiece (field key (amount_bytes z))
piece_field key build z small =
    build (amount_bytes z) (word_piece (amount_bytes z) (amount_word z small))

pub kind_piece : (kind : Kind) → IsPiece (kind_word kind)
kind_piece raw_material = record { all = refl; some = omega arith }
kind_piece intermediate = record { all = refl; some = omega arith }
kind_piece product = record { all = refl; some = omega arith }

pub material_pieces : (m : Material) → IsWellFormedMaterial m → Each IsPiece (material_items m)
material_pieces m good =
    let price : IsPiece (field (codes "price") (amount_bytes m.price)) =
    piece_field (codes "price") (λ v is. record { all = is.all; some = omega arith }) m.price
    good.price_in_range in
    let lower : IsPiece (field (codes "flow_rate_lower_bound") (amount_bytes m.lower)) =
    piece_field (codes "flow_rate_lower_bound")
    (λ v is. record { all = is.all; some = omega arith }) m.lower
    good.bounds.lower_bound.in_range in
    let upper : IsPiece (field (codes "flow_rate_upper_bound") (amount_bytes m.upper)) =
    piece_field (codes "flow_rate_upper_bound")
    (λ v is. record { all = is.all; some = omega arith }) m.upper
    good.bounds.upper_bound.in_range in
    (kind_piece m.kind, (price, (lower, (upper, tt))))

unless_zero : (key : List ℕ) (z : ℤ) → IsPiece (field key (amount_bytes z))
    → Each IsPiece (field_unless_zero key z)
unless_zero key z is =
    cond_both (is_zero z) [] (field key (amount_bytes z) ∷ []) (λ ts. Each IsPiece ts) (λ e. tt)
    (λ e. (is, tt))

pub unit_pieces : (count : ℕ) (u : OperatingUnit) → IsWellFormedUnit count u
    → Each IsPiece (unit_items u)
unit_pieces count u good =
    let lower : IsPiece (field (codes "capacity_lower_bound") (amount_bytes u.lower)) =
    piece_field (codes "capacity_lower_bound")
    (λ v is. record { all = is.all; some = omega arith }) u.lower
    good.bounds.lower_bound.in_range in
    let upper : IsPiece (field (codes "capacity_upper_bound") (amount_bytes u.upper)) =
    piece_field (codes "capacity_upper_bound")
    (λ v is. record { all = is.all; some = omega arith }) u.upper
    good.bounds.upper_bound.in_range in
    let fix : IsPiece (field (codes "fix_cost") (amount_bytes u.fix)) =
    piece_field (codes "fix_cost") (λ v is. record { all = is.all; some = omega arith }) u.fix
    good.fix.in_range in
    let proportional : IsPiece (field (codes "proportional_cost") (amount_bytes u.proportional)) =
    piece_field (codes "proportional_cost")
    (λ v is. record { all = is.all; some = omega arith }) u.proportional good.proportional in
    let one : Each IsPiece (field_unless_zero (codes "investment_fix_cost") u.investment_fix) =
    unless_zero (codes "investment_fix_cost") u.investment_fix
    (piece_field (codes "investment_fix_cost")
    (λ v is. record { all = is.all; some = omega arith }) u.investment_fix
    good.investment_fix.in_range) in
    let two : Each IsPiece
    (field_unless_zero (codes "investment_proportional_cost") u.investment_proportional) =
    unless_zero (codes "investment_proportional_cost") u.investment_proportional
    (piece_field (codes "investment_proportional_cost")
    (λ v is. record { all = is.all; some = omega arith }) u.investment_proportional
    good.investment_proportional) in (
      lower,
      (
        upper,
        (
          fix,
          (
            proportional,
            each-append IsPiece (field_unless_zero (codes "investment_fix_cost") u.investment_fix)
                (field_unless_zero (codes "investment_proportional_cost")
                u.investment_proportional) one
                two,
          ),
        ),
      ),
    )

-- what is true of each name of a list is true of the name with a given number
pub name_at_each : (P : List ℕ → Type 0) (names : List (List ℕ)) (k : ℕ) → Each P names
    → k < length names → P (name_at names k)
name_at_each P [] k each lt = absurd (omega arith)
name_at_each P (name ∷ names) zero each lt = each.0
name_at_each P (name ∷ names) (suc k) each lt = name_at_each P names k each.1 (omega arith)

-- the tokens of a term are words
pub term_words : (names : List (List ℕ)) (t : Term) → Each IsWord names
    → IsWellFormedTerm (length names) t → Each IsWord (term_tokens names t)
term_words names t each good =
    let name : IsWord (name_at names t.material) =
    name_at_each IsWord names t.material each good.known in
    cond_both (unsigned_abs t.rate == 1000000) (name_at names t.material ∷ [])
    (amount_bytes t.rate ∷ name_at names t.material ∷ []) (λ ts. Each IsWord ts)
    (λ e. (name, tt)) (λ e. (amount_word t.rate good.in_range, (name, tt)))

-- the names of the units of an exclusion
pub member_words : (names : List (List ℕ)) (low : ℕ) (units : List ℕ) → Each IsWord names
    → AreRisingFrom (length names) low units → Each IsWord (map (name_at names) units)
member_words names low [] each rising = tt
member_words names low (n ∷ units) each rising =
    (name_at_each IsWord names n each rising.1, member_words names (n + 1) units each rising.2)
