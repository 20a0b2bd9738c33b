use Rattle.std.proofs.Common.{◌≡◌, ◌∙◌, true, false, ap, SFits, ℕ, ℤ, subst, rules, IfSome, IfNone}
use Rattle.std.proofs.Common.{Some, None}
use Rattle.std.specs.Int.{w128}
use Rattle.std.proofs.lemmas.Int.{to_z-of_z}
use Rattle.flow_program.proofs.exact_numbers.Cited.{fits_from_range}
use Rattle.flow_program.specs.integer_laws.Lowest.{IsLowest}
use Rattle.flow_program.specs.integer_laws.Range.{InRange}
use Rattle.std.specs.Prelude.{unsigned_abs}
use Rattle.flow_program.specs.flow_rules.ReadFlows.{IsLcm}
use Rattle.dual_simplex.specs.Rows.{table, basis}
use Rattle.dual_simplex.specs.Choice.{columns_of}
use Rattle.dual_simplex.proofs.ValueLemmas.{next_outside}
use Rattle.dual_simplex.proofs.DenominatorLemmas.{found_next, missed_next}
use Rattle.dual_simplex.proofs.denominators.next_denominator.Goals as goal

pub returns-then-not-is_basic-clause-found : goal.returns-then-not-is_basic-clause-found
returns-then-not-is_basic-clause-found c = λ p v e.
    let f = c.ranges.den in
    let b : basis c.args.rows.now c.args.unit ≡ false = search rules in
    simp to_z-of_z (next_outside v c.args.unit c.args.den c.requires.unit b e c.requires.positive)

pub returns-clause-found : goal.returns-clause-found
returns-clause-found c =
    let r = c.args.rows.now in
    let i = c.args.unit in
    let f = c.ranges.den in
    let b : basis r i ≡ true = search rules in
    let ff : SFits w128 c.entry.result = fits_from_range _ c.entry.ensures.in_range in
    let fg : SFits w128 c.entry-2.result = fits_from_range _ c.entry-2.ensures.in_range in
    let fo : SFits w128 c.lowest_terms-own.result.1 =
    fits_from_range _ c.lowest_terms-own.ensures.second_in_range in
    let at_right : c.entry.result ≡ table r i (columns_of r) =
    c.entry.ensures.value ∙ ap (λ (k : ℕ). table r i k) c.right_at.ensures in
    let low : IsLowest c.entry.result c.entry-2.result c.lowest_terms-own.result.0
    c.lowest_terms-own.result.1 = simp to_z-of_z at c.lowest_terms-own.ensures.lowest in
    let low' : IsLowest (table r i (columns_of r)) (table r i i) c.lowest_terms-own.result.0
    c.lowest_terms-own.result.1 =
    subst
    (λ (x : ℤ). IsLowest x (table r i i) c.lowest_terms-own.result.0
    c.lowest_terms-own.result.1) at_right
    (subst
    (λ (x : ℤ). IsLowest c.entry.result x c.lowest_terms-own.result.0
    c.lowest_terms-own.result.1) c.entry-2.ensures.value low) in
    let lcm : IfSome c.checked_lcm.result
    (λ m. IsLcm (unsigned_abs c.args.den) (unsigned_abs c.lowest_terms-own.result.1)
    (unsigned_abs m)) = simp to_z-of_z at c.checked_lcm.ensures.least in
    found_next r i c.args.den c.lowest_terms-own.result.0 c.lowest_terms-own.result.1
    c.checked_lcm.result c.requires.unit b (c.requires.own i c.requires.unit b) low' lcm
    c.checked_lcm.ensures.positive

pub returns-clause-basic : goal.returns-clause-basic
returns-clause-basic c =
    let b : basis c.args.rows.now c.args.unit ≡ true = search rules in
    elim c.checked_lcm.result as (λ o. IfNone o (basis c.args.rows.now c.args.unit ≡ true))
    [ None ↦ b | Some x ↦ tt ]

pub returns-clause-past : goal.returns-clause-past
returns-clause-past c =
    let r = c.args.rows.now in
    let i = c.args.unit in
    let f = c.ranges.den in
    let b : basis r i ≡ true = search rules in
    let ff : SFits w128 c.entry.result = fits_from_range _ c.entry.ensures.in_range in
    let fg : SFits w128 c.entry-2.result = fits_from_range _ c.entry-2.ensures.in_range in
    let fo : SFits w128 c.lowest_terms-own.result.1 =
    fits_from_range _ c.lowest_terms-own.ensures.second_in_range in
    let at_right : c.entry.result ≡ table r i (columns_of r) =
    c.entry.ensures.value ∙ ap (λ (k : ℕ). table r i k) c.right_at.ensures in
    let low : IsLowest c.entry.result c.entry-2.result c.lowest_terms-own.result.0
    c.lowest_terms-own.result.1 = simp to_z-of_z at c.lowest_terms-own.ensures.lowest in
    let low' : IsLowest (table r i (columns_of r)) (table r i i) c.lowest_terms-own.result.0
    c.lowest_terms-own.result.1 =
    subst
    (λ (x : ℤ). IsLowest x (table r i i) c.lowest_terms-own.result.0
    c.lowest_terms-own.result.1) at_right
    (subst
    (λ (x : ℤ). IsLowest c.entry.result x c.lowest_terms-own.result.0
    c.lowest_terms-own.result.1) c.entry-2.ensures.value low) in
    let past : IfNone c.checked_lcm.result
    ((m : ℤ)
    → IsLcm (unsigned_abs c.args.den) (unsigned_abs c.lowest_terms-own.result.1)
    (unsigned_abs m) → ¬ InRange m) = simp to_z-of_z at c.checked_lcm.ensures.past in
    missed_next r i c.args.den c.lowest_terms-own.result.0 c.lowest_terms-own.result.1
    c.checked_lcm.result c.requires.unit b (c.requires.own i c.requires.unit b) low' past
