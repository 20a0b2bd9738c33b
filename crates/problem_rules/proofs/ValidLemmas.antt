-- A problem is valid exactly if it is well formed.
use Rattle.std.proofs.Common.{◌≡◌, ℕ, nat_lt, false, not, ◌||◌, None, List, [], length, pos, refl}
use Rattle.std.specs.Prelude.{int_lt, ◌↔◌}
use Rattle.std.proofs.lemmas.Bool.{or_parts, or_from, not-false, not_from_true, ltb-false, le-ltb}
use Rattle.problem_rules.specs.Problem.{Problem, Material, OperatingUnit, Exclusion, rates_of}
use Rattle.problem_rules.specs.Problem.{material_names, unit_names, exclusion_names}
use Rattle.problem_rules.specs.Names.{is_name, is_among}
use Rattle.problem_rules.specs.Validity.{bad_name, double_name, out_of_range, low_above_high, sign}
use Rattle.problem_rules.specs.Validity.{no_material, double_term, both_sides, empty_side}
use Rattle.problem_rules.specs.Validity.{no_product, too_many_materials, too_many_units}
use Rattle.problem_rules.specs.Validity.{too_many_exclusions, bad_exclusion, bad_payout}
use Rattle.problem_rules.specs.Validity.{is_out_of_range, is_negative, material_out_of_range}
use Rattle.problem_rules.specs.Validity.{material_negative, material_fault, materials_fault}
use Rattle.problem_rules.specs.Validity.{any_out_of_range, any_below_one, names_no_material}
use Rattle.problem_rules.specs.Validity.{repeats_material, shares_material, is_empty}
use Rattle.problem_rules.specs.Validity.{bounds_out_of_range, costs_out_of_range}
use Rattle.problem_rules.specs.Validity.{rates_out_of_range, unit_out_of_range, unit_negative}
use Rattle.problem_rules.specs.Validity.{unit_fault, units_fault, breaks_rise, bad_members}
use Rattle.problem_rules.specs.Validity.{exclusion_fault, exclusions_fault, counts_fault}
use Rattle.problem_rules.specs.Validity.{has_product, is_bad_payout, whole_fault, IsValid}
use Rattle.problem_rules.specs.WellFormed.{IsWellFormedMaterial, IsWellFormedUnit}
use Rattle.problem_rules.specs.WellFormed.{IsWellFormedExclusion, IsWellFormed}
use Rattle.problem_rules.proofs.RefusalLemmas.{or_else_parts, or_else_none, refuse_parts}
use Rattle.problem_rules.proofs.RefusalLemmas.{refuse_none}
use Rattle.problem_rules.proofs.ItemLemmas.{items_clear, items_none, all_new}
use Rattle.problem_rules.proofs.AmountLemmas.{in_range, from_range, bound, positive, payout_limit}
use Rattle.problem_rules.proofs.AmountLemmas.{good_payout}
use Rattle.problem_rules.proofs.TermLemmas.{side_formed, rates_in_range, rates_positive}
use Rattle.problem_rules.proofs.TermLemmas.{materials_known, not_empty, rising, from_rising}

material_formed : (before : List (List ℕ)) (at : ℕ) (m : Material)
    → material_fault before at m ≡ None → (is_among before m.name ≡ false) × IsWellFormedMaterial m
material_formed before at m e =
    let a = refuse_parts at bad_name (not (is_name m.name)) _ e in
    let b = refuse_parts at double_name (is_among before m.name) _ a.1 in
    let c = refuse_parts at out_of_range (material_out_of_range m) _ b.1 in
    let d = refuse_parts at low_above_high (int_lt m.upper m.lower) _ c.1 in
    let f = refuse_parts at sign (material_negative m) _ d.1 in
    let range =
    or_parts (is_out_of_range m.price || is_out_of_range m.lower) (is_out_of_range m.upper)
    c.0 in
    let first = or_parts (is_out_of_range m.price) (is_out_of_range m.lower) range.0 in
    let signs = or_parts (is_negative m.lower) (is_negative m.upper) f.0 in (
      b.0,
      record {
        named = not-false (is_name m.name) a.0;
        price_in_range = in_range m.price first.0;
        bounds =
            record {
              lower_bound = bound m.lower first.1 signs.0;
              upper_bound =
                  bound m.upper range.1 signs.1;
              ordered = d.0;
            };
      },
    )

material_clear : (before : List (List ℕ)) (at : ℕ) (m : Material) → is_among before m.name ≡ false
    → IsWellFormedMaterial m → material_fault before at m ≡ None
material_clear before at m e h =
    let low = h.bounds.lower_bound in
    let high = h.bounds.upper_bound in
    refuse_none at bad_name (not (is_name m.name)) _ (not_from_true (is_name m.name) h.named)
    (refuse_none at double_name (is_among before m.name) _ e
    (refuse_none at out_of_range (material_out_of_range m) _
    (or_from (is_out_of_range m.price || is_out_of_range m.lower) (is_out_of_range m.upper)
    (or_from (is_out_of_range m.price) (is_out_of_range m.lower)
    (from_range m.price h.price_in_range) (from_range m.lower low.in_range))
    (from_range m.upper high.in_range))
    (refuse_none at low_above_high (int_lt m.upper m.lower) _ h.bounds.ordered
    (refuse_none at sign (material_negative m) _
    (or_from (is_negative m.lower) (is_negative m.upper) low.not_negative high.not_negative)
    refl))))

unit_formed : (n : ℕ) (before : List (List ℕ)) (at : ℕ) (u : OperatingUnit)
    → unit_fault n before at u ≡ None → (is_among before u.name ≡ false) × IsWellFormedUnit n u
unit_formed n before at u e =
    let a = refuse_parts at bad_name (not (is_name u.name)) _ e in
    let b = refuse_parts at double_name (is_among before u.name) _ a.1 in
    let c = refuse_parts at out_of_range (unit_out_of_range u) _ b.1 in
    let d = refuse_parts at low_above_high (int_lt u.upper u.lower) _ c.1 in
    let f = refuse_parts at sign (unit_negative u) _ d.1 in
    let g =
    refuse_parts at no_material (names_no_material n u.inputs || names_no_material n u.outputs)
    _ f.1 in
    let h =
    refuse_parts at double_term (repeats_material u.inputs || repeats_material u.outputs) _
    g.1 in
    let j = refuse_parts at both_sides (shares_material u.inputs u.outputs) _ h.1 in
    let k = refuse_parts at empty_side (is_empty u.inputs || is_empty u.outputs) _ j.1 in
    let range =
    or_parts (bounds_out_of_range u || costs_out_of_range u) (rates_out_of_range u) c.0 in
    let range2 = or_parts (bounds_out_of_range u) (costs_out_of_range u) range.0 in
    let bounds = or_parts (is_out_of_range u.lower) (is_out_of_range u.upper) range2.0 in
    let costs =
    or_parts
    (is_out_of_range u.fix || is_out_of_range u.proportional || is_out_of_range
    u.investment_fix) (is_out_of_range u.investment_proportional) range2.1 in
    let costs2 =
    or_parts (is_out_of_range u.fix || is_out_of_range u.proportional)
    (is_out_of_range u.investment_fix) costs.0 in
    let costs3 = or_parts (is_out_of_range u.fix) (is_out_of_range u.proportional) costs2.0 in
    let rates =
    or_parts (any_out_of_range (rates_of u.inputs)) (any_out_of_range (rates_of u.outputs))
    range.1 in
    let signs =
    or_parts
    (is_negative u.lower || is_negative u.upper || is_negative u.fix || is_negative
    u.investment_fix || any_below_one (rates_of u.inputs)) (any_below_one (rates_of u.outputs))
    f.0 in
    let signs2 =
    or_parts
    (is_negative u.lower || is_negative u.upper || is_negative u.fix || is_negative
    u.investment_fix) (any_below_one (rates_of u.inputs)) signs.0 in
    let signs3 =
    or_parts (is_negative u.lower || is_negative u.upper || is_negative u.fix)
    (is_negative u.investment_fix) signs2.0 in
    let signs4 =
    or_parts (is_negative u.lower || is_negative u.upper) (is_negative u.fix) signs3.0 in
    let signs5 = or_parts (is_negative u.lower) (is_negative u.upper) signs4.0 in
    let known = or_parts (names_no_material n u.inputs) (names_no_material n u.outputs) g.0 in
    let once = or_parts (repeats_material u.inputs) (repeats_material u.outputs) h.0 in
    let some = or_parts (is_empty u.inputs) (is_empty u.outputs) k.0 in (
      b.0,
      record {
        named = not-false (is_name u.name) a.0;
        bounds =
            record {
              lower_bound = bound u.lower bounds.0 signs5.0;
              upper_bound =
                  bound u.upper bounds.1 signs5.1;
              ordered = d.0;
            };
        fix = bound u.fix costs3.0 signs4.1;
        proportional = in_range u.proportional costs3.1;
        investment_fix = bound u.investment_fix costs2.1 signs3.1;
        investment_proportional = in_range u.investment_proportional costs.1;
        inputs = side_formed n u.inputs rates.0 signs2.1 known.0 once.0 some.0;
        outputs = side_formed n u.outputs rates.1 signs.1 known.1 once.1 some.1;
        sides_apart = j.0;
      },
    )

unit_in_range : (n : ℕ) (u : OperatingUnit) → IsWellFormedUnit n u → unit_out_of_range u ≡ false
unit_in_range n u h =
    let low = h.bounds.lower_bound in
    let high = h.bounds.upper_bound in
    let ins = h.inputs.terms_formed in
    let outs = h.outputs.terms_formed in
    or_from (bounds_out_of_range u || costs_out_of_range u) (rates_out_of_range u)
    (or_from (bounds_out_of_range u) (costs_out_of_range u)
    (or_from (is_out_of_range u.lower) (is_out_of_range u.upper) (from_range u.lower low.in_range)
    (from_range u.upper high.in_range))
    (or_from
    (is_out_of_range u.fix || is_out_of_range u.proportional || is_out_of_range
    u.investment_fix) (is_out_of_range u.investment_proportional)
    (or_from (is_out_of_range u.fix || is_out_of_range u.proportional)
    (is_out_of_range u.investment_fix)
    (or_from (is_out_of_range u.fix) (is_out_of_range u.proportional)
    (from_range u.fix h.fix.in_range) (from_range u.proportional h.proportional))
    (from_range u.investment_fix h.investment_fix.in_range))
    (from_range u.investment_proportional h.investment_proportional)))
    (or_from (any_out_of_range (rates_of u.inputs)) (any_out_of_range (rates_of u.outputs))
    (rates_in_range n u.inputs ins) (rates_in_range n u.outputs outs))

unit_signed : (n : ℕ) (u : OperatingUnit) → IsWellFormedUnit n u → unit_negative u ≡ false
unit_signed n u h =
    let low = h.bounds.lower_bound in
    let high = h.bounds.upper_bound in
    or_from
    (is_negative u.lower || is_negative u.upper || is_negative u.fix || is_negative
    u.investment_fix || any_below_one (rates_of u.inputs)) (any_below_one (rates_of u.outputs))
    (or_from
    (is_negative u.lower || is_negative u.upper || is_negative u.fix || is_negative
    u.investment_fix) (any_below_one (rates_of u.inputs))
    (or_from (is_negative u.lower || is_negative u.upper || is_negative u.fix)
    (is_negative u.investment_fix)
    (or_from (is_negative u.lower || is_negative u.upper) (is_negative u.fix)
    (or_from (is_negative u.lower) (is_negative u.upper) low.not_negative high.not_negative)
    h.fix.not_negative)
    h.investment_fix.not_negative)
    (rates_positive n u.inputs h.inputs.terms_formed))
    (rates_positive n u.outputs h.outputs.terms_formed)

unit_clear : (n : ℕ) (before : List (List ℕ)) (at : ℕ) (u : OperatingUnit)
    → is_among before u.name ≡ false → IsWellFormedUnit n u → unit_fault n before at u ≡ None
unit_clear n before at u e h =
    refuse_none at bad_name (not (is_name u.name)) _ (not_from_true (is_name u.name) h.named)
    (refuse_none at double_name (is_among before u.name) _ e
    (refuse_none at out_of_range (unit_out_of_range u) _ (unit_in_range n u h)
    (refuse_none at low_above_high (int_lt u.upper u.lower) _ h.bounds.ordered
    (refuse_none at sign (unit_negative u) _ (unit_signed n u h)
    (refuse_none at no_material (names_no_material n u.inputs || names_no_material n u.outputs) _
    (or_from (names_no_material n u.inputs) (names_no_material n u.outputs)
    (materials_known n u.inputs h.inputs.terms_formed)
    (materials_known n u.outputs h.outputs.terms_formed))
    (refuse_none at double_term (repeats_material u.inputs || repeats_material u.outputs) _
    (or_from (repeats_material u.inputs) (repeats_material u.outputs) h.inputs.once
    h.outputs.once)
    (refuse_none at both_sides (shares_material u.inputs u.outputs) _ h.sides_apart
    (refuse_none at empty_side (is_empty u.inputs || is_empty u.outputs) _
    (or_from (is_empty u.inputs) (is_empty u.outputs) (not_empty u.inputs h.inputs.some)
    (not_empty u.outputs h.outputs.some)) refl))))))))

exclusion_formed : (n : ℕ) (before : List (List ℕ)) (at : ℕ) (x : Exclusion)
    → exclusion_fault n before at x ≡ None → (is_among before x.name ≡ false)
    × IsWellFormedExclusion n x
exclusion_formed n before at x e =
    let a = refuse_parts at bad_name (not (is_name x.name)) _ e in
    let b = refuse_parts at double_name (is_among before x.name) _ a.1 in
    let c = refuse_parts at bad_exclusion (bad_members n x) _ b.1 in
    let d = or_parts (nat_lt (length x.units) 2) (breaks_rise n 0 x.units) c.0 in (
      b.0,
      record {
        named = not-false (is_name x.name) a.0;
        enough =
            ltb-false (length x.units) 2 d.0;
        rising = rising n 0 x.units d.1;
      },
    )

exclusion_clear : (n : ℕ) (before : List (List ℕ)) (at : ℕ) (x : Exclusion)
    → is_among before x.name ≡ false → IsWellFormedExclusion n x
    → exclusion_fault n before at x ≡ None
exclusion_clear n before at x e h =
    refuse_none at bad_name (not (is_name x.name)) _ (not_from_true (is_name x.name) h.named)
    (refuse_none at double_name (is_among before x.name) _ e
    (refuse_none at bad_exclusion (bad_members n x) _
    (or_from (nat_lt (length x.units) 2) (breaks_rise n 0 x.units)
    (le-ltb (length x.units) 2 h.enough) (from_rising n 0 x.units h.rising)) refl))

pub well_formed_from_valid : (p : Problem) → IsValid p → IsWellFormed p
well_formed_from_valid p e =
    let n = length p.materials in
    let k = length p.units in
    let a = or_else_parts (counts_fault p) _ e in
    let b = or_else_parts (materials_fault [] 0 p.materials) _ a.1 in
    let c = or_else_parts (units_fault n [] 0 p.units) _ b.1 in
    let d = or_else_parts (exclusions_fault k [] 0 p.exclusions) (whole_fault p) c.1 in
    let few = refuse_parts 256 too_many_materials (nat_lt 256 n) _ a.0 in
    let few2 = refuse_parts 128 too_many_units (nat_lt 128 k) _ few.1 in
    let few3 = refuse_parts 64 too_many_exclusions (nat_lt 64 (length p.exclusions)) _ few2.1 in
    let some = refuse_parts 0 no_product (not (has_product p.materials)) _ d.1 in
    let years = refuse_parts 0 bad_payout (is_bad_payout p.payout) _ some.1 in
    let pay = or_parts (int_lt p.payout (pos 1)) (int_lt (pos 100) p.payout) years.0 in
    let pay_positive = positive p.payout pay.0 in
    let ms =
    items_clear (λ (m : Material). m.name) material_fault IsWellFormedMaterial material_formed
    material_clear [] 0 p.materials b.0 in
    let us =
    items_clear (λ (u : OperatingUnit). u.name) (unit_fault n) (IsWellFormedUnit n)
    (unit_formed n) (unit_clear n) [] 0 p.units c.0 in
    let xs =
    items_clear (λ (x : Exclusion). x.name) (exclusion_fault k) (IsWellFormedExclusion k)
    (exclusion_formed k) (exclusion_clear k) [] 0 p.exclusions d.0 in
    record {
      few_materials = ltb-false 256 n few.0;
      few_units = ltb-false 128 k few2.0;
      few_exclusions = ltb-false 64 (length p.exclusions) few3.0;
      materials_formed = ms.good;
      units_formed = us.good;
      exclusions_formed = xs.good;
      materials_apart = ms.apart;
      units_apart = us.apart;
      exclusions_apart = xs.apart;
      with_product = not-false (has_product p.materials) some.0;
      payout_positive = pay_positive;
      payout_limit = payout_limit p.payout pay_positive pay.1;
    }

pub valid_from_well_formed : (p : Problem) → IsWellFormed p → IsValid p
valid_from_well_formed p h =
    let n = length p.materials in
    let k = length p.units in
    or_else_none (counts_fault p) _
    (refuse_none 256 too_many_materials (nat_lt 256 n) _ (le-ltb 256 n h.few_materials)
    (refuse_none 128 too_many_units (nat_lt 128 k) _ (le-ltb 128 k h.few_units)
    (refuse_none 64 too_many_exclusions (nat_lt 64 (length p.exclusions)) _
    (le-ltb 64 (length p.exclusions) h.few_exclusions) refl)))
    (or_else_none (materials_fault [] 0 p.materials) _
    (items_none (λ (m : Material). m.name) material_fault IsWellFormedMaterial material_formed
    material_clear [] 0 p.materials
    (record {
      good = h.materials_formed;
      apart = h.materials_apart;
      new =
          all_new (material_names p.materials);
    }))
    (or_else_none (units_fault n [] 0 p.units) _
    (items_none (λ (u : OperatingUnit). u.name) (unit_fault n) (IsWellFormedUnit n) (unit_formed n)
    (unit_clear n) [] 0 p.units
    (record { good = h.units_formed; apart = h.units_apart; new = all_new (unit_names p.units) }))
    (or_else_none (exclusions_fault k [] 0 p.exclusions) (whole_fault p)
    (items_none (λ (x : Exclusion). x.name) (exclusion_fault k) (IsWellFormedExclusion k)
    (exclusion_formed k) (exclusion_clear k) [] 0 p.exclusions
    (record {
      good = h.exclusions_formed;
      apart = h.exclusions_apart;
      new =
          all_new (exclusion_names p.exclusions);
    }))
    (refuse_none 0 no_product (not (has_product p.materials)) _
    (not_from_true (has_product p.materials) h.with_product)
    (refuse_none 0 bad_payout (is_bad_payout p.payout) _
    (good_payout p.payout h.payout_positive h.payout_limit) refl)))))

pub valid_is_well_formed : (p : Problem) → IsValid p ↔ IsWellFormed p
valid_is_well_formed p = (well_formed_from_valid p, valid_from_well_formed p)
