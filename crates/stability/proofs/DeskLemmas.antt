-- A value that is set after another one.
use Rattle.std.proofs.Common.{◌≡◌, ℕ, ◌<◌, List, set, ℤ, sym, ap, ◌∙◌, subst}
use Rattle.std.proofs.Math.ListN.{length-set}
use Rattle.std.proofs.lemmas.List.{set-set, get_or-set_same}
use Rattle.stability_laws.specs.problem_rules.Problem.{Problem, Material, OperatingUnit}
use Rattle.stability_laws.specs.problem_rules.Problem.{material_at, unit_at}
use Rattle.stability_laws.specs.problem_rules.Problem.{no_material, no_unit}
use Rattle.stability_laws.specs.problem_rules.Validity.{IsValid}
use Rattle.stability_laws.specs.report_rules.declared.spot.Spot.{Spot}
use Rattle.stability_laws.specs.report_rules.declared.spot.Spot.TheVariants.{Price, Fix}
use Rattle.stability_laws.specs.report_rules.declared.spot.Spot.TheVariants.{Proportional}
use Rattle.stability_laws.specs.report_rules.Spot.{KnowsSpot, valued, IsAllowedValue}
use Rattle.stability_laws.specs.Laws.{ValuedIsValid}

-- the later one alone is there
valued_again : (p : Problem) (spot : Spot) → KnowsSpot p spot → (v w : ℤ)
    → valued (valued p spot v) spot w ≡ valued p spot w
valued_again p (Price x) known v w =
    let m : Material = record (material_at p x) { price = v } in
    ap (λ (n : Material). record p {
      materials =
          set (set p.materials x m) x (record n { price = w });
    })
    (get_or-set_same p.materials x m no_material known)
    ∙ ap (λ (ms : List Material). record p { materials = ms })
    (set-set p.materials x m (record (material_at p x) { price = w }))
valued_again p (Fix u) known v w =
    let m : OperatingUnit = record (unit_at p u) { fix = v } in
    ap (λ (n : OperatingUnit). record p { units = set (set p.units u m) u (record n { fix = w }) })
    (get_or-set_same p.units u m no_unit known)
    ∙ ap (λ (us : List OperatingUnit). record p { units = us })
    (set-set p.units u m (record (unit_at p u) { fix = w }))
valued_again p (Proportional u) known v w =
    let m : OperatingUnit = record (unit_at p u) { proportional = v } in
    ap (λ (n : OperatingUnit). record p
    { units = set (set p.units u m) u (record n { proportional = w }) })
    (get_or-set_same p.units u m no_unit known)
    ∙ ap (λ (us : List OperatingUnit). record p { units = us })
    (set-set p.units u m (record (unit_at p u) { proportional = w }))

-- and the spot is one of the problem as before
valued_knows : (p : Problem) (spot : Spot) → KnowsSpot p spot → (v : ℤ)
    → KnowsSpot (valued p spot v) spot
valued_knows p (Price x) known v =
    subst (λ (n : ℕ). x < n)
    (sym (length-set p.materials x (record (material_at p x) { price = v }))) known
valued_knows p (Fix u) known v =
    subst (λ (n : ℕ). u < n) (sym (length-set p.units u (record (unit_at p u) { fix = v }))) known
valued_knows p (Proportional u) known v =
    subst (λ (n : ℕ). u < n)
    (sym (length-set p.units u (record (unit_at p u) { proportional = v }))) known

pub set_again : (p q : Problem) (spot : Spot) → KnowsSpot p spot → (v w : ℤ) → q ≡ valued p spot v
    → valued q spot w ≡ valued p spot w
set_again p q spot known v w is = ap (λ (r : Problem). valued r spot w) is
    ∙ valued_again p spot known v w

pub set_knows : (p q : Problem) (spot : Spot) → KnowsSpot p spot → (v : ℤ) → q ≡ valued p spot v
    → KnowsSpot q spot
set_knows p q spot known v is =
    subst (λ (r : Problem). KnowsSpot r spot) (sym is) (valued_knows p spot known v)

pub set_valid : ValuedIsValid → (p q : Problem) → IsValid p → (spot : Spot) → KnowsSpot p spot
    → (v w : ℤ) → q ≡ valued p spot v → IsAllowedValue spot w
    → IsValid (valued q spot w)
set_valid law p q valid spot known v w is allowed =
    subst IsValid (sym (set_again p q spot known v w is)) (law p valid spot known w allowed)
