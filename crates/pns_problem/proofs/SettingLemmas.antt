-- A problem in which one item changes, but not its name: the names stay, so the problem is built if
-- it is valid.
use Rattle.std.proofs.Common.{◌≡◌, ℕ, zero, suc, List, [], ◌∷◌, slice_index_or, slice_set, refl}
use Rattle.std.proofs.Common.{sym, ap, ◌∙◌, subst}
use Rattle.text_rules.specs.problem_rules.Problem.{Problem, Material, OperatingUnit, no_material}
use Rattle.text_rules.specs.problem_rules.Problem.{no_unit}
use Rattle.text_rules.specs.problem_rules.Problem.{material_at, unit_at, material_names, unit_names}
use Rattle.text_rules.specs.problem_rules.Validity.{IsValid}
use Rattle.pns_problem.specs.Built.{IsBuilt}

materials_named : (ms : List Material) (x : ℕ) (new : Material)
    → new.name ≡ (slice_index_or ms x no_material).name
    → material_names (slice_set ms x new) ≡ material_names ms
materials_named [] x new same = refl
materials_named (m ∷ ms) zero new same = ap (λ name. name ∷ material_names ms) same
materials_named (m ∷ ms) (suc x) new same =
    ap (λ names. m.name ∷ names) (materials_named ms x new same)

units_named : (us : List OperatingUnit) (k : ℕ) (new : OperatingUnit)
    → new.name ≡ (slice_index_or us k no_unit).name
    → unit_names (slice_set us k new) ≡ unit_names us
units_named [] k new same = refl
units_named (u ∷ us) zero new same = ap (λ name. name ∷ unit_names us) same
units_named (u ∷ us) (suc k) new same = ap (λ names. u.name ∷ names) (units_named us k new same)

abbrev pub with_material : Problem → ℕ → (Material → Material) → Problem
with_material p x change =
    record p { materials = slice_set p.materials x (change (material_at p x)) }

abbrev pub with_unit : Problem → ℕ → (OperatingUnit → OperatingUnit) → Problem
with_unit p k change = record p { units = slice_set p.units k (change (unit_at p k)) }

-- `seen` is what the contract sees of the problem `p` before the change, and `new` is the problem
-- after it
pub material_set : (p seen new : Problem) (x : ℕ) (change : Material → Material)
    (materials units : List (List ℕ))
    → ((m : Material) → (change m).name ≡ m.name) → p ≡ seen → new ≡ with_material p x change
    → IsBuilt p materials units → IsValid (with_material seen x change)
    → IsBuilt new materials units
material_set p seen new x change materials units same is to built valid =
    subst (λ (q : Problem). IsBuilt q materials units) (sym to) (record {
      valid = subst (λ (q : Problem). IsValid (with_material q x change)) (sym is) valid;
      materials_named = built.materials_named
          ∙ sym (materials_named p.materials x (change (material_at p x)) (same (material_at p x)));
      units_named = built.units_named;
    })

pub unit_set : (p seen new : Problem) (k : ℕ) (change : OperatingUnit → OperatingUnit)
    (materials units : List (List ℕ))
    → ((u : OperatingUnit) → (change u).name ≡ u.name) → p ≡ seen → new ≡ with_unit p k change
    → IsBuilt p materials units → IsValid (with_unit seen k change) → IsBuilt new materials units
unit_set p seen new k change materials units same is to built valid =
    subst (λ (q : Problem). IsBuilt q materials units) (sym to) (record {
      valid = subst (λ (q : Problem). IsValid (with_unit q k change)) (sym is) valid;
      materials_named = built.materials_named;
      units_named = built.units_named
          ∙ sym (units_named p.units k (change (unit_at p k)) (same (unit_at p k)));
    })
