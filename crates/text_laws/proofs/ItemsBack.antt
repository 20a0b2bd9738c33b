-- A material's and a unit's line of a canonical text are read back.
use Rattle.std.proofs.Common.{◌≡◌, ◌≤◌, true, ℕ, suc, List, [], ◌∷◌, codes, Result, ℤ, pos, negsuc}
use Rattle.std.proofs.Common.{unsigned_abs, sym, ◌∙◌, ap, arith, eqb-true}
use Rattle.std.specs.Result.{result_unwrap_or}
use Rattle.std.proofs.lemmas.Bool.{cond_both}
use Rattle.text_rules.specs.problem_rules.Problem.{Kind, raw_material, intermediate, product}
use Rattle.text_rules.specs.problem_rules.Problem.{Material, Term}
use Rattle.text_rules.specs.problem_rules.Problem.{OperatingUnit}
use Rattle.text_rules.specs.problem_rules.WellFormed.{IsWellFormedMaterial, IsWellFormedUnit}
use Rattle.text_rules.specs.declared.TextKind.{TextKind}
use Rattle.text_rules.specs.Blanks.{trim}
use Rattle.text_rules.specs.Amount.{amount_limit}
use Rattle.text_rules.specs.Line.{head_of}
use Rattle.text_rules.specs.Printed.{amount_bytes}
use Rattle.text_rules.specs.Fault.{millionths}
use Rattle.text_rules.specs.Value.{Settings, settings_from, item_fields, fields_at, material_from}
use Rattle.text_rules.specs.Value.{unit_from}
use Rattle.text_rules.specs.Canonical.{is_zero, field, field_unless_zero, material_items}
use Rattle.text_rules.specs.Canonical.{unit_items}
use Rattle.text_laws.proofs.CanonicalParts.{material_text, unit_text, IsItemLine}
use Rattle.text_laws.proofs.ItemLines.{amount_trimmed, with_costs}

-- what applies if no default is given
abbrev pub built_in : Settings
built_in = settings_from []

trimmed_value : (z : ℤ) → unsigned_abs z ≤ amount_limit → millionths (trim (amount_bytes z)) ≡ z
trimmed_value z small =
    ap (λ (r : Result ℤ TextKind). result_unwrap_or r (pos 0)) (amount_trimmed z small)

-- materials and units with these amounts
abbrev with_amounts : List ℕ → Kind → ℤ → ℤ → ℤ → Material
with_amounts name kind price lower upper =
    record { name = name; kind = kind; price = price; lower = lower; upper = upper }

same_material : (name : List ℕ) (kind : Kind) (a b c a' b' c' : ℤ) → a ≡ a' → b ≡ b' → c ≡ c'
    → with_amounts name kind a b c ≡ with_amounts name kind a' b' c'
same_material name kind a b c a' b' c' one two three = cc

abbrev with_unit_amounts : List ℕ → List Term → List Term → ℤ → ℤ → ℤ → ℤ → ℤ → ℤ → OperatingUnit
with_unit_amounts name ins outs a b c d e f =
    record {
      name = name;
      lower = a;
      upper = b;
      fix = c;
      proportional = d;
      investment_fix =
          e;
      investment_proportional = f;
      inputs = ins;
      outputs = outs;
    }

same_unit : (name : List ℕ) (ins outs : List Term) (a b c d e f a' b' c' d' e' f' : ℤ) → a ≡ a'
    → b ≡ b' → c ≡ c' → d ≡ d' → e ≡ e' → f ≡ f'
    → with_unit_amounts name ins outs a b c d e f
    ≡ with_unit_amounts name ins outs a' b' c' d' e' f'
same_unit name ins outs a b c d e f a' b' c' d' e' f' one two three four five six = cc

-- a material's line
pub material_back : (m : Material) → IsWellFormedMaterial m → IsItemLine m.name (material_items m)
    → material_from built_in (head_of (material_text m)) (fields_at (material_text m)) ≡ m
material_back m good line =
    ap (λ (name : List ℕ). material_from built_in name (fields_at (material_text m))) line.head
    ∙ ap (λ (items : List (List ℕ)). material_from built_in m.name (item_fields items)) line.apart
    ∙ at m.kind where
      of_kind : Kind → Material
      of_kind kind =
          record { name = m.name; kind = kind; price = m.price; lower = m.lower; upper = m.upper }

      price : millionths (trim (amount_bytes m.price)) ≡ m.price
      price = trimmed_value m.price good.price_in_range

      lower : millionths (trim (amount_bytes m.lower)) ≡ m.lower
      lower = trimmed_value m.lower good.bounds.lower_bound.in_range

      upper : millionths (trim (amount_bytes m.upper)) ≡ m.upper
      upper = trimmed_value m.upper good.bounds.upper_bound.in_range

      at : (kind : Kind)
          → material_from built_in m.name (item_fields (material_items (of_kind kind)))
          ≡ of_kind kind
      at raw_material =
          same_material m.name raw_material _ _ _ m.price m.lower m.upper price lower upper
      at intermediate =
          same_material m.name intermediate _ _ _ m.price m.lower m.upper price lower upper
      at product = same_material m.name product _ _ _ m.price m.lower m.upper price lower upper

zero_is : (z : ℤ) → is_zero z ≡ true → pos 0 ≡ z
zero_is (pos n) e = ap pos (sym (eqb-true n 0 e))
zero_is (negsuc n) e = absurd (omega (arith, eqb-true (suc n) 0 e))

-- a unit's line, with investment costs that are printed or 0
pub unit_back : (count : ℕ) (u : OperatingUnit) → IsWellFormedUnit count u
    → IsItemLine u.name (unit_items u)
    → unit_from built_in (head_of (unit_text u)) (fields_at (unit_text u)) u.inputs u.outputs ≡ u
unit_back count u good line =
    let back : List (List ℕ) → List (List ℕ) → OperatingUnit =
    λ one two. unit_from built_in u.name (item_fields (with_costs u one two)) u.inputs
    u.outputs in
    let fix : List (List ℕ) =
    field (codes "investment_fix_cost") (amount_bytes u.investment_fix) ∷ [] in
    let proportional : List (List ℕ) =
    field (codes "investment_proportional_cost") (amount_bytes u.investment_proportional)
    ∷ [] in
    let low : millionths (trim (amount_bytes u.lower)) ≡ u.lower =
    trimmed_value u.lower good.bounds.lower_bound.in_range in
    let high : millionths (trim (amount_bytes u.upper)) ≡ u.upper =
    trimmed_value u.upper good.bounds.upper_bound.in_range in
    let cost : millionths (trim (amount_bytes u.fix)) ≡ u.fix =
    trimmed_value u.fix good.fix.in_range in
    let rate : millionths (trim (amount_bytes u.proportional)) ≡ u.proportional =
    trimmed_value u.proportional good.proportional in
    let own_cost : millionths (trim (amount_bytes u.investment_fix)) ≡ u.investment_fix =
    trimmed_value u.investment_fix good.investment_fix.in_range in
    let own_rate : millionths (trim (amount_bytes u.investment_proportional))
    ≡ u.investment_proportional =
    trimmed_value u.investment_proportional good.investment_proportional in
    let costs : (e f : ℤ) → e ≡ u.investment_fix → f ≡ u.investment_proportional
    → with_unit_amounts u.name u.inputs u.outputs (millionths (trim (amount_bytes u.lower)))
    (millionths (trim (amount_bytes u.upper))) (millionths (trim (amount_bytes u.fix)))
    (millionths (trim (amount_bytes u.proportional))) e f ≡ u =
    λ e f five six. same_unit u.name u.inputs u.outputs _ _ _ _ e f u.lower u.upper u.fix
    u.proportional u.investment_fix u.investment_proportional low high cost rate five six in
    ap (λ (name : List ℕ). unit_from built_in name (fields_at (unit_text u)) u.inputs u.outputs)
    line.head
    ∙ ap
    (λ (items : List (List ℕ)). unit_from built_in u.name (item_fields items) u.inputs
    u.outputs) line.apart
    ∙ cond_both (is_zero u.investment_fix) [] fix
    (λ one. back one
    (field_unless_zero (codes "investment_proportional_cost") u.investment_proportional) ≡ u)
    (λ zf. cond_both (is_zero u.investment_proportional) [] proportional (λ two. back [] two ≡ u)
    (λ zp. costs _ _ (zero_is u.investment_fix zf) (zero_is u.investment_proportional zp))
    (λ e. costs _ _ (zero_is u.investment_fix zf) own_rate))
    (λ e. cond_both (is_zero u.investment_proportional) [] proportional (λ two. back fix two ≡ u)
    (λ zp. costs _ _ own_cost (zero_is u.investment_proportional zp))
    (λ e. costs _ _ own_cost own_rate))
