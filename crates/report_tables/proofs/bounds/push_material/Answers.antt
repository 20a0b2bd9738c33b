use Rattle.std.proofs.Common.{◌≡◌, ◌∙◌, ◌∷◌, [], ap, sym, ℕ, ℤ, List, true, false, pos, codes}
use Rattle.std.proofs.Common.{string_bytes, SFits, rules}
use Rattle.std.specs.Int.{w64, w128}
use Rattle.std.specs.Ordering.{int_eq}
use Rattle.std.proofs.lemmas.Int.{to_z-of_z}
use Rattle.std.proofs.lemmas.Result.{on_ok_weaker}
use Rattle.text_lines.specs.problem_rules.Problem.{Material, material_at, is_raw_material}
use Rattle.report_amounts.specs.report_rules.Clash.{bound_line, uses_lower}
use Rattle.report_tables.proofs.OneBound.{no_material_line, lower_line, upper_line}
use Rattle.report_tables.proofs.Appended.{nothing_printed, same_printed}
use Rattle.report_tables.proofs.bounds.push_material.Goals as goal

pub returns-then-y-eq0 : goal.returns-then-y-eq0
returns-then-y-eq0 c =
    let f : SFits w128 c.args.y = search rules in
    let e : int_eq c.args.y (pos 0) ≡ true = search rules in
    nothing_printed (string_bytes c.args.text.now) _
    (no_material_line c.args.problem.now c.args.j c.args.lower c.args.y e)

pub returns-then-uses_lower : goal.returns-then-uses_lower
returns-then-uses_lower c =
    let p = c.args.problem.now in
    let j = c.args.j in
    let f : SFits w128 c.args.y = search rules in
    let l : SFits w64 c.args.lower = search rules in
    let g : SFits w128 c.from.result = search rules in
    let e : int_eq c.args.y (pos 0) ≡ false = search rules in
    let is : c.uses_lower.result
    ≡ uses_lower (is_raw_material (material_at p j).kind) c.args.y =
    (simp to_z-of_z at c.uses_lower.ensures)
    ∙ ap (λ (m : Material). uses_lower (is_raw_material m.kind) c.args.y)
    (c.material.view_is ∙ c.material_of-material.ensures) in
    let lower : c.from.result ≡ c.args.lower = simp to_z-of_z at c.from.ensures in
    on_ok_weaker c.push_bound.result
    (λ said. same_printed (string_bytes c.args.text.now) _ _ _ said
    (ap (λ (n : List ℕ). bound_line n (codes ": at least ") c.from.result ∷ [])
    c.material_name.ensures
    ∙ ap (λ (z : ℤ). bound_line (material_at p j).name (codes ": at least ") z ∷ []) lower
    ∙ lower_line p j c.args.lower c.args.y e (sym is ∙ c.if-uses_lower.true)))
    (simp to_z-of_z at c.push_bound.ensures)

pub returns-else-uses_lower : goal.returns-else-uses_lower
returns-else-uses_lower c =
    let p = c.args.problem.now in
    let j = c.args.j in
    let f : SFits w128 c.args.y = search rules in
    let l : SFits w64 c.material.inside.upper = search rules in
    let g : SFits w128 c.from-else-uses_lower.result = search rules in
    let e : int_eq c.args.y (pos 0) ≡ false = search rules in
    let same = c.material.view_is ∙ c.material_of-material.ensures in
    let is : c.uses_lower.result
    ≡ uses_lower (is_raw_material (material_at p j).kind) c.args.y =
    (simp to_z-of_z at c.uses_lower.ensures)
    ∙ ap (λ (m : Material). uses_lower (is_raw_material m.kind) c.args.y) same in
    let upper : c.from-else-uses_lower.result ≡ (material_at p j).upper =
    (simp to_z-of_z at c.from-else-uses_lower.ensures) ∙ ap (λ (m : Material). m.upper) same in
    on_ok_weaker c.push_bound-else-uses_lower.result
    (λ said. same_printed (string_bytes c.args.text.now) _ _ _ said
    (ap (λ (n : List ℕ). bound_line n (codes ": at most ") c.from-else-uses_lower.result ∷ [])
    c.material_name-else-uses_lower.ensures
    ∙ ap (λ (z : ℤ). bound_line (material_at p j).name (codes ": at most ") z ∷ []) upper
    ∙ upper_line p j c.args.lower c.args.y e (sym is ∙ c.if-uses_lower.false)))
    (simp to_z-of_z at c.push_bound-else-uses_lower.ensures)
