use Rattle.std.proofs.Common.{◌≡◌, ◌∙◌, ◌∷◌, [], ap, sym, SFits, rules, true, false, pos, ℕ, ℤ}
use Rattle.std.proofs.Common.{List, string_bytes, codes}
use Rattle.std.specs.Prelude.{int_lt, not, ◌&&◌}
use Rattle.std.specs.Ordering.{int_eq}
use Rattle.std.specs.Int.{w64, w128}
use Rattle.std.proofs.lemmas.Int.{to_z-of_z}
use Rattle.std.proofs.lemmas.Result.{on_ok_weaker}
use Rattle.text_lines.specs.problem_rules.Problem.{OperatingUnit, unit_at}
use Rattle.report_amounts.specs.report_rules.Clash.{bound_line}
use Rattle.report_tables.proofs.OneBound.{most_line, least_line, no_unit_line}
use Rattle.report_tables.proofs.Appended.{nothing_printed, same_printed}
use Rattle.report_tables.proofs.bounds.push_unit.Goals as goal

pub returns-then-left-lt0 : goal.returns-then-left-lt0
returns-then-left-lt0 c =
    let p = c.args.problem.now in
    let u = c.args.u in
    let l : SFits w128 c.args.left = search rules in
    let w : SFits w64 c.behind-problem.inside.upper = search rules in
    let g : SFits w128 c.from-upper.result = search rules in
    let e : int_lt c.args.left (pos 0) ≡ true = search rules in
    let upper : c.from-upper.result ≡ (unit_at p u).upper =
    (simp to_z-of_z at c.from-upper.ensures)
    ∙ ap (λ (o : OperatingUnit). o.upper) (c.behind-problem.view_is ∙ c.unit_of.ensures) in
    on_ok_weaker c.push_bound.result
    (λ said. same_printed (string_bytes c.args.text.now) _ _ _ said
    (ap (λ (n : List ℕ). bound_line n (codes ": size at most ") c.from-upper.result ∷ [])
    c.unit_name-name.ensures
    ∙ ap (λ (z : ℤ). bound_line (unit_at p u).name (codes ": size at most ") z ∷ []) upper
    ∙ most_line p u c.args.low c.args.left e))
    (simp to_z-of_z at c.push_bound.ensures)

pub returns-then-uses_least : goal.returns-then-uses_least
returns-then-uses_least c =
    let p = c.args.problem.now in
    let u = c.args.u in
    let l : SFits w128 c.args.left = search rules in
    let w : SFits w128 c.args.low = search rules in
    let e : int_lt c.args.left (pos 0) ≡ false = search rules in
    let is : c.uses_least.result
    ≡ (int_lt (pos 0) c.args.left && not (int_eq c.args.low (pos 0))) =
    simp to_z-of_z at c.uses_least.ensures in
    on_ok_weaker c.push_bound-then-uses_least.result
    (λ said. same_printed (string_bytes c.args.text.now) _ _ _ said
    (ap (λ (n : List ℕ). bound_line n (codes ": size at least ") c.args.low ∷ [])
    c.unit_name-name.ensures
    ∙ least_line p u c.args.low c.args.left e (sym is ∙ c.if-uses_least.true)))
    (simp to_z-of_z at c.push_bound-then-uses_least.ensures)

pub returns-else-uses_least : goal.returns-else-uses_least
returns-else-uses_least c =
    let p = c.args.problem.now in
    let u = c.args.u in
    let l : SFits w128 c.args.left = search rules in
    let w : SFits w128 c.args.low = search rules in
    let e : int_lt c.args.left (pos 0) ≡ false = search rules in
    let is : c.uses_least.result
    ≡ (int_lt (pos 0) c.args.left && not (int_eq c.args.low (pos 0))) =
    simp to_z-of_z at c.uses_least.ensures in
    nothing_printed (string_bytes c.args.text.now) _
    (no_unit_line p u c.args.low c.args.left e (sym is ∙ c.if-uses_least.false))
