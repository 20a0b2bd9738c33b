use Rattle.std.proofs.Common.{◌∙◌, ◌++◌, ◌∷◌, [], ap, ℕ, List, string_bytes, arith}
use Rattle.std.specs.Prelude.{flat_map}
use Rattle.text_lines.specs.problem_rules.Problem.{unit_at}
use Rattle.report_amounts.specs.report_rules.Report.{name_behind}
use Rattle.report_tables.proofs.Pieces.{after, next_piece}
use Rattle.report_tables.proofs.foot.push_names.Goals as goal

pub loop-u-preserved : goal.loop-u-preserved
loop-u-preserved c =
    let p = c.args.problem.now in
    let u = c.in-Some.u in
    let text = string_bytes c.loop-u.text in
    let t1 = string_bytes c.push.new.self in
    let t2 = string_bytes c.push_str.new.self in
    next_piece (name_behind p) c.loop-u.u-iterator c.next.new.self u text t2
    (string_bytes c.args.text.now ++ flat_map (name_behind p) c.args.units)
    c.in-Some.ensures.steps
    (after text t1 t2 (32 ∷ []) (unit_at p u).name
    (c.in_ok-push.ensures.bytes
    ∙ ap (λ (t : List ℕ). text ++ t) (c.in_ok-push.ensures.ascii (omega arith)))
    (c.in_ok-push_str.ensures.bytes ∙ ap (λ (t : List ℕ). t1 ++ t) c.unit_name.ensures))
    c.loop-u.invariant
