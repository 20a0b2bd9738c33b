use Rattle.std.proofs.Common.{◌≡◌, ◌∙◌, ap, map, ℕ, List, codes}
use Rattle.report_rules.specs.problem_rules.Problem.{Problem}
use Rattle.report_rules.specs.Report.{left_out}
use Rattle.report_rules.specs.Json.{member, array}
use Rattle.report_rules.specs.Facts.{unit_name}
use Rattle.json_text.proofs.foot.left_out_member.Goals as goal

pub returns : goal.returns
returns c =
    let p = c.args.site.now in
    let w = c.args.network.now in
    let same = c.problem-problem.ensures.same in
    let units : c.left_out-units.result ≡ left_out p w =
    c.left_out-units.ensures ∙ ap (λ (p : Problem). left_out p w) same in
    let names : c.in_ok-names.names.items ≡ map (unit_name p) (left_out p w) =
    c.in_ok-names.ensures ∙ (λ i. map (unit_name (same i)) (units i)) in
    c.in_ok-member.ensures
    ∙ ap (λ (v : List ℕ). member (codes "left_out") v)
    (c.in_ok-array.ensures ∙ ap array (c.deref.ensures.value ∙ names))
