use Rattle.std.proofs.Common.{◌++◌, ◌∙◌, ap, ℕ, List, string_bytes, arith}
use Rattle.report_amounts.specs.report_rules.Report.{once_line, left_out_line}
use Rattle.report_tables.proofs.Pieces.{two_lines}
use Rattle.report_tables.proofs.foot.push_foot.Goals as goal

pub returns : goal.returns
returns c =
    let p = c.args.problem.now in
    let w = c.args.network.now in
    let t1 = string_bytes c.push_once.new.text in
    let t3 = string_bytes c.push_left_out.new.text in
    two_lines (once_line p w) (left_out_line p w) (string_bytes c.args.text.now) t1
    (string_bytes c.push.new.self) t3 (string_bytes c.push-2.new.self)
    c.in_ok-push_once.ensures (c.in_ok-push.ensures.bytes
    ∙ ap (λ (t : List ℕ). t1 ++ t) (c.in_ok-push.ensures.ascii (omega arith)))
    c.in_ok-push_left_out.ensures
    (c.in_ok-push-2.ensures.bytes
    ∙ ap (λ (t : List ℕ). t3 ++ t) (c.in_ok-push-2.ensures.ascii (omega arith)))
