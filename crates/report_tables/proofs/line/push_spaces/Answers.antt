use Rattle.std.proofs.Common.{◌++◌, ◌∙◌, ap, List, ℕ, arith, string_bytes}
use Rattle.report_amounts.specs.report_rules.Aligned.{spaces}
use Rattle.report_tables.proofs.Walk.{space_more}
use Rattle.report_tables.proofs.line.push_spaces.Goals as goal

pub spaces-preserved : goal.spaces-preserved
spaces-preserved c =
    space_more (string_bytes c.spaces.text) (string_bytes c.push.new.self)
    (string_bytes c.args.text.now ++ spaces c.args.count) c.spaces.left (omega arith)
    (c.in_ok-push.ensures.bytes
    ∙ ap (λ (t : List ℕ). string_bytes c.spaces.text ++ t)
    (c.in_ok-push.ensures.ascii (omega arith))) c.spaces.invariant
