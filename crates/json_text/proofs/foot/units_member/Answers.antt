use Rattle.std.proofs.Common.{◌<◌, ◌∙◌, sym, ap, subst, length}
use Rattle.report_rules.specs.problem_rules.Problem.{Problem}
use Rattle.report_rules.specs.Number.{Number}
use Rattle.report_rules.specs.Amounts.{unit_sum}
use Rattle.report_rules.specs.Facts.{number_member}
use Rattle.json_text.proofs.foot.units_member.Goals as goal

pub unit_sum-sum-requires : goal.unit_sum-sum-requires
unit_sum-sum-requires c u h =
    subst (λ (p : Problem). u < length p.units) (sym c.problem-problem.ensures.same)
    (c.requires u h)

pub returns : goal.returns
returns c =
    c.in_ok-member.ensures
    ∙ ap (λ (n : Number). number_member c.args.key.now n)
    (c.unit_sum-sum.ensures
    ∙ ap (λ (p : Problem). unit_sum c.args.what p c.args.network.now)
    c.problem-problem.ensures.same)
