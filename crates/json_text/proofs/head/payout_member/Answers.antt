use Rattle.std.proofs.Common.{◌∙◌, ap, ℕ, codes, unsigned_abs}
use Rattle.report_rules.specs.problem_rules.Problem.{Problem}
use Rattle.report_rules.specs.Facts.{count_member}
use Rattle.json_text.proofs.head.payout_member.Goals as goal

pub returns : goal.returns
returns c =
    c.in_ok-member.ensures
    ∙ ap (λ (n : ℕ). count_member (codes "payout_period") n)
    (c.years-years.ensures ∙ ap (λ (p : Problem). unsigned_abs p.payout) c.problem.ensures.same)
