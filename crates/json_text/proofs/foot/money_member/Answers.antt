use Rattle.std.proofs.Common.{◌≡◌, ◌∷◌, [], ◌∙◌, ap, ℕ, List, codes}
use Rattle.report_rules.specs.problem_rules.Problem.{Problem}
use Rattle.report_rules.specs.Json.{member, object}
use Rattle.report_rules.specs.Facts.{number_member, total}
use Rattle.json_text.proofs.foot.money_member.Goals as goal

pub returns : goal.returns
returns c =
    let sum : c.in_ok-total.total
    ≡ number_member (codes "total") (total c.args.site.now c.args.network.now) =
    c.in_ok-total.ensures
    ∙ ap (λ (p : Problem). number_member (codes "total") (total p c.args.network.now))
    c.problem.ensures.same in
    c.in_ok-member.ensures ∙ ap (λ (v : List ℕ). member (codes "money") v)
    (c.in_ok-money.ensures
    ∙ (λ i. object
    (c.in_ok-fixed.ensures i ∷ c.in_ok-proportional.ensures i ∷ c.in_ok-investment.ensures i
    ∷ c.in_ok-costs.ensures i ∷ c.in_ok-incomes.ensures i ∷ sum i ∷ [])))
