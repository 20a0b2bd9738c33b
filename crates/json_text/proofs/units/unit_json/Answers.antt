use Rattle.std.proofs.Common.{◌≡◌, ◌∷◌, [], ◌∙◌, ap, ℕ, List, codes}
use Rattle.report_rules.specs.problem_rules.Problem.{unit_at}
use Rattle.report_rules.specs.Number.{Number}
use Rattle.report_rules.specs.declared.amount.UnitAmount.TheVariants.{Fixed, Proportional}
use Rattle.report_rules.specs.declared.amount.UnitAmount.TheVariants.{Investment, Total}
use Rattle.report_rules.specs.Amounts.{size, amount}
use Rattle.report_rules.specs.Marginal.{unit_marginal}
use Rattle.report_rules.specs.Report.{unit_limit}
use Rattle.report_rules.specs.Json.{object}
use Rattle.report_rules.specs.Facts.{text_member, number_member, limit_member}
use Rattle.json_text.proofs.units.unit_json.Goals as goal

pub returns : goal.returns
returns c =
    let p = c.args.problem.now in
    let w = c.args.network.now in
    let u = c.args.u in
    let m = c.args.marginals.now in
    let name : c.in_ok-name.name ≡ text_member (codes "name") (unit_at p u).name =
    c.in_ok-name.ensures
    ∙ ap (λ (t : List ℕ). text_member (codes "name") t) c.unit_name.ensures in
    let sized : c.in_ok-sized.sized ≡ number_member (codes "size") (size w u) =
    c.in_ok-sized.ensures
    ∙ ap (λ (n : Number). number_member (codes "size") n) c.size.ensures in
    let limit : c.in_ok-limit.limit ≡ limit_member (unit_limit p w u) =
    c.in_ok-limit.ensures ∙ ap (λ (t : List ℕ). limit_member t) c.unit_limit.ensures in
    let fixed : c.in_ok-fixed.fixed ≡ number_member (codes "fixed") (amount Fixed p w u) =
    c.in_ok-fixed.ensures
    ∙ ap (λ (n : Number). number_member (codes "fixed") n) c.amount-cost.ensures in
    let proportional : c.in_ok-proportional.proportional
    ≡ number_member (codes "proportional") (amount Proportional p w u) =
    c.in_ok-proportional.ensures
    ∙ ap (λ (n : Number). number_member (codes "proportional") n) c.amount-cost-2.ensures in
    let investment : c.in_ok-investment.investment
    ≡ number_member (codes "investment") (amount Investment p w u) =
    c.in_ok-investment.ensures
    ∙ ap (λ (n : Number). number_member (codes "investment") n) c.amount-cost-3.ensures in
    let total : c.in_ok-total.total ≡ number_member (codes "total") (amount Total p w u) =
    c.in_ok-total.ensures
    ∙ ap (λ (n : Number). number_member (codes "total") n) c.amount-cost-4.ensures in
    let saved : c.in_ok-saved.saved ≡ number_member (codes "marginal") (unit_marginal p m u) =
    c.in_ok-saved.ensures
    ∙ ap (λ (n : Number). number_member (codes "marginal") n) c.of_unit.ensures in
    c.in_ok-json.ensures
    ∙ (λ i. object
    (name i ∷ sized i ∷ c.in_ok-share.ensures i ∷ limit i ∷ fixed i ∷ proportional i
    ∷ investment i ∷ total i ∷ saved i ∷ []))
