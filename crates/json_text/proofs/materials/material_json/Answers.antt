use Rattle.std.proofs.Common.{◌≡◌, ◌∷◌, [], ◌∙◌, ap, ℕ, List, codes}
use Rattle.report_rules.specs.problem_rules.Problem.{material_at}
use Rattle.report_rules.specs.Number.{Number}
use Rattle.report_rules.specs.declared.amount.UnitAmount.TheVariants.{Made, Used}
use Rattle.report_rules.specs.Amounts.{unit_sum, net, price, cost}
use Rattle.report_rules.specs.Marginal.{marginal}
use Rattle.report_rules.specs.Report.{material_limit}
use Rattle.report_rules.specs.Json.{object}
use Rattle.report_rules.specs.Facts.{text_member, number_member, limit_member}
use Rattle.json_text.proofs.materials.material_json.Goals as goal

pub returns : goal.returns
returns c =
    let p = c.args.problem.now in
    let w = c.args.network.now in
    let j = c.args.j in
    let m = c.args.marginals.now in
    let name : c.in_ok-name.name ≡ text_member (codes "name") (material_at p j).name =
    c.in_ok-name.ensures
    ∙ ap (λ (t : List ℕ). text_member (codes "name") t) c.material_name.ensures in
    let made : c.in_ok-made.made ≡ number_member (codes "made") (unit_sum (Made j) p w) =
    c.in_ok-made.ensures
    ∙ ap (λ (n : Number). number_member (codes "made") n) c.unit_sum-amount.ensures in
    let used : c.in_ok-used.used ≡ number_member (codes "used") (unit_sum (Used j) p w) =
    c.in_ok-used.ensures
    ∙ ap (λ (n : Number). number_member (codes "used") n) c.unit_sum-amount-2.ensures in
    let left : c.in_ok-left.left ≡ number_member (codes "net") (net p w j) =
    c.in_ok-left.ensures ∙ ap (λ (n : Number). number_member (codes "net") n) c.net.ensures in
    let limit : c.in_ok-limit.limit ≡ limit_member (material_limit p w j) =
    c.in_ok-limit.ensures ∙ ap (λ (t : List ℕ). limit_member t) c.material_limit.ensures in
    let money : c.in_ok-money.money ≡ number_member (codes "price") (price p j) =
    c.in_ok-money.ensures
    ∙ ap (λ (n : Number). number_member (codes "price") n) c.price.ensures in
    let paid : c.in_ok-paid.paid ≡ number_member (codes "cost") (cost p w j) =
    c.in_ok-paid.ensures ∙ ap (λ (n : Number). number_member (codes "cost") n) c.cost.ensures in
    let more : c.in_ok-more.more ≡ number_member (codes "marginal") (marginal p m j) =
    c.in_ok-more.ensures
    ∙ ap (λ (n : Number). number_member (codes "marginal") n) c.of_material.ensures in
    c.in_ok-json.ensures
    ∙ (λ i. object
    (name i ∷ c.in_ok-kind.ensures i ∷ made i ∷ used i ∷ left i ∷ limit i ∷ money i ∷ paid i
    ∷ more i ∷ []))
