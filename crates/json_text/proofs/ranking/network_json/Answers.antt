use Rattle.std.proofs.Common.{◌≡◌, ◌∷◌, [], ◌∙◌, ap, ℕ, List, codes}
use Rattle.report_rules.specs.number_sets.Sets.{minus}
use Rattle.report_rules.specs.Number.{Number}
use Rattle.report_rules.specs.Ranked.{above_first}
use Rattle.report_rules.specs.Json.{object}
use Rattle.report_rules.specs.Facts.{count_member, number_member}
use Rattle.report_rules.specs.JsonRanked.{names_member}
use Rattle.json_text.proofs.ranking.network_json.Goals as goal

pub returns : goal.returns
returns c =
    let p = c.args.problem.now in
    let first = c.args.first.now in
    let w = c.args.network.now in
    let place : c.in_ok-place.place ≡ count_member (codes "place") c.args.place =
    c.in_ok-place.ensures ∙ ap (λ (n : ℕ). count_member (codes "place") n) c.from.ensures in
    let above : c.in_ok-above.above ≡ number_member (codes "above") (above_first p first w) =
    c.in_ok-above.ensures
    ∙ ap (λ (n : Number). number_member (codes "above") n) c.above_first.ensures in
    let taken : c.in_ok-taken.taken
    ≡ names_member (codes "taken_in") p (minus w.units first.units) =
    c.in_ok-taken.ensures
    ∙ ap (λ (us : List ℕ). names_member (codes "taken_in") p us)
    (c.minus.ensures ∙ (λ i. minus (c.units.ensures i) (c.units-2.ensures i))) in
    let left : c.in_ok-left.left
    ≡ names_member (codes "left_out") p (minus first.units w.units) =
    c.in_ok-left.ensures
    ∙ ap (λ (us : List ℕ). names_member (codes "left_out") p us)
    (c.minus-2.ensures ∙ (λ i. minus (c.units-3.ensures i) (c.units-4.ensures i))) in
    c.in_ok-json.ensures
    ∙ (λ i. object
    (place i ∷ c.in_ok-cost.ensures i ∷ above i ∷ c.in_ok-share.ensures i
    ∷ taken i ∷ left i ∷ c.in_ok-idle.ensures i ∷ []))
