use Rattle.std.proofs.Common.{◌≡◌, ◌∷◌, [], ◌∙◌, ap, ℕ, Bool, List, codes}
use Rattle.report_rules.specs.Json.{member, truth, object}
use Rattle.report_rules.specs.Facts.{text_member}
use Rattle.report_rules.specs.Object.{kind_word, name_of, is_limit, is_finished}
use Rattle.json_text.proofs.object.row_json.Goals as goal

pub returns : goal.returns
returns c =
    let p = c.args.problem.now in
    let row = c.args.row.now in
    let kind : c.in_ok-kind.kind ≡ text_member (codes "kind") (kind_word row.spot) =
    c.in_ok-kind.ensures
    ∙ ap (λ (words : List ℕ). text_member (codes "kind") words) c.kind_word.ensures in
    let name : c.in_ok-name.name ≡ text_member (codes "name") (name_of p row.spot) =
    c.in_ok-name.ensures
    ∙ ap (λ (words : List ℕ). text_member (codes "name") words) c.name_of.ensures in
    let from_limit : c.in_ok-from_limit.from_limit
    ≡ member (codes "from_limit") (truth (is_limit row.from)) =
    c.in_ok-from_limit.ensures
    ∙ ap (λ (holds : Bool). member (codes "from_limit") (truth holds)) c.is_limit.ensures in
    let to_limit : c.in_ok-to_limit.to_limit
    ≡ member (codes "to_limit") (truth (is_limit row.to)) =
    c.in_ok-to_limit.ensures
    ∙ ap (λ (holds : Bool). member (codes "to_limit") (truth holds)) c.is_limit-2.ensures in
    let finished : c.in_ok-finished.finished
    ≡ member (codes "finished") (truth (is_finished row)) =
    c.in_ok-finished.ensures
    ∙ ap (λ (holds : Bool). member (codes "finished") (truth holds)) c.is_finished.ensures in
    c.in_ok-json.ensures
    ∙ (λ i. object
    (kind i ∷ name i ∷ c.in_ok-from.ensures i ∷ c.in_ok-now.ensures i ∷ c.in_ok-to.ensures i
    ∷ from_limit i ∷ to_limit i ∷ finished i ∷ []))
