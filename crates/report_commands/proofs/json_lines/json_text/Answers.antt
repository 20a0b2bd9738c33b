use Rattle.std.proofs.Common.{◌≡◌, ◌∷◌, [], ◌∙◌, ap, refl, ℕ, List, codes}
use Rattle.rank_text.specs.problem_rules.Problem.{Problem}
use Rattle.rank_text.specs.branch_tree.View.{claim_of}
use Rattle.json_text.specs.report_rules.Json.{member}
use Rattle.json_text.specs.report_rules.Facts.{text_member}
use Rattle.json_text.specs.report_rules.JsonLower.{low_json}
use Rattle.network_commands.specs.studio_rules.Lines.{text_of}
use Rattle.network_commands.specs.studio_rules.Json.{verdict_word, claim_word, lines_behind}
use Rattle.network_commands.specs.studio_rules.Json.{json_lines}
use Rattle.report_commands.proofs.json_lines.json_text.Goals as goal

pub returns : goal.returns
returns c =
    let claim = claim_of c.args.claim.now in
    let stated : c.in_ok-stated.stated
    ≡ text_member (codes "verdict") (verdict_word c.args.verdict) =
    c.in_ok-stated.ensures
    ∙ ap (λ (words : List ℕ). text_member (codes "verdict") words) c.verdict_word.ensures in
    let claimed : c.in_ok-claimed.claimed ≡ text_member (codes "claim") (claim_word claim) =
    c.in_ok-claimed.ensures
    ∙ ap (λ (words : List ℕ). text_member (codes "claim") words) c.claim_word.ensures in
    let low : c.in_ok-low.low ≡ member (codes "low") (low_json c.args.site.now c.args.verdict) =
    c.in_ok-low.ensures
    ∙ ap (λ (p : Problem). member (codes "low") (low_json p c.args.verdict))
    c.problem.ensures.same in
    let told = c.in_ok-bytes.ensures in (
      json_lines c.args.site.now told.0 claim c.args.verdict,
      (told.0, told.1, refl),
      told.2
          ∙ (λ i. text_of
          (lines_behind
          (stated i ∷ c.in_ok-node.ensures i ∷ c.in_ok-why.ensures i ∷ claimed i ∷ low i
          ∷ c.in_ok-gap.ensures i ∷ [])
          c.args.site.now told.0 claim)),
    )
