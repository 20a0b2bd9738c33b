use Rattle.std.proofs.Common.{◌≡◌, ◌∷◌, [], ◌∙◌, ap, refl, ℕ, List, codes}
use Rattle.rank_text.specs.branch_tree.View.{claim_of}
use Rattle.json_text.specs.report_rules.Facts.{text_member}
use Rattle.network_commands.specs.studio_rules.Lines.{text_of}
use Rattle.network_commands.specs.studio_rules.Json.{headed_word, claim_word, lines_behind}
use Rattle.network_commands.specs.studio_rules.Json.{headed_json_lines}
use Rattle.report_commands.proofs.headed.headed_text.Goals as goal

pub returns : goal.returns
returns c =
    let claim = claim_of c.args.claim.now in
    let stated : c.in_ok-stated.stated
    ≡ text_member (codes "verdict") (headed_word c.args.verdict) =
    c.in_ok-stated.ensures
    ∙ ap (λ (words : List ℕ). text_member (codes "verdict") words) c.headed_word.ensures in
    let claimed : c.in_ok-claimed.claimed ≡ text_member (codes "claim") (claim_word claim) =
    c.in_ok-claimed.ensures
    ∙ ap (λ (words : List ℕ). text_member (codes "claim") words) c.claim_word.ensures in
    let told = c.in_ok-bytes.ensures in (
      headed_json_lines c.args.site.now told.0 claim c.args.verdict,
      (told.0, told.1, refl),
      told.2
          ∙ (λ i. text_of
          (lines_behind
          (stated i ∷ c.in_ok-line.ensures i ∷ c.in_ok-node.ensures i ∷ c.in_ok-why.ensures i
          ∷ claimed i ∷ c.in_ok-low.ensures i ∷ c.in_ok-gap.ensures i ∷ [])
          c.args.site.now told.0 claim)),
    )
