use Rattle.std.proofs.Common.{◌≡◌, ◌∷◌, [], ◌∙◌, ap, refl, sym, subst, ℕ, Bool, List, codes}
use Rattle.rank_text.specs.problem_rules.Problem.{Problem}
use Rattle.rank_text.specs.tree_rules.Claim.{Network}
use Rattle.rank_text.specs.rank_rules.Text.{ranking_of}
use Rattle.json_text.specs.report_rules.Marginal.{AreFirstMarginals}
use Rattle.json_text.specs.report_rules.RankLow.{best_claim}
use Rattle.json_text.specs.report_rules.RankVerdict.{low_of}
use Rattle.json_text.specs.report_tables.First.{IsFirstFeasible}
use Rattle.json_text.specs.report_rules.Json.{member}
use Rattle.json_text.specs.report_rules.Facts.{text_member}
use Rattle.json_text.specs.report_rules.JsonLower.{bound_json, gap_between}
use Rattle.json_text.specs.report_rules.JsonRanked.{lines_behind}
use Rattle.network_commands.specs.studio_rules.Lines.{text_of}
use Rattle.network_commands.specs.studio_rules.RankJson.{rank_verdict_word, claim_word}
use Rattle.network_commands.specs.studio_rules.RankJson.{rank_json_lines}
use Rattle.report_commands.proofs.Works.{first_feasible}
use Rattle.report_commands.proofs.object.rank_object.Goals as goal

pub first_marginals-requires : goal.first_marginals-requires
first_marginals-requires c =
    subst (λ (ws : List Network). IsFirstFeasible c.args.site.now ws)
    (sym c.networks-networks.ensures)
    (first_feasible c.args.ranking.now.distinct c.args.site.now c.args.ranking.now.networks
    c.requires.listed)

pub first_of-requires : goal.first_of-requires
first_of-requires c =
    subst (λ (ws : List Network). IsFirstFeasible c.args.site.now ws)
    (sym c.networks-networks.ensures)
    (first_feasible c.args.ranking.now.distinct c.args.site.now c.args.ranking.now.networks
    c.requires.listed)

pub returns : goal.returns
returns c =
    let stated : c.in_ok-stated.stated
    ≡ text_member (codes "verdict") (rank_verdict_word c.args.verdict) =
    c.in_ok-stated.ensures
    ∙ ap (λ (words : List ℕ). text_member (codes "verdict") words) c.verdict_word.ensures in
    let claimed : c.in_ok-claimed.claimed
    ≡ text_member (codes "claim") (claim_word c.args.ranking.now.distinct) =
    c.in_ok-claimed.ensures
    ∙ (ap (λ (words : List ℕ). text_member (codes "claim") words) c.claim_word.ensures
    ∙ ap (λ (distinct : Bool). text_member (codes "claim") (claim_word distinct))
    c.is_distinct.ensures) in
    let p = c.args.site.now in
    let low : c.in_ok-low.low ≡ member (codes "low") (bound_json p (low_of c.args.verdict)) =
    c.in_ok-low.ensures
    ∙ (λ i. member (codes "low") (bound_json (c.problem.ensures.same i) (c.low_of-known.ensures i)))
    in
    let gap : c.in_ok-gap.gap
    ≡ member (codes "gap") (gap_between (best_claim c.args.ranking.now.networks)
    (low_of c.args.verdict)) =
    c.in_ok-gap.ensures
    ∙ (λ i. member (codes "gap") (gap_between (best_claim (c.networks-networks.ensures i))
    (c.low_of-known.ensures i))) in
    let m = c.in_ok-marginals.marginals in (
      rank_json_lines p m (ranking_of c.args.ranking.now) c.args.verdict,
      (
        m,
        subst (λ (ws : List Network). AreFirstMarginals p ws m) c.networks-networks.ensures
            c.in_ok-marginals.ensures,
        refl,
      ),
      c.in_ok-bytes.ensures
          ∙ (λ i. text_of
          (lines_behind
          (stated i ∷ c.in_ok-node.ensures i ∷ c.in_ok-why.ensures i ∷ claimed i ∷ low i ∷ gap i
          ∷ c.in_ok-asked.ensures i ∷ c.in_ok-listed.ensures i ∷ [])
          p m (c.networks-networks.ensures i))),
    )
