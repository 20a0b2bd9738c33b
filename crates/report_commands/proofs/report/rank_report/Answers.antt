use Rattle.std.proofs.Common.{◌≡◌, ◌++◌, ◌∷◌, [], ◌∙◌, ap, refl, sym, subst, List}
use Rattle.rank_text.specs.problem_rules.Problem.{Problem}
use Rattle.rank_text.specs.tree_rules.Claim.{Network}
use Rattle.rank_text.specs.rank_rules.Text.{ranking_of}
use Rattle.json_text.specs.report_rules.Marginal.{AreFirstMarginals}
use Rattle.json_text.specs.report_rules.Ranked.{ranking_lines}
use Rattle.json_text.specs.report_tables.First.{IsFirstFeasible}
use Rattle.network_commands.specs.studio_rules.Lines.{text_of}
use Rattle.network_commands.specs.studio_rules.RankReport.{rank_first_line, rank_report_lines}
use Rattle.report_commands.proofs.Works.{first_feasible}
use Rattle.report_commands.proofs.report.rank_report.Goals as goal

pub first_marginals-requires : goal.first_marginals-requires
first_marginals-requires c =
    let p = c.args.plant.now.site.now in
    let r = c.args.ranking.now in
    subst (λ (ws : List Network). IsFirstFeasible p ws) (sym c.networks-networks.ensures)
    (first_feasible r.distinct p r.networks c.requires.listed)

pub ranking_of-requires-clause-feasible : goal.ranking_of-requires-clause-feasible
ranking_of-requires-clause-feasible c =
    let p = c.args.plant.now.site.now in
    let r = c.args.ranking.now in
    subst (λ (ws : List Network). IsFirstFeasible p ws) (sym c.networks-networks.ensures)
    (first_feasible r.distinct p r.networks c.requires.listed)

pub returns : goal.returns
returns c =
    let p = c.args.plant.now.site.now in
    let ms = c.args.plant.now.measures.now in
    let t = c.args.ranking.now in
    let m = c.in_ok-marginals.marginals in
    let first : c.in_ok-bytes.bytes.items
    ≡ rank_first_line p (ranking_of t) c.args.verdict ++ 10 ∷ [] =
    c.in_ok-bytes.ensures
    ∙ ap (λ (q : Problem). rank_first_line q (ranking_of t) c.args.verdict ++ 10 ∷ [])
    c.problem.ensures.same in
    let tables : c.deref.result.now ≡ text_of (ranking_lines ms p m t.networks) =
    c.deref.ensures.value ∙ c.in_ok-tables.ensures
    ∙ ap (λ (ws : List Network). text_of (ranking_lines ms p m ws)) c.networks-networks.ensures in (
      rank_report_lines ms p m (ranking_of t) c.args.verdict,
      (
        m,
        subst (λ (ws : List Network). AreFirstMarginals p ws m) c.networks-networks.ensures
            c.in_ok-marginals.ensures,
        refl,
      ),
      c.in_ok-extend_from_slice.ensures.items ∙ (λ i. first i ++ tables i),
    )
