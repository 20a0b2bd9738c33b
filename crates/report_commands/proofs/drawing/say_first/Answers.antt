use Rattle.std.proofs.Common.{◌≡◌, ◌∷◌, [], ◌∙◌, refl, sym, inl, inr, subst, ℕ, List, codes}
use Rattle.rank_text.specs.tree_rules.Claim.{Network}
use Rattle.rank_text.specs.tree_rules.declared.why.Why.TheVariants.{Unknown}
use Rattle.rank_text.specs.rank_rules.Text.{ranking_of}
use Rattle.json_text.specs.report_tables.First.{IsFirstFeasible}
use Rattle.network_commands.specs.studio_rules.Graph.{AreSceneLines}
use Rattle.network_commands.specs.studio_rules.RankGraph.{DrawsFirst, RankGraphWork}
use Rattle.network_commands.specs.studio_rules.RefusalWords.{claim_line}
use Rattle.network_commands.specs.studio_rules.Lines.{line}
use Rattle.network_commands.specs.studio_rules.Ending.{Tells}
use Rattle.network_commands.specs.studio_rules.declared.status.Status.{Status}
use Rattle.network_commands.specs.studio_rules.declared.status.Status.TheVariants.{BadClaim}
use Rattle.network_commands.proofs.command_files.Cited.{Ends-map, Ends-told, only_or_memory_in}
use Rattle.network_commands.proofs.command_files.Cited.{one_line}
use Rattle.report_commands.proofs.Works.{first_feasible, draws_first, none_of}
use Rattle.report_commands.proofs.drawing.say_first.Goals as goal

pub list_graph-requires-clause-feasible : goal.list_graph-requires-clause-feasible
list_graph-requires-clause-feasible g c =
    let p = c.args.site.now in
    let t = c.args.ranking.now in
    subst (λ (vs : List Network). IsFirstFeasible p vs)
    (sym c.networks-networks.ensures ∙ c.in-Some.ensures.cases.0)
    (first_feasible t.distinct p t.networks c.requires.listed)

pub returns-in-Some : goal.returns-in-Some
returns-in-Some g c =
    let p = c.args.site.now in
    let t = c.args.ranking.now in
    let scene = c.args.scene in
    let ws = c.networks-networks.result.now in
    Ends-told c.list_graph.result (λ v. v.items) (RankGraphWork scene p t)
    (AreSceneLines scene p c.in-Some.first.now ws) c.args.out.now _ _
    (λ lines says. (
      c.requires.listed,
      subst (λ (vs : List Network). DrawsFirst scene p vs lines) c.networks-networks.ensures
          (draws_first scene p c.in-Some.first.now _ ws lines c.in-Some.ensures.cases.0 says),
    )) c.list_graph.ensures c.say_told.ensures

pub returns-in-None : goal.returns-in-None
returns-in-None g c =
    let p = c.args.site.now in
    let t = c.args.ranking.now in
    let Q : Status → List ℕ → Type 0 = Tells (RankGraphWork c.args.scene p t) in
    let told : List ℕ = claim_line Unknown in
    let empty : t.networks ≡ [] =
    sym c.networks-networks.ensures ∙ none_of _ c.in-None.ensures.cases in
    Ends-map _ Q c.args.out.now _ _
    (only_or_memory_in Q BadClaim (line told)
    (told ∷ [], inr (empty, refl), one_line told) ([], inl refl, refl))
    c.say_refused.ensures
