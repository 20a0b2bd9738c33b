use Rattle.std.proofs.Common.{◌≡◌, sym, ap, ◌∙◌, subst}
use Rattle.stability_laws.specs.problem_rules.Problem.{Problem}
use Rattle.stability_laws.specs.pns_rules.Shape.{Shape, shape_of}
use Rattle.solver.specs.pgraph.Tables.{shape}
use Rattle.solver.specs.neutral_extension.Candidates.{AreMakersOf}
use Rattle.stability_laws.specs.tree_rules.Accepted.{first_node}
use Rattle.stability_laws.specs.tree_rules.Claim.{IsFeasible}
use Rattle.solver.specs.abb_search.Found.{IsFound}
use Rattle.stability.specs.Desk.{Desk}
use Rattle.stability.proofs.desk.Desk.search.Goals as goal

pub search_at-requires-clause-makers : goal.search_at-requires-clause-makers
search_at-requires-clause-makers g c =
    let site : c.of-site.result ≡ c.args.self.now.problem =
    c.of-site.ensures ∙ ap (λ (d : Desk). d.problem) c.self.view_is in
    subst (λ (s : Shape). AreMakersOf s c.self.inside.workspace.makers.makers)
    (c.requires.graph ∙ ap (λ (p : Problem). shape_of p) (sym site))
    (subst (λ (d : Desk). AreMakersOf (shape c.args.graph.now) d.makers) (sym c.self.view_is)
    c.requires.own)

pub search_at-requires-clause-passes : goal.search_at-requires-clause-passes
search_at-requires-clause-passes g c =
    let site : c.of-site.result ≡ c.args.self.now.problem =
    c.of-site.ensures ∙ ap (λ (d : Desk). d.problem) c.self.view_is in
    subst (λ (p : Problem). IsFeasible p c.args.network) (sym site) c.requires.passes

pub returns-clause-found : goal.returns-clause-found
returns-clause-found g c =
    let site : c.of-site.result ≡ c.args.self.now.problem =
    c.of-site.ensures ∙ ap (λ (d : Desk). d.problem) c.self.view_is in
    subst (λ (p : Problem). IsFound p first_node c.args.budget c.search_at.result) site
    c.search_at.ensures.found
