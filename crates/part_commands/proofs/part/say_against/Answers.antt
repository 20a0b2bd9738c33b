use Rattle.std.proofs.Common.{Some, sym, subst}
use Rattle.network_commands.specs.problem_rules.Problem.{Problem}
use Rattle.network_commands.specs.pns_rules.Shape.{shape_of}
use Rattle.network_commands.specs.pns_rules.Ends.{IsSound}
use Rattle.network_commands.specs.pgraph.View.{node_of}
use Rattle.network_commands.specs.tree_rules.Claim.{IsFeasible}
use Rattle.searches.specs.abb_search.declared.outcome.Found.{Found}
use Rattle.searches.specs.abb_search.Found.{IsFound}
use Rattle.part_commands.specs.Found.{FoundSays}
use Rattle.network_commands.specs.studio_rules.Part.{PartSays}
use Rattle.network_commands.proofs.command_files.Cited.{Ends-map, Tells-map}
use Rattle.part_commands.proofs.Parts.{part_says}
use Rattle.part_commands.proofs.part.say_against.Goals as goal

pub search_watched-found-requires-clause-sound : goal.search_watched-found-requires-clause-sound
search_watched-found-requires-clause-sound g c =
    subst (λ (p : Problem). IsSound (shape_of p) (node_of c.args.start.now)) (sym c.of-site.ensures)
    c.requires.sound

pub search_watched-found-requires-clause-passes : goal.search_watched-found-requires-clause-passes
search_watched-found-requires-clause-passes g c =
    subst (λ (p : Problem). IsFeasible p c.args.network) (sym c.of-site.ensures) c.requires.passes

pub say_found-requires-clause-found : goal.say_found-requires-clause-found
say_found-requires-clause-found g c = (
  c.args.effort.budget,
  subst
      (λ (p : Problem). IsFound p (node_of c.args.start.now) c.args.effort.budget
      c.search_watched-found.result) c.of-site.ensures c.search_watched-found.ensures.found,
)

pub returns : goal.returns
returns g c =
    let p = c.args.problem.now in
    let s = c.args.start.now in
    let budget = c.args.effort.budget in
    let w = c.args.network in
    let found : Found = c.search_watched-found.result in
    let is =
    subst (λ (p : Problem). IsFound p (node_of s) budget found) c.of-site.ensures
    c.search_watched-found.ensures.found in
    Ends-map _ _ c.args.out.now _ _
    (Tells-map (FoundSays p s.inside s.outside found)
    (PartSays budget (Some w) s.inside s.outside p)
    (λ status lines h. part_says budget (Some w) s.inside s.outside p status lines found is
    c.search_watched-found.ensures.against h))
    c.say_found.ensures
