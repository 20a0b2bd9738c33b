use Rattle.std.proofs.Common.{◌∷◌, [], refl, sym, subst, codes, ℕ, List, Option}
use Rattle.stability.specs.branch_tree.View.{claim_of}
use Rattle.stability.specs.report_rules.declared.spot.Spot.{Spot}
use Rattle.network_commands.specs.studio_rules.Network.{OnNetwork}
use Rattle.network_commands.specs.studio_rules.Stable.{SpotWork, NamedWork}
use Rattle.network_commands.specs.studio_rules.Lines.{text_of}
use Rattle.network_commands.specs.studio_rules.Ending.{Tells}
use Rattle.network_commands.specs.studio_rules.declared.status.Status.TheVariants.{UnknownName}
use Rattle.network_commands.proofs.command_files.Cited.{Ends-map, Tells-map, only_in}
use Rattle.stability_commands.proofs.stable.say_named.Goals as goal

pub returns-in-Some : goal.returns-in-Some
returns-in-Some g c =
    let p = c.args.problem.now in
    let claim = claim_of c.args.claim in
    let work = OnNetwork (SpotWork c.in-Some.spot c.args.effort.budget) p claim c.args.tree.now in
    Ends-map _ _ c.args.out.now _ _
    (Tells-map work (NamedWork c.args.spot c.args.effort.budget p claim c.args.tree.now)
    (λ s lines h. subst
    (λ (spot : Option Spot). NamedWork spot c.args.effort.budget p claim c.args.tree.now s
    lines) (sym c.in-Some.is) h)) c.say_claimed.ensures

pub returns-in-None : goal.returns-in-None
returns-in-None g c =
    let p = c.args.problem.now in
    let claim = claim_of c.args.claim in
    let lines : List (List ℕ) = codes "unknown name" ∷ [] in
    Ends-map _ _ c.args.out.now _ _
    (only_in (Tells (NamedWork c.args.spot c.args.effort.budget p claim c.args.tree.now))
    UnknownName (text_of lines) (
      lines,
      subst
          (λ (spot : Option Spot). NamedWork spot c.args.effort.budget p claim c.args.tree.now
          UnknownName lines) (sym c.in-None.is) (refl, refl),
      refl,
    ))
    c.tell.ensures
