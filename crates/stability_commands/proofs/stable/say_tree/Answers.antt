use Rattle.std.proofs.Common.{◌≡◌, ap, sym, subst, IfSome, inl, inr, ℕ, List, Option}
use Rattle.stability.specs.branch_tree.View.{claim_of}
use Rattle.network_commands.specs.tree_reading.Said.{said_by}
use Rattle.network_commands.specs.studio_rules.HeadedFile.{AnyHead, OnHeaded, HeadedFault}
use Rattle.network_commands.specs.studio_rules.HeadedFile.{HeadedSays}
use Rattle.stability.specs.report_rules.declared.spot.Spot.{Spot}
use Rattle.stability.specs.report_rules.Spot.{KnowsSpot}
use Rattle.network_commands.specs.studio_rules.Stable.{NamedWork, StableWork}
use Rattle.network_commands.specs.studio_rules.Ending.{Says, Tells}
use Rattle.network_commands.specs.studio_rules.declared.status.Status.{Status}
use Rattle.network_commands.proofs.command_files.Cited.{Ends-map, Ends-from, Says-told}
use Rattle.network_commands.proofs.command_files.Cited.{on_second-faults}
use Rattle.stability_commands.proofs.Named.{spot_known}
use Rattle.stability_commands.proofs.stable.say_tree.Goals as goal

pub say_named-requires-clause-known : goal.say_named-requires-clause-known
say_named-requires-clause-known g c =
    subst (λ (spot : Option Spot). IfSome spot (KnowsSpot c.args.problem.now))
    (sym c.spot_named-spot.ensures) (spot_known c.args.problem.now c.args.kind c.args.name.now)

pub returns-in-Ok-clause-ends : goal.returns-in-Ok-clause-ends
returns-in-Ok-clause-ends g c =
    let old = g.F.Shelf.state c.args.shelf.now in
    let new = g.F.Shelf.state c.headed_of.new.shelf in
    let p = c.args.problem.now in
    let file = c.args.file.now in
    let read = c.in-Ok.ensures.tree in
    let claim = claim_of c.in-Ok.text.claim in
    let tree = c.in-Ok.text.tree in
    let work = AnyHead (StableWork c.args.kind c.args.name.now c.args.effort.budget) in
    let P : Status → List (List ℕ) → Type 0 =
    NamedWork c.spot_named-spot.result c.args.effort.budget p claim tree in
    let Q : Status → List ℕ → Type 0 =
    Says (OnHeaded work old.held file p) (λ other. other ≡ file) old new in
    Ends-from (Tells P) Q c.args.out.now _ _ _ c.in-Ok.ensures.silent
    (Says-told P (OnHeaded work old.held file p) (λ other. other ≡ file) old new
    (λ s lines h. (
      read.0,
      read.1,
      inr (
        said_by c.in-Ok.text,
        read.2,
        subst
            (λ (spot : Option Spot). NamedWork spot c.args.effort.budget p claim tree s
            lines)
            c.spot_named-spot.ensures h,
      ),
    )))
    c.say_named.ensures

pub returns-in-Err-clause-ends : goal.returns-in-Err-clause-ends
returns-in-Err-clause-ends g c =
    let old = g.F.Shelf.state c.args.shelf.now in
    let new = g.F.Shelf.state c.headed_of.new.shelf in
    let p = c.args.problem.now in
    let file = c.args.file.now in
    let work = AnyHead (StableWork c.args.kind c.args.name.now c.args.effort.budget) in
    let Q : Status → List ℕ → Type 0 =
    Says (OnHeaded work old.held file p) (λ other. other ≡ file) old new in
    Ends-map _ Q c.args.out.now _ _
    (on_second-faults (HeadedSays work file) (HeadedFault file p) old new file p
    (λ file s lines h. inl h)) c.in-Err.ensures.told
