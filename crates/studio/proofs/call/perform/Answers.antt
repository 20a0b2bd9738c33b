use Rattle.std.proofs.Common.{refl, sym, ap, subst, arith, ◌≤◌, ℕ, List, map, string_bytes}
use Rattle.structure_commands.specs.studio_rules.Command.{Command, Max, Axioms, Flows, Listing}
use Rattle.structure_commands.specs.studio_rules.Command.{Linting, Migrate}
use Rattle.structure_commands.specs.studio_rules.Command.{Editing, Undoing, Checking, RankChecking}
use Rattle.structure_commands.specs.studio_rules.Command.{Solving, Showing}
use Rattle.structure_commands.specs.studio_rules.Command.{Ranking, Telling, AreWithin, Table}
use Rattle.structure_commands.specs.studio_rules.Command.{Splitting, Expanding}
use Rattle.structure_commands.specs.studio_rules.Command.{Drawing, DrawingNetwork, Reporting, Json}
use Rattle.structure_commands.specs.studio_rules.Command.{Ranging, Planning}
use Rattle.structure_commands.specs.studio_rules.Command.{Parting, PartingAgainst, Merging}
use Rattle.structure_commands.specs.studio_rules.Command.{Alternatives, RangingAll}
use Rattle.structure_commands.specs.studio_words.View.{command_view}
use Rattle.structure_commands.specs.studio_rules.Answers.{CommandSays}
use Rattle.structure_commands.specs.studio_rules.Make.{MakeWork}
use Rattle.structure_commands.specs.studio_rules.Trial.{TrialWork}
use Rattle.structure_commands.specs.studio_rules.declared.status.Status.{Status}
use Rattle.structure_commands.specs.studio_rules.PageLines.{IsOfLines}
use Rattle.structure_commands.specs.studio_rules.declared.status.Status.TheVariants.{Done}
use Rattle.structure_commands.proofs.command_files.Cited.{Ends-map, Says-told, only_in, keeps_same}
use Rattle.studio.proofs.call.perform.Goals as goal

pub returns-in-Max-clause-ends : goal.returns-in-Max-clause-ends
returns-in-Max-clause-ends g c =
    let old = g.F.Shelf.state c.args.shelf.now in
    let new = g.F.Shelf.state c.max.new.shelf in
    let Q : Status → List ℕ → Type 0 = CommandSays old new (command_view c.args.command) in
    Ends-map (CommandSays old new (Max c.in-Max.file.now)) Q c.args.out.now _ _
    (λ s t h. subst (λ (v : Command). CommandSays old new v s t) (sym (ap command_view c.in-Max.is))
    h) c.max.ensures.ends

pub returns-in-Linting-clause-ends : goal.returns-in-Linting-clause-ends
returns-in-Linting-clause-ends g c =
    let old = g.F.Shelf.state c.args.shelf.now in
    let new = g.F.Shelf.state c.lint.new.shelf in
    let Q : Status → List ℕ → Type 0 = CommandSays old new (command_view c.args.command) in
    Ends-map (CommandSays old new (Linting c.in-Linting.file.now)) Q c.args.out.now _ _
    (λ s t h. subst (λ (v : Command). CommandSays old new v s t)
    (sym (ap command_view c.in-Linting.is)) h) c.lint.ensures.ends

pub returns-in-Axioms-clause-ends : goal.returns-in-Axioms-clause-ends
returns-in-Axioms-clause-ends g c =
    let old = g.F.Shelf.state c.args.shelf.now in
    let new = g.F.Shelf.state c.axioms.new.shelf in
    let Q : Status → List ℕ → Type 0 = CommandSays old new (command_view c.args.command) in
    Ends-map (CommandSays old new (Axioms c.in-Axioms.file.now c.in-Axioms.units)) Q c.args.out.now
    _ _
    (λ s t h. subst (λ (v : Command). CommandSays old new v s t)
    (sym (ap command_view c.in-Axioms.is)) h) c.axioms.ensures.ends

pub returns-in-Flows-clause-ends : goal.returns-in-Flows-clause-ends
returns-in-Flows-clause-ends g c =
    let old = g.F.Shelf.state c.args.shelf.now in
    let new = g.F.Shelf.state c.flows.new.shelf in
    let Q : Status → List ℕ → Type 0 = CommandSays old new (command_view c.args.command) in
    Ends-map (CommandSays old new (Flows c.in-Flows.file.now c.in-Flows.units)) Q c.args.out.now _ _
    (λ s t h. subst (λ (v : Command). CommandSays old new v s t)
    (sym (ap command_view c.in-Flows.is)) h) c.flows.ensures.ends

pub returns-in-Listing-clause-ends : goal.returns-in-Listing-clause-ends
returns-in-Listing-clause-ends g c =
    let old = g.F.Shelf.state c.args.shelf.now in
    let new = g.F.Shelf.state c.list.new.shelf in
    let Q : Status → List ℕ → Type 0 = CommandSays old new (command_view c.args.command) in
    Ends-map
    (CommandSays old new
    (Listing c.in-Listing.file.now c.in-Listing.after.now c.in-Listing.count)) Q c.args.out.now
    _ _
    (λ s t h. subst (λ (v : Command). CommandSays old new v s t)
    (sym (ap command_view c.in-Listing.is)) h) c.list.ensures.ends

pub returns-in-Make-clause-ends : goal.returns-in-Make-clause-ends
returns-in-Make-clause-ends g c =
    let shelf = g.F.Shelf.state c.args.shelf.now in
    let Q : Status → List ℕ → Type 0 = CommandSays shelf shelf (command_view c.args.command) in
    Ends-map _ Q c.args.out.now _ _
    (λ s t h. subst (λ (v : Command). CommandSays shelf shelf v s t)
    (sym (ap command_view c.in-Make.is))
    (Says-told (MakeWork c.in-Make.number c.in-Make.units)
    (MakeWork c.in-Make.number c.in-Make.units) _ shelf shelf (λ s lines h. h) s t h))
    c.make.ensures

pub make-requires : goal.make-requires
make-requires g c =
    let within : (1 ≤ c.in-Make.units) × (c.in-Make.units ≤ 128) =
    subst AreWithin (ap command_view c.in-Make.is) c.requires in
    record { some = within.0; few = within.1 }

pub migrate-requires : goal.migrate-requires
migrate-requires g c = subst AreWithin (ap command_view c.in-Migrate.is) c.requires

pub returns-in-Migrate-clause-ends : goal.returns-in-Migrate-clause-ends
returns-in-Migrate-clause-ends g c =
    let old = g.F.Shelf.state c.args.shelf.now in
    let new = g.F.Shelf.state c.migrate.new.shelf in
    let Q : Status → List ℕ → Type 0 = CommandSays old new (command_view c.args.command) in
    Ends-map (CommandSays old new (Migrate c.in-Migrate.file.now c.in-Migrate.years)) Q
    c.args.out.now _ _
    (λ s t h. subst (λ (v : Command). CommandSays old new v s t)
    (sym (ap command_view c.in-Migrate.is)) h) c.migrate.ensures.ends

pub returns-in-Editing-clause-ends : goal.returns-in-Editing-clause-ends
returns-in-Editing-clause-ends g c =
    let old = g.F.Shelf.state c.args.shelf.now in
    let new = g.F.Shelf.state c.edit.new.shelf in
    let Q : Status → List ℕ → Type 0 = CommandSays old new (command_view c.args.command) in
    Ends-map (CommandSays old new (Editing c.in-Editing.file.now c.in-Editing.script.now)) Q
    c.args.out.now _ _
    (λ s t h. subst (λ (v : Command). CommandSays old new v s t)
    (sym (ap command_view c.in-Editing.is)) h) c.edit.ensures.ends

pub returns-in-Undoing-clause-ends : goal.returns-in-Undoing-clause-ends
returns-in-Undoing-clause-ends g c =
    let old = g.F.Shelf.state c.args.shelf.now in
    let new = g.F.Shelf.state c.undo.new.shelf in
    let Q : Status → List ℕ → Type 0 = CommandSays old new (command_view c.args.command) in
    Ends-map (CommandSays old new (Undoing c.in-Undoing.file.now c.in-Undoing.script.now)) Q
    c.args.out.now _ _
    (λ s t h. subst (λ (v : Command). CommandSays old new v s t)
    (sym (ap command_view c.in-Undoing.is)) h) c.undo.ensures.ends

pub returns-in-Expanding-clause-ends : goal.returns-in-Expanding-clause-ends
returns-in-Expanding-clause-ends g c =
    let old = g.F.Shelf.state c.args.shelf.now in
    let new = g.F.Shelf.state c.expand.new.shelf in
    let Q : Status → List ℕ → Type 0 = CommandSays old new (command_view c.args.command) in
    Ends-map (CommandSays old new (Expanding c.in-Expanding.file.now c.in-Expanding.plan.now)) Q
    c.args.out.now _ _
    (λ s t h. subst (λ (v : Command). CommandSays old new v s t)
    (sym (ap command_view c.in-Expanding.is)) h) c.expand.ensures.ends

pub returns-in-Checking-clause-ends : goal.returns-in-Checking-clause-ends
returns-in-Checking-clause-ends g c =
    let old = g.F.Shelf.state c.args.shelf.now in
    let new = g.F.Shelf.state c.check.new.shelf in
    let Q : Status → List ℕ → Type 0 = CommandSays old new (command_view c.args.command) in
    Ends-map (CommandSays old new (Checking c.in-Checking.file.now c.in-Checking.tree.now)) Q
    c.args.out.now _ _
    (λ s t h. subst (λ (v : Command). CommandSays old new v s t)
    (sym (ap command_view c.in-Checking.is)) h) c.check.ensures.ends

pub returns-in-RankChecking-clause-ends : goal.returns-in-RankChecking-clause-ends
returns-in-RankChecking-clause-ends g c =
    let old = g.F.Shelf.state c.args.shelf.now in
    let new = g.F.Shelf.state c.rankcheck.new.shelf in
    let Q : Status → List ℕ → Type 0 = CommandSays old new (command_view c.args.command) in
    Ends-map
    (CommandSays old new (RankChecking c.in-RankChecking.file.now c.in-RankChecking.rank.now)) Q
    c.args.out.now _ _
    (λ s t h. subst (λ (v : Command). CommandSays old new v s t)
    (sym (ap command_view c.in-RankChecking.is)) h) c.rankcheck.ensures.ends

pub returns-in-Table-clause-ends : goal.returns-in-Table-clause-ends
returns-in-Table-clause-ends g c =
    let old = g.F.Shelf.state c.args.shelf.now in
    let new = g.F.Shelf.state c.table.new.shelf in
    let Q : Status → List ℕ → Type 0 = CommandSays old new (command_view c.args.command) in
    Ends-map (CommandSays old new (Table c.in-Table.file.now c.in-Table.tree.now)) Q c.args.out.now
    _ _
    (λ s t h. subst (λ (v : Command). CommandSays old new v s t)
    (sym (ap command_view c.in-Table.is)) h) c.table.ensures.ends

pub returns-in-Reporting-clause-ends : goal.returns-in-Reporting-clause-ends
returns-in-Reporting-clause-ends g c =
    let old = g.F.Shelf.state c.args.shelf.now in
    let new = g.F.Shelf.state c.report.new.shelf in
    let Q : Status → List ℕ → Type 0 = CommandSays old new (command_view c.args.command) in
    Ends-map (CommandSays old new (Reporting c.in-Reporting.file.now c.in-Reporting.tree.now)) Q
    c.args.out.now _ _
    (λ s t h. subst (λ (v : Command). CommandSays old new v s t)
    (sym (ap command_view c.in-Reporting.is)) h) c.report.ensures.ends

pub returns-in-Json-clause-ends : goal.returns-in-Json-clause-ends
returns-in-Json-clause-ends g c =
    let old = g.F.Shelf.state c.args.shelf.now in
    let new = g.F.Shelf.state c.json.new.shelf in
    let Q : Status → List ℕ → Type 0 = CommandSays old new (command_view c.args.command) in
    Ends-map (CommandSays old new (Json c.in-Json.file.now c.in-Json.tree.now)) Q c.args.out.now _ _
    (λ s t h. subst (λ (v : Command). CommandSays old new v s t)
    (sym (ap command_view c.in-Json.is)) h) c.json.ensures.ends

pub returns-in-Splitting-clause-ends : goal.returns-in-Splitting-clause-ends
returns-in-Splitting-clause-ends g c =
    let old = g.F.Shelf.state c.args.shelf.now in
    let new = g.F.Shelf.state c.split.new.shelf in
    let Q : Status → List ℕ → Type 0 = CommandSays old new (command_view c.args.command) in
    Ends-map (CommandSays old new (Splitting c.in-Splitting.file.now c.in-Splitting.tree.now)) Q
    c.args.out.now _ _
    (λ s t h. subst (λ (v : Command). CommandSays old new v s t)
    (sym (ap command_view c.in-Splitting.is)) h) c.split.ensures.ends

pub returns-in-Drawing-clause-ends : goal.returns-in-Drawing-clause-ends
returns-in-Drawing-clause-ends g c =
    let old = g.F.Shelf.state c.args.shelf.now in
    let new = g.F.Shelf.state c.plant_graph.new.shelf in
    let Q : Status → List ℕ → Type 0 = CommandSays old new (command_view c.args.command) in
    Ends-map (CommandSays old new (Drawing c.in-Drawing.file.now)) Q c.args.out.now _ _
    (λ s t h. subst (λ (v : Command). CommandSays old new v s t)
    (sym (ap command_view c.in-Drawing.is)) h) c.plant_graph.ensures.ends

pub returns-in-DrawingNetwork-clause-ends : goal.returns-in-DrawingNetwork-clause-ends
returns-in-DrawingNetwork-clause-ends g c =
    let old = g.F.Shelf.state c.args.shelf.now in
    let new = g.F.Shelf.state c.graph.new.shelf in
    let Q : Status → List ℕ → Type 0 = CommandSays old new (command_view c.args.command) in
    Ends-map
    (CommandSays old new
    (DrawingNetwork c.in-DrawingNetwork.file.now c.in-DrawingNetwork.tree.now
    c.in-DrawingNetwork.scene)) Q c.args.out.now _ _
    (λ s t h. subst (λ (v : Command). CommandSays old new v s t)
    (sym (ap command_view c.in-DrawingNetwork.is)) h) c.graph.ensures.ends

pub stable-requires : goal.stable-requires
stable-requires g c =
    let within : (1 ≤ c.in-Ranging.budget) × (c.in-Ranging.budget ≤ 1000000) =
    subst AreWithin (ap command_view c.in-Ranging.is) c.requires in
    record { some = within.0; few = within.1 }

pub returns-in-Ranging-clause-ends : goal.returns-in-Ranging-clause-ends
returns-in-Ranging-clause-ends g c =
    let old = g.F.Shelf.state c.args.shelf.now in
    let new = g.F.Shelf.state c.stable.new.shelf in
    let Q : Status → List ℕ → Type 0 = CommandSays old new (command_view c.args.command) in
    Ends-map
    (CommandSays old new
    (Ranging c.in-Ranging.file.now c.in-Ranging.tree.now c.in-Ranging.kind c.in-Ranging.name.now
    c.in-Ranging.budget)) Q c.args.out.now _ _
    (λ s t h. subst (λ (v : Command). CommandSays old new v s t)
    (sym (ap command_view c.in-Ranging.is)) h) c.stable.ensures.ends

pub ranges-requires : goal.ranges-requires
ranges-requires g c =
    let within : (1 ≤ c.in-RangingAll.budget) × (c.in-RangingAll.budget ≤ 1000000) =
    subst AreWithin (ap command_view c.in-RangingAll.is) c.requires in
    record { some = within.0 }

pub returns-in-RangingAll-clause-ends : goal.returns-in-RangingAll-clause-ends
returns-in-RangingAll-clause-ends g c =
    let old = g.F.Shelf.state c.args.shelf.now in
    let new = g.F.Shelf.state c.ranges-in-RangingAll.new.shelf in
    let Q : Status → List ℕ → Type 0 = CommandSays old new (command_view c.args.command) in
    Ends-map
    (CommandSays old new
    (RangingAll c.in-RangingAll.file.now c.in-RangingAll.tree.now c.in-RangingAll.budget)) Q
    c.args.out.now _ _
    (λ s t h. subst (λ (v : Command). CommandSays old new v s t)
    (sym (ap command_view c.in-RangingAll.is)) h) c.ranges-in-RangingAll.ensures.ends

pub periods-requires : goal.periods-requires
periods-requires g c =
    let within : (1 ≤ c.in-Planning.budget) × (c.in-Planning.budget ≤ 1000000) =
    subst AreWithin (ap command_view c.in-Planning.is) c.requires in
    record { some = within.0; few = within.1 }

pub returns-in-Planning-clause-ends : goal.returns-in-Planning-clause-ends
returns-in-Planning-clause-ends g c =
    let old = g.F.Shelf.state c.args.shelf.now in
    let new = g.F.Shelf.state c.periods.new.shelf in
    let Q : Status → List ℕ → Type 0 = CommandSays old new (command_view c.args.command) in
    Ends-map
    (CommandSays old new
    (Planning c.in-Planning.file.now c.in-Planning.plan.now c.in-Planning.budget)) Q
    c.args.out.now _ _
    (λ s t h. subst (λ (v : Command). CommandSays old new v s t)
    (sym (ap command_view c.in-Planning.is)) h) c.periods.ensures.ends

pub part-requires : goal.part-requires
part-requires g c =
    let within : (1 ≤ c.in-Parting.budget) × (c.in-Parting.budget ≤ 1000000) =
    subst AreWithin (ap command_view c.in-Parting.is) c.requires in
    record { some = within.0; few = within.1 }

pub returns-in-Parting-clause-ends : goal.returns-in-Parting-clause-ends
returns-in-Parting-clause-ends g c =
    let old = g.F.Shelf.state c.args.shelf.now in
    let new = g.F.Shelf.state c.part.new.shelf in
    let Q : Status → List ℕ → Type 0 = CommandSays old new (command_view c.args.command) in
    Ends-map
    (CommandSays old new
    (Parting c.in-Parting.file.now c.in-Parting.inside.now c.in-Parting.outside.now
    c.in-Parting.budget)) Q c.args.out.now _ _
    (λ s t h. subst (λ (v : Command). CommandSays old new v s t)
    (sym (ap command_view c.in-Parting.is)) h) c.part.ensures.ends

pub part_against-requires : goal.part_against-requires
part_against-requires g c =
    let within : (1 ≤ c.in-PartingAgainst.budget) × (c.in-PartingAgainst.budget ≤ 1000000) =
    subst AreWithin (ap command_view c.in-PartingAgainst.is) c.requires in
    record { some = within.0; few = within.1 }

pub returns-in-PartingAgainst-clause-ends : goal.returns-in-PartingAgainst-clause-ends
returns-in-PartingAgainst-clause-ends g c =
    let old = g.F.Shelf.state c.args.shelf.now in
    let new = g.F.Shelf.state c.part_against.new.shelf in
    let Q : Status → List ℕ → Type 0 = CommandSays old new (command_view c.args.command) in
    Ends-map
    (CommandSays old new
    (PartingAgainst c.in-PartingAgainst.file.now c.in-PartingAgainst.inside.now
    c.in-PartingAgainst.outside.now c.in-PartingAgainst.budget c.in-PartingAgainst.tree.now)) Q
    c.args.out.now _ _
    (λ s t h. subst (λ (v : Command). CommandSays old new v s t)
    (sym (ap command_view c.in-PartingAgainst.is)) h) c.part_against.ensures.ends

pub returns-in-Merging-clause-ends : goal.returns-in-Merging-clause-ends
returns-in-Merging-clause-ends g c =
    let old = g.F.Shelf.state c.args.shelf.now in
    let new = g.F.Shelf.state c.merge.new.shelf in
    let Q : Status → List ℕ → Type 0 = CommandSays old new (command_view c.args.command) in
    Ends-map
    (CommandSays old new
    (Merging c.in-Merging.file.now c.in-Merging.tree.now
    (map string_bytes c.in-Merging.parts.now))) Q c.args.out.now _ _
    (λ s t h. subst (λ (v : Command). CommandSays old new v s t)
    (sym (ap command_view c.in-Merging.is)) h) c.merge.ensures.ends

pub solve-requires : goal.solve-requires
solve-requires g c =
    let within : (1 ≤ c.in-Solving.budget) × (c.in-Solving.budget ≤ 1000000) =
    subst AreWithin (ap command_view c.in-Solving.is) c.requires in
    record { some = within.0; few = within.1 }

pub returns-in-Solving-clause-ends : goal.returns-in-Solving-clause-ends
returns-in-Solving-clause-ends g c =
    let old = g.F.Shelf.state c.args.shelf.now in
    let new = g.F.Shelf.state c.solve.new.shelf in
    let Q : Status → List ℕ → Type 0 = CommandSays old new (command_view c.args.command) in
    Ends-map (CommandSays old new (Solving c.in-Solving.file.now c.in-Solving.budget)) Q
    c.args.out.now _ _
    (λ s t h. subst (λ (v : Command). CommandSays old new v s t)
    (sym (ap command_view c.in-Solving.is)) h) c.solve.ensures.ends

pub show-requires : goal.show-requires
show-requires g c =
    let within : (1 ≤ c.in-Showing.budget) × (c.in-Showing.budget ≤ 1000000) =
    subst AreWithin (ap command_view c.in-Showing.is) c.requires in
    record { some = within.0; few = within.1 }

pub returns-in-Showing-clause-ends : goal.returns-in-Showing-clause-ends
returns-in-Showing-clause-ends g c =
    let old = g.F.Shelf.state c.args.shelf.now in
    let new = g.F.Shelf.state c.show.new.shelf in
    let Q : Status → List ℕ → Type 0 = CommandSays old new (command_view c.args.command) in
    Ends-map (CommandSays old new (Showing c.in-Showing.file.now c.in-Showing.budget)) Q
    c.args.out.now _ _
    (λ s t h. subst (λ (v : Command). CommandSays old new v s t)
    (sym (ap command_view c.in-Showing.is)) h) c.show.ensures.ends

pub rank-requires : goal.rank-requires
rank-requires g c =
    let within : ((1 ≤ c.in-Ranking.count) × (c.in-Ranking.count ≤ 1000))
    × ((1 ≤ c.in-Ranking.budget) × (c.in-Ranking.budget ≤ 1000000)) =
    subst AreWithin (ap command_view c.in-Ranking.is) c.requires in
    record { asked = within.0.0; within = within.0.1; some = within.1.0; few = within.1.1 }

pub alternatives-requires : goal.alternatives-requires
alternatives-requires g c =
    let within : ((1 ≤ c.in-Alternatives.count) × (c.in-Alternatives.count ≤ 1000))
    × ((1 ≤ c.in-Alternatives.budget) × (c.in-Alternatives.budget ≤ 1000000)) =
    subst AreWithin (ap command_view c.in-Alternatives.is) c.requires in
    record { asked = within.0.0; within = within.0.1; some = within.1.0; few = within.1.1 }

pub returns-in-Ranking-clause-ends : goal.returns-in-Ranking-clause-ends
returns-in-Ranking-clause-ends g c =
    let old = g.F.Shelf.state c.args.shelf.now in
    let new = g.F.Shelf.state c.rank.new.shelf in
    let Q : Status → List ℕ → Type 0 = CommandSays old new (command_view c.args.command) in
    Ends-map
    (CommandSays old new (Ranking c.in-Ranking.file.now c.in-Ranking.count c.in-Ranking.budget))
    Q c.args.out.now _ _
    (λ s t h. subst (λ (v : Command). CommandSays old new v s t)
    (sym (ap command_view c.in-Ranking.is)) h) c.rank.ensures.ends

pub returns-in-Alternatives-clause-ends : goal.returns-in-Alternatives-clause-ends
returns-in-Alternatives-clause-ends g c =
    let old = g.F.Shelf.state c.args.shelf.now in
    let new = g.F.Shelf.state c.alternatives.new.shelf in
    let Q : Status → List ℕ → Type 0 = CommandSays old new (command_view c.args.command) in
    Ends-map
    (CommandSays old new
    (Alternatives c.in-Alternatives.file.now c.in-Alternatives.count c.in-Alternatives.budget))
    Q c.args.out.now _ _
    (λ s t h. subst (λ (v : Command). CommandSays old new v s t)
    (sym (ap command_view c.in-Alternatives.is)) h) c.alternatives.ensures.ends

pub trial-requires : goal.trial-requires
trial-requires g c =
    let within : ((1 ≤ c.in-Trial.units) × (c.in-Trial.units ≤ 128))
    × ((1 ≤ c.in-Trial.budget) × (c.in-Trial.budget ≤ 1000000)) =
    subst AreWithin (ap command_view c.in-Trial.is) c.requires in
    record { some = within.0.0; few = within.0.1; some_nodes = within.1.0; few_nodes = within.1.1 }

pub returns-in-Trial-clause-ends : goal.returns-in-Trial-clause-ends
returns-in-Trial-clause-ends g c =
    let shelf = g.F.Shelf.state c.args.shelf.now in
    let Q : Status → List ℕ → Type 0 = CommandSays shelf shelf (command_view c.args.command) in
    let work : Status → List (List ℕ) → Type 0 =
    TrialWork c.in-Trial.number c.in-Trial.units c.in-Trial.budget in
    Ends-map _ Q c.args.out.now _ _
    (λ s t h. subst (λ (v : Command). CommandSays shelf shelf v s t)
    (sym (ap command_view c.in-Trial.is))
    (Says-told work work _ shelf shelf (λ s lines h. h) s t h))
    c.trial.ensures

pub returns-in-Telling-clause-ends : goal.returns-in-Telling-clause-ends
returns-in-Telling-clause-ends g c =
    let shelf = g.F.Shelf.state c.args.shelf.now in
    let Q : Status → List ℕ → Type 0 = CommandSays shelf shelf (command_view c.args.command) in
    let text : List ℕ = c.in-Telling.text.now in
    let whole : IsOfLines text = subst AreWithin (ap command_view c.in-Telling.is) c.requires in
    Ends-map _ Q c.args.out.now _ _
    (λ s t h. subst (λ (v : Command). CommandSays shelf shelf v s t)
    (sym (ap command_view c.in-Telling.is))
    (only_in (CommandSays shelf shelf (Telling text)) Done text (whole.0, (refl, whole.1), whole.1)
    s t h))
    c.say_text.ensures

pub returns-in-Make-clause-keeps : goal.returns-in-Make-clause-keeps
returns-in-Make-clause-keeps g c = keeps_same _

pub returns-in-Trial-clause-keeps : goal.returns-in-Trial-clause-keeps
returns-in-Trial-clause-keeps g c = keeps_same _

pub returns-in-Telling-clause-keeps : goal.returns-in-Telling-clause-keeps
returns-in-Telling-clause-keeps g c = keeps_same _

pub overflow_cast-effort : goal.overflow_cast-effort
overflow_cast-effort g c =
    let within : (1 ≤ c.in-Ranging.budget) × (c.in-Ranging.budget ≤ 1000000)
    = subst AreWithin (ap command_view c.in-Ranging.is) c.requires in
    let few = within.1 in omega (arith, few)

pub overflow_cast-effort-in-RangingAll : goal.overflow_cast-effort-in-RangingAll
overflow_cast-effort-in-RangingAll g c =
    let within : (1 ≤ c.in-RangingAll.budget) × (c.in-RangingAll.budget ≤ 1000000)
    = subst AreWithin (ap command_view c.in-RangingAll.is) c.requires in
    let few = within.1 in omega (arith, few)

pub overflow_cast-effort-in-Planning : goal.overflow_cast-effort-in-Planning
overflow_cast-effort-in-Planning g c =
    let within : (1 ≤ c.in-Planning.budget) × (c.in-Planning.budget ≤ 1000000)
    = subst AreWithin (ap command_view c.in-Planning.is) c.requires in
    let few = within.1 in omega (arith, few)

pub overflow_cast-effort-in-Parting : goal.overflow_cast-effort-in-Parting
overflow_cast-effort-in-Parting g c =
    let within : (1 ≤ c.in-Parting.budget) × (c.in-Parting.budget ≤ 1000000)
    = subst AreWithin (ap command_view c.in-Parting.is) c.requires in
    let few = within.1 in omega (arith, few)

pub overflow_cast-effort-in-PartingAgainst : goal.overflow_cast-effort-in-PartingAgainst
overflow_cast-effort-in-PartingAgainst g c =
    let within : (1 ≤ c.in-PartingAgainst.budget) × (c.in-PartingAgainst.budget ≤ 1000000)
    = subst AreWithin (ap command_view c.in-PartingAgainst.is) c.requires in
    let few = within.1 in omega (arith, few)

pub overflow_cast-effort-in-Solving : goal.overflow_cast-effort-in-Solving
overflow_cast-effort-in-Solving g c =
    let within : (1 ≤ c.in-Solving.budget) × (c.in-Solving.budget ≤ 1000000)
    = subst AreWithin (ap command_view c.in-Solving.is) c.requires in
    let few = within.1 in omega (arith, few)

pub overflow_cast-effort-in-Showing : goal.overflow_cast-effort-in-Showing
overflow_cast-effort-in-Showing g c =
    let within : (1 ≤ c.in-Showing.budget) × (c.in-Showing.budget ≤ 1000000)
    = subst AreWithin (ap command_view c.in-Showing.is) c.requires in
    let few = within.1 in omega (arith, few)

pub overflow_cast-effort-in-Ranking : goal.overflow_cast-effort-in-Ranking
overflow_cast-effort-in-Ranking g c =
    let within : ((1 ≤ c.in-Ranking.count) × (c.in-Ranking.count ≤ 1000))
    × ((1 ≤ c.in-Ranking.budget) × (c.in-Ranking.budget ≤ 1000000))
    = subst AreWithin (ap command_view c.in-Ranking.is) c.requires in
    let few = within.1.1 in omega (arith, few)

pub overflow_cast-effort-in-Alternatives : goal.overflow_cast-effort-in-Alternatives
overflow_cast-effort-in-Alternatives g c =
    let within : ((1 ≤ c.in-Alternatives.count) × (c.in-Alternatives.count ≤ 1000))
    × ((1 ≤ c.in-Alternatives.budget) × (c.in-Alternatives.budget ≤ 1000000))
    = subst AreWithin (ap command_view c.in-Alternatives.is) c.requires in
    let few = within.1.1 in omega (arith, few)

pub overflow_cast-effort-in-Trial : goal.overflow_cast-effort-in-Trial
overflow_cast-effort-in-Trial g c =
    let within : ((1 ≤ c.in-Trial.units) × (c.in-Trial.units ≤ 128))
    × ((1 ≤ c.in-Trial.budget) × (c.in-Trial.budget ≤ 1000000))
    = subst AreWithin (ap command_view c.in-Trial.is) c.requires in
    let few = within.1.1 in omega (arith, few)
