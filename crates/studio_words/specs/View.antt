-- A command of the code as the definitions name it.
use Rattle.std.specs.Prelude.{map, string_bytes}
use Rattle.studio_rules.specs.Command as rules
use Rattle.studio_words.specs.declared.command.Command.{Command}
use Rattle.studio_words.specs.declared.command.Command.TheVariants.{Max, Axioms, Flows, Listing}
use Rattle.studio_words.specs.declared.command.Command.TheVariants.{Linting, Make, Migrate, Editing}
use Rattle.studio_words.specs.declared.command.Command.TheVariants.{Undoing, Checking, RankChecking}
use Rattle.studio_words.specs.declared.command.Command.TheVariants.{Solving, Showing, Ranking}
use Rattle.studio_words.specs.declared.command.Command.TheVariants.{Trial, Telling}
use Rattle.studio_words.specs.declared.command.Command.TheVariants.{Table, Splitting, Expanding}
use Rattle.studio_words.specs.declared.command.Command.TheVariants.{Drawing, DrawingNetwork}
use Rattle.studio_words.specs.declared.command.Command.TheVariants.{Reporting, Json, Ranging}
use Rattle.studio_words.specs.declared.command.Command.TheVariants.{Planning, Parting}
use Rattle.studio_words.specs.declared.command.Command.TheVariants.{PartingAgainst, Merging}
use Rattle.studio_words.specs.declared.command.Command.TheVariants.{Alternatives, RangingAll}

abbrev pub command_view : Command → rules.Command
command_view (Max file) = rules.Max file.now
command_view (Axioms file units) = rules.Axioms file.now units
command_view (Flows file units) = rules.Flows file.now units
command_view (Listing file after count) = rules.Listing file.now after.now count
command_view (Linting file) = rules.Linting file.now
command_view (Make number units) = rules.Make number units
command_view (Migrate file years) = rules.Migrate file.now years
command_view (Editing file script) = rules.Editing file.now script.now
command_view (Undoing file script) = rules.Undoing file.now script.now
command_view (Checking file tree) = rules.Checking file.now tree.now
command_view (RankChecking file rank) = rules.RankChecking file.now rank.now
command_view (Table file tree) = rules.Table file.now tree.now
command_view (Splitting file tree) = rules.Splitting file.now tree.now
command_view (Expanding file plan) = rules.Expanding file.now plan.now
command_view (Drawing file) = rules.Drawing file.now
command_view (DrawingNetwork file tree scene) = rules.DrawingNetwork file.now tree.now scene
command_view (Reporting file tree) = rules.Reporting file.now tree.now
command_view (Json file tree) = rules.Json file.now tree.now
command_view (Ranging file tree kind name budget) =
    rules.Ranging file.now tree.now kind name.now budget
command_view (RangingAll file tree budget) = rules.RangingAll file.now tree.now budget
command_view (Planning file plan budget) = rules.Planning file.now plan.now budget
command_view (Parting file inside outside budget) =
    rules.Parting file.now inside.now outside.now budget
command_view (PartingAgainst file inside outside budget tree) =
    rules.PartingAgainst file.now inside.now outside.now budget tree.now
command_view (Merging file tree parts) =
    rules.Merging file.now tree.now (map string_bytes parts.now)
command_view (Solving file budget) = rules.Solving file.now budget
command_view (Showing file budget) = rules.Showing file.now budget
command_view (Ranking file count budget) = rules.Ranking file.now count budget
command_view (Alternatives file count budget) = rules.Alternatives file.now count budget
command_view (Trial number units budget) = rules.Trial number units budget
command_view (Telling text) = rules.Telling text.now
