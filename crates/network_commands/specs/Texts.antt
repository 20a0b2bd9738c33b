-- What a command prints of the network of a claim, for each text.
use Rattle.std.specs.Prelude.{ℕ, List}
use Rattle.verdicts.specs.problem_rules.Problem.{Problem}
use Rattle.verdicts.specs.tree_rules.Claim.{Network}
use Rattle.command_files.specs.studio_rules.declared.status.Status.{Status}
use Rattle.network_commands.specs.declared.network.NetworkText.{NetworkText}
use Rattle.network_commands.specs.declared.network.NetworkText.TheVariants as texts
use Rattle.command_files.specs.studio_rules.Graph.{NetworkGraphWork}
use Rattle.command_files.specs.studio_rules.Table.{TableWork}

abbrev pub TextWork : NetworkText → Problem → Network → Status → List (List ℕ) → Type 0
TextWork texts.Table = TableWork
TextWork (texts.Graph scene) = NetworkGraphWork scene
