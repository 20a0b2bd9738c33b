use Rattle.std.proofs.Common.{◌≡◌, drop}
use Rattle.command_files.specs.studio_rules.Axioms.{first_stranger}
use Rattle.structure_commands.proofs.axioms.first_stranger.Given as goal

-- the names before k are those of units
abbrev pub invariant-looking : goal.invariant-looking
invariant-looking l = first_stranger l.problem (drop l.k l.units) ≡ first_stranger l.problem l.units
