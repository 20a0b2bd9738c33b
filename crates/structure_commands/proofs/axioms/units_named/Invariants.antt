use Rattle.std.proofs.Common.{◌≡◌, ◌||◌, ◌<◌, ℕ, drop, length, true}
use Rattle.text_lines.specs.number_sets.Sets.{has}
use Rattle.command_files.specs.studio_rules.Axioms.{units_named}
use Rattle.structure_commands.proofs.axioms.units_named.Given as goal

-- the set so far and the names that are left give the whole set
abbrev pub invariant-finding : goal.invariant-finding
invariant-finding l = record {
  named : (u : ℕ) → (has l.set u || units_named l.problem (drop l.k l.units) u)
      ≡ units_named l.problem l.units u;
  known : (u : ℕ) → has l.set u ≡ true → u < length l.problem.units;
}
