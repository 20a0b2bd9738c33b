use Rattle.std.proofs.Common.{drop, string_bytes}
use Rattle.pns_edits.proofs.Sought.{IsSought}
use Rattle.edit_laws.specs.problem_rules.Problem.{exclusion_names}
use Rattle.pns_edits.proofs.place.exclusion_place.Given as goal

abbrev pub invariant-looking : goal.invariant-looking
invariant-looking l = IsSought l.k (string_bytes l.name) (exclusion_names
    l.parts.exclusions) (exclusion_names (drop l.k l.parts.exclusions))
