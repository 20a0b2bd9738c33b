use Rattle.std.proofs.Common.{drop, string_bytes}
use Rattle.pns_edits.proofs.Sought.{IsSought}
use Rattle.edit_laws.specs.problem_rules.Problem.{unit_names}
use Rattle.pns_edits.proofs.place.unit_place.Given as goal

abbrev pub invariant-looking : goal.invariant-looking
invariant-looking l = IsSought l.k (string_bytes l.name) (unit_names l.parts.units) (unit_names
    (drop l.k l.parts.units))
