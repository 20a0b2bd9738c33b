use Rattle.std.proofs.Common.{drop, string_bytes}
use Rattle.pns_edits.proofs.Sought.{IsSought}
use Rattle.edit_laws.specs.problem_rules.Problem.{material_names}
use Rattle.pns_edits.proofs.place.material_place.Given as goal

abbrev pub invariant-looking : goal.invariant-looking
invariant-looking l = IsSought l.k (string_bytes l.name) (material_names
    l.parts.materials) (material_names (drop l.k l.parts.materials))
