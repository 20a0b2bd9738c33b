use Rattle.std.proofs.Common.{◌≡◌, drop}
use Rattle.edit_laws.specs.problem_rules.Problem.{terms_have}
use Rattle.pns_edits.proofs.numbering.terms_have.Given as goal

abbrev pub invariant-looking : goal.invariant-looking
invariant-looking l = terms_have (drop l.term-index l.terms) l.k ≡ terms_have l.terms l.k
