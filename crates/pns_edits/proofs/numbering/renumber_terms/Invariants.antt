use Rattle.std.proofs.Common.{◌≡◌, ◌++◌, map, take, drop}
use Rattle.edit_laws.specs.edit_rules.Numbering.{in_term}
use Rattle.pns_edits.specs.Renumbering.{new_number}
use Rattle.pns_edits.proofs.numbering.renumber_terms.Given as goal

abbrev pub invariant-moving : goal.invariant-moving
invariant-moving l = l.terms ≡ map (in_term (new_number l.by)) (take l.term-index
    l.fn.terms) ++ drop l.term-index l.fn.terms
