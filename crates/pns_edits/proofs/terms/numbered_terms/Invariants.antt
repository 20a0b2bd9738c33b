use Rattle.std.proofs.Common.{◌≡◌, take, drop}
use Rattle.edit_laws.specs.edit_rules.Place.{numbered_terms, lacks_material}
use Rattle.pns_edits.proofs.terms.numbered_terms.Given as goal

abbrev pub invariant-numbering : goal.invariant-numbering
invariant-numbering l = (l.numbered.items
    ≡ numbered_terms l.parts (take l.term-index l.terms))
    × (lacks_material l.parts (drop l.term-index l.terms) ≡ lacks_material l.parts l.terms)
