use Rattle.edit_laws.specs.edit_rules.Numbering.{in_term}
use Rattle.pns_edits.specs.Renumbering.{new_number}
use Rattle.pns_edits.proofs.MappedLemmas.{changed_next, in_term_is}
use Rattle.pns_edits.proofs.numbering.renumber_terms.Goals as goal

pub moving-preserved : goal.moving-preserved
moving-preserved c =
    let new = new_number c.args.by in
    changed_next (in_term new) c.args.terms.now c.moving.terms c.moving.term-index
    c.term-item.result _ c.moving-test.true c.moving.invariant
    (in_term_is new _ _ _ c.term.view_is c.new_number-term-inside.ensures)
