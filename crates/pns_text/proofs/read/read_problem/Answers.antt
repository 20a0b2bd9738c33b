use Rattle.std.proofs.Common.{◌≡◌, length, Result, Ok, IfOk, IfErr, subst, sym, ap, ◌∙◌, arith}
use Rattle.text_lines.specs.problem_rules.Problem.{Problem}
use Rattle.text_lines.specs.text_rules.Fault as rules
use Rattle.text_lines.specs.text_rules.Value.{names_all}
use Rattle.text_lines.specs.Tells.{Tells}
use Rattle.pns_text.specs.View.{walk_view}
use Rattle.pns_text.proofs.Reading.{read_kept}
use Rattle.pns_text.proofs.SeenNames.{names_are}
use Rattle.pns_text.proofs.read.read_problem.Goals as goal

pub returns-in-Ok-clause-read : goal.returns-in-Ok-clause-read
returns-in-Ok-clause-read c =
    let whole =
    read_kept c.args.bytes.now c.deref.result.now c.in-Ok.walk.kept.items c.in-Ok.number
    c.in-Ok.ensures.ok c.deref.ensures.value in
    subst
    (λ (reading : Result Problem rules.Fault). IfOk c.read_meaning.result (λ p. reading ≡ Ok p))
    (sym whole) c.read_meaning.ensures.ok

pub returns-in-Ok-clause-fault : goal.returns-in-Ok-clause-fault
returns-in-Ok-clause-fault c =
    let whole =
    read_kept c.args.bytes.now c.deref.result.now c.in-Ok.walk.kept.items c.in-Ok.number
    c.in-Ok.ensures.ok c.deref.ensures.value in
    subst (λ (reading : Result Problem rules.Fault). IfErr c.read_meaning.result (Tells reading))
    (sym whole) c.read_meaning.ensures.fault

pub read_meaning-requires-clause-names : goal.read_meaning-requires-clause-names
read_meaning-requires-clause-names c =
    names_are (walk_view c.in-Ok.walk) c.in-Ok.number c.in-Ok.ensures.names
    ∙ ap names_all (sym c.deref.ensures.value)

pub read_meaning-requires-clause-few : goal.read_meaning-requires-clause-few
read_meaning-requires-clause-few c =
    let counted = c.in-Ok.ensures.names.counted in
    let long : length c.deref.result.now ≡ length c.in-Ok.walk.kept.items =
    (λ i. length (c.deref.ensures.value i)) in
    grind (arith, counted, long)

pub read_meaning-requires-clause-valid : goal.read_meaning-requires-clause-valid
read_meaning-requires-clause-valid c = λ p reads.
    let whole =
    read_kept c.args.bytes.now c.deref.result.now c.in-Ok.walk.kept.items c.in-Ok.number
    c.in-Ok.ensures.ok c.deref.ensures.value in
    c.read_is_valid.ensures c.args.bytes.now p (whole ∙ reads)
