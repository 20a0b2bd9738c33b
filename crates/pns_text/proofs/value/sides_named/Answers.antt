use Rattle.pns_text.proofs.CutLines.{sides_found}
use Rattle.pns_text.proofs.value.sides_named.Goals as goal

pub returns : goal.returns
returns c =
    sides_found c.args.names.now c.args.lines.now c.args.name.now c.in-Some.sides.now
    c.deref.result.now c.deref-2.result.now c.in_ok-inputs.inputs.items
    c.in_ok-outputs.outputs.items
    c.in-Some.ensures c.deref.ensures.value c.deref-2.ensures.value c.in_ok-inputs.ensures
    c.in_ok-outputs.ensures
