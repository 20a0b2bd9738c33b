use Rattle.std.proofs.Common.{◌∙◌}
use Rattle.pns_text.proofs.CutLines.{flows_meaning}
use Rattle.pns_text.proofs.meaning.line_meaning.Goals as goal

pub returns-in-Flows : goal.returns-in-Flows
returns-in-Flows c =
    c.rates_meaning.ensures
    ∙ flows_meaning c.args.settings.now c.args.names.now c.line.inside.number c.line.inside.text.now
    c.line.inside.head.now c.line.inside.cut c.in-Flows.sides c.args.line.now c.in-Flows.is
    c.line.invariant.head c.line.invariant.parts c.line.view_is
