use Rattle.std.proofs.Common.{◌++◌, string_bytes, ap, ◌∙◌, arith}
use Rattle.pns_problem.specs.Printing.{unit_line}
use Rattle.pns_problem.proofs.PrintingLemmas.{one_line}
use Rattle.pns_problem.proofs.canonical.push_unit_lines.Goals as goal

pub printing-preserved : goal.printing-preserved
printing-preserved c =
    one_line unit_line c.args.units.now c.printing.unit-index c.unit-item.result
    c.printing-test.true c.unit-item.is
    (string_bytes c.args.text.now) (string_bytes c.printing.text)
    (string_bytes c.push_unit.new.text) (string_bytes c.push.new.self)
    c.in_ok-push_unit.ensures (c.in_ok-push.ensures.bytes
    ∙ ap (λ l. string_bytes c.push_unit.new.text ++ l)
    (c.in_ok-push.ensures.ascii (omega arith))) c.printing.invariant
