use Rattle.std.proofs.Common.{◌++◌, string_bytes, ap, ◌∙◌, arith}
use Rattle.pns_problem.specs.Printing.{material_line}
use Rattle.pns_problem.proofs.PrintingLemmas.{one_line}
use Rattle.pns_problem.proofs.canonical.push_material_lines.Goals as goal

pub printing-preserved : goal.printing-preserved
printing-preserved c =
    one_line material_line c.args.materials.now c.printing.material-index c.material-item.result
    c.printing-test.true c.material-item.is
    (string_bytes c.args.text.now) (string_bytes c.printing.text)
    (string_bytes c.push_material.new.text) (string_bytes c.push.new.self)
    c.in_ok-push_material.ensures
    (c.in_ok-push.ensures.bytes
    ∙ ap (λ l. string_bytes c.push_material.new.text ++ l)
    (c.in_ok-push.ensures.ascii (omega arith))) c.printing.invariant
