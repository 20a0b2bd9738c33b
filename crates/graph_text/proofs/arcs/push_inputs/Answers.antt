use Rattle.std.proofs.Common.{◌++◌, ◌∙◌, string_bytes, ap, arith, List, ℕ}
use Rattle.report_amounts.proofs.pns_problem.Cited.{one_line}
use Rattle.report_amounts.specs.report_rules.Graph.{input_line}
use Rattle.graph_text.specs.Kept.{picture_of}
use Rattle.graph_text.proofs.Moves.{item_had}
use Rattle.graph_text.proofs.arcs.push_inputs.Goals as goal

pub push_input-requires-clause-material : goal.push_input-requires-clause-material
push_input-requires-clause-material c =
    c.requires.known c.term-item.result.material
    (item_had c.args.terms.now c.printing.term-index c.term-item.result c.printing-test.true
    c.term-item.is)

pub printing-preserved : goal.printing-preserved
printing-preserved c =
    let t1 = string_bytes c.push_input.new.text in
    one_line (input_line (picture_of c.args.picture.now) c.args.u) c.args.terms.now
    c.printing.term-index c.term-item.result c.printing-test.true c.term-item.is
    (string_bytes c.args.text.now) (string_bytes c.printing.text) t1 (string_bytes c.push.new.self)
    c.in_ok-push_input.ensures
    (c.in_ok-push.ensures.bytes
    ∙ ap (λ (l : List ℕ). t1 ++ l) (c.in_ok-push.ensures.ascii (omega arith)))
    c.printing.invariant
