use Rattle.std.proofs.Common.{map, sym, ap, List, ℕ, string_bytes, ◌∙◌}
use Rattle.tree_text_rules.specs.Spelling.{unit_name}
use Rattle.flow_program.proofs.Cited.{next_of}
use Rattle.tree_text.specs.Printing.{appended}
use Rattle.tree_text.proofs.field.push_units.Goals as goal

pub loop-unit-preserved : goal.loop-unit-preserved
loop-unit-preserved c =
    let next =
    next_of _ c.loop-unit.unit-iterator c.in-Some.unit c.next.new.self
    c.loop-unit.invariant.known c.in-Some.ensures.steps in
    record {
      known = next.set;
      line =
          rw (c.in_ok-push_field.ensures, c.unit_name.ensures)
          (ap (λ (us : List ℕ). appended (string_bytes c.loop-unit.line)
          (map (unit_name c.args.problem.now) us)) (sym next.is) ∙ c.loop-unit.invariant.line);
    }
