use Rattle.std.proofs.Common.{◌∙◌, ◌++◌, ap, ℕ, List, string_bytes, map, arith}
use Rattle.report_amounts.specs.number_sets.Sets.{has}
use Rattle.report_amounts.proofs.Cited.{next_within, rest_within}
use Rattle.report_amounts.specs.pns_problem.Printing.{printed}
use Rattle.report_amounts.specs.report_rules.Graph.{material_line}
use Rattle.graph_text.specs.Kept.{picture_of}
use Rattle.graph_text.proofs.Lines.{next_line}
use Rattle.graph_text.proofs.materials.push_materials.Goals as goal

pub push_material-requires : goal.push_material-requires
push_material-requires c =
    c.requires.known c.in-Some.j
    (next_within (has c.args.materials) c.loop-j.j-iterator c.next.new.self c.in-Some.j
    c.in-Some.ensures.steps c.loop-j.invariant.within)

pub loop-j-preserved : goal.loop-j-preserved
loop-j-preserved c =
    let t1 = string_bytes c.push_material.new.text in
    let line = material_line (picture_of c.args.picture.now) in
    record {
      within =
          rest_within (has c.args.materials) c.loop-j.j-iterator c.next.new.self c.in-Some.j
          c.in-Some.ensures.steps c.loop-j.invariant.within;
      text =
          next_line line c.loop-j.j-iterator c.next.new.self c.in-Some.j
          (string_bytes c.args.text.now ++ printed (map line c.args.materials))
          (string_bytes c.loop-j.text) t1 (string_bytes c.push.new.self)
          c.in-Some.ensures.steps c.in_ok-push_material.ensures
          (c.in_ok-push.ensures.bytes
          ∙ ap (λ (t : List ℕ). t1 ++ t) (c.in_ok-push.ensures.ascii (omega arith)))
          c.loop-j.invariant.text;
    }
