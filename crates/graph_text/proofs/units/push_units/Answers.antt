use Rattle.std.proofs.Common.{◌++◌, string_bytes}
use Rattle.report_amounts.specs.number_sets.Sets.{has}
use Rattle.report_amounts.proofs.Cited.{next_within, rest_within}
use Rattle.std.specs.Prelude.{flat_map}
use Rattle.report_amounts.specs.pns_problem.Printing.{printed}
use Rattle.report_amounts.specs.report_rules.Graph.{unit_lines}
use Rattle.graph_text.specs.Kept.{picture_of}
use Rattle.graph_text.proofs.Lines.{next_lines}
use Rattle.graph_text.proofs.units.push_units.Goals as goal

pub push_unit_lines-requires : goal.push_unit_lines-requires
push_unit_lines-requires c =
    c.requires.known c.in-Some.u
    (next_within (has c.args.units) c.loop-u.u-iterator c.next.new.self c.in-Some.u
    c.in-Some.ensures.steps c.loop-u.invariant.within)

pub loop-u-preserved : goal.loop-u-preserved
loop-u-preserved c =
    let lines = unit_lines (picture_of c.args.picture.now) in
    record {
      within =
          rest_within (has c.args.units) c.loop-u.u-iterator c.next.new.self c.in-Some.u
          c.in-Some.ensures.steps c.loop-u.invariant.within;
      text =
          next_lines lines c.loop-u.u-iterator c.next.new.self c.in-Some.u
          (string_bytes c.args.text.now ++ printed (flat_map lines c.args.units))
          (string_bytes c.loop-u.text) (string_bytes c.push_unit_lines.new.text)
          c.in-Some.ensures.steps c.in_ok-push_unit_lines.ensures c.loop-u.invariant.text;
    }
