use Rattle.std.proofs.Common.{◌<◌, arith}
use Rattle.std.proofs.lemmas.Result.{err_from_is_err_and}
use Rattle.branch_tree.specs.HeadView.{line_of}
use Rattle.tree_reading.specs.Place.{lines_at}
use Rattle.tree_reading.specs.View as views
use Rattle.tree_reading.proofs.FrontLines.{none_left, other_line, line_told, sets_told, line_on}
use Rattle.tree_reading.proofs.front.read_line.Goals as goal

pub returns-in_default : goal.returns-in_default
returns-in_default c =
    none_left c.args.problem.now c.args.cut.line (lines_at c.args.bytes.now c.args.cut)
    c.in_default.ensures.none

pub returns-in-None : goal.returns-in-None
returns-in-None c =
    other_line c.args.problem.now c.args.cut.line (lines_at c.args.bytes.now c.args.cut)
    (views.line_of c.in-Some.line) (lines_at c.args.bytes.now c.in-Some.behind)
    c.in-Some.ensures.line c.parts_of.result c.parts_of.ensures c.in-None.ensures

pub returns-in-Some-Err : goal.returns-in-Some-Err
returns-in-Some-Err c =
    rw c.at.ensures
    (line_told c.args.problem.now c.args.cut.line (lines_at c.args.bytes.now c.args.cut)
    (views.line_of c.in-Some.line) (lines_at c.args.bytes.now c.in-Some.behind)
    c.in-Some.ensures.line c.parts_of.result c.parts_of.ensures c.in-Some-Err.fault
    (rw c.in-Some-Err.field-0-is at c.in-Some-Err.ensures))

pub returns-in_err-found : goal.returns-in_err-found
returns-in_err-found c =
    let e = err_from_is_err_and c.from_residual.result c.from_residual.ensures.1 in
    rw (e.1, e.2)
    (sets_told c.args.problem.now c.args.cut.line (lines_at c.args.bytes.now c.args.cut)
    (views.line_of c.in-Some.line) (lines_at c.args.bytes.now c.in-Some.behind)
    c.in-Some.ensures.line c.parts_of.result c.parts_of.ensures c.in-Some-Ok.begun
    (rw c.in-Some-Ok.field-0-is at c.in-Some-Ok.ensures) c.in-Some.behind.line
    c.in-Some.ensures.number _ c.in_err-found.ensures.fault)

pub returns : goal.returns
returns c =
    let later = c.in-Some.ensures.later in
    let reached = c.in_ok-found.ensures.reached in
    let more = reached.later in
    record {
      reads =
          line_on c.args.problem.now c.args.cut.line (lines_at c.args.bytes.now c.args.cut)
          (views.line_of c.in-Some.line) (lines_at c.args.bytes.now c.in-Some.behind)
          c.in-Some.ensures.line c.parts_of.result c.parts_of.ensures c.in-Some-Ok.begun
          (rw c.in-Some-Ok.field-0-is at c.in-Some-Ok.ensures) c.in-Some.behind.line
          c.in-Some.ensures.number (line_of c.in_ok-found.found.0) c.in_ok-found.found.1.line
          (lines_at c.args.bytes.now c.in_ok-found.found.1) c.in_ok-found.ensures.read;
      behind = record { is_cut = reached.is_cut; later = omega (arith, later, more) };
      known = c.in_ok-found.ensures.known;
    }
