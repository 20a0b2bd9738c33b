use Rattle.std.proofs.Common.{◌∙◌, Ok, sym, ap}
use Rattle.rank_check.specs.rank_rules.Text.{Text}
use Rattle.tree_reading.specs.Place.{lines_at}
use Rattle.rank_text.proofs.Texts.{numbered, ways, behind_back}
use Rattle.rank_text.proofs.Together.{both_ok, named_bad, both_bad}
use Rattle.rank_text.proofs.read.read_behind.Goals as goal

pub returns-in-Err-At-clause-fault : goal.returns-in-Err-At-clause-fault
returns-in-Err-At-clause-fault c =
    both_bad c.args.problem.now c.args.asked.count c.args.asked.distinct c.args.networks.items
    c.args.cut.line _ _ _
    c.args.cut.at _ _
    c.in_ok-opened.ensures.marks c.in_ok-opened.ensures.lines c.deref.ensures.value
    c.requires.numbered (c.in-Err-At.line, c.in-Err-At.kind) c.earlier-line.result
    (rw c.in-Err-At.field-0-is at c.in-Err-At.ensures.fault)
    (rw c.in-Err-At.field-0-is at c.earlier-line.ensures.some)
    (rw c.in-Err-At.field-0-is at c.earlier-line.ensures.none)

pub returns-in-Some-clause-fault : goal.returns-in-Some-clause-fault
returns-in-Some-clause-fault c =
    named_bad c.args.problem.now c.args.asked.count c.args.asked.distinct c.args.networks.items
    c.args.cut.line _ _ _
    c.args.cut.at _ _
    c.in_ok-opened.ensures.marks c.in_ok-opened.ensures.lines c.deref.ensures.value
    c.requires.numbered _ _ c.in-Some.is c.in-Ok.ensures.read

pub of-requires : goal.of-requires
of-requires c =
    let p = c.args.problem.now in
    let valid = c.is_valid.ensures.valid in
    let stands =
    both_ok p c.args.asked.count c.args.asked.distinct c.args.networks.items c.args.cut.line _ _ _
    c.args.cut.at _ _
    c.in_ok-opened.ensures.marks c.in_ok-opened.ensures.lines c.deref.ensures.value
    c.requires.numbered _ c.in-None.is c.in-Ok.ensures.read in
    let back =
    behind_back p c.is_valid.ensures.well_formed (c.trees_are_taken.ensures p valid)
    (c.tails_are_read.ensures p valid) c.args.asked.count c.args.asked.distinct
    c.args.networks.items c.args.cut.line
    (lines_at c.args.bytes.now c.args.cut) _ stands in
    record {
      asked = c.requires.asked;
      within = c.requires.within;
      numbered =
          numbered c.args.asked.distinct _ back.marks;
      ways = ways c.args.asked.distinct _ back.marks;
      bare = back.bare;
    }

pub returns-clause-read : goal.returns-clause-read
returns-clause-read c =
    both_ok c.args.problem.now c.args.asked.count c.args.asked.distinct c.args.networks.items
    c.args.cut.line _ _ _
    c.args.cut.at _ _
    c.in_ok-opened.ensures.marks c.in_ok-opened.ensures.lines c.deref.ensures.value
    c.requires.numbered _ c.in-None.is c.in-Ok.ensures.read
    ∙ ap (λ (t : Text). Ok t) (sym c.of.ensures)
