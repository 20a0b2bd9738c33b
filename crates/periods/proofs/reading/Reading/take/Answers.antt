use Rattle.std.proofs.Common.{◌≡◌, Result, Ok, sym, subst}
use Rattle.plan_laws.specs.plan_rules.declared.PlanKind.{PlanKind}
use Rattle.plan_laws.specs.plan_rules.Line.{Entry, begins, line_read}
use Rattle.periods.specs.Reading.{HasTaken}
use Rattle.periods.proofs.Taken.{says_begin}
use Rattle.periods.proofs.reading.Reading.take.Goals.{in-Ok+in-Begins-1}
use Rattle.periods.proofs.reading.Reading.take.Goals.{in-Ok-Changes+else-is_empty+in-Ok+in-Begins-1}
use Rattle.periods.proofs.reading.Reading.take.Goals.{in-Ok+in-Changes-1}
use Rattle.periods.proofs.reading.Reading.take.Goals.{in-Err+in-Kind-1}
use Rattle.periods.proofs.reading.Reading.take.Goals as goal

pub returns-in_ok-begin-in-Ok-Begins-clause-taken :
    goal.returns-in_ok-begin-in-Ok-Begins-clause-taken
returns-in_ok-begin-in-Ok-Begins-clause-taken c =
    let said : line_read c.args.text.now ≡ Ok begins =
    elim c.in-Ok-Begins-1.branch as (λ _. line_read c.args.text.now ≡ Ok begins) [
      | in-Ok+in-Begins-1 w ↦ says_begin _ c.read_line.result c.read_line.ensures (cc)
      | in-Ok-Changes+else-is_empty+in-Ok+in-Begins-1 w
          ↦ elim w.in-Ok-Changes-1.branch as (λ _. line_read c.args.text.now ≡ Ok begins) [
            | in-Ok+in-Changes-1 v
                ↦ says_begin _ c.read_line.result c.read_line.ensures (cc)
            | in-Err+in-Kind-1 v
                ↦ says_begin _ c.read_line.result c.read_line.ensures (cc)
          ]
    ] in
    subst
    (λ (r : Result Entry PlanKind). HasTaken c.args.problem.now c.args.number r
    c.args.self.now
    c.begin.new.self) (sym said) (c.in_ok-begin-in-Ok-Begins.ensures c.args.number)
