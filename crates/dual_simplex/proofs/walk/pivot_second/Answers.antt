use Rattle.flow_program.specs.flow_rules.LinearProgram.{linear_of}
use Rattle.dual_simplex.proofs.SecondLemmas.{rank_bounded, second_done, second_rises, second_past}
use Rattle.dual_simplex.proofs.walk.pivot_second.Goals as goal

pub returns-in-Ok-clause-done : goal.returns-in-Ok-clause-done
returns-in-Ok-clause-done c =
    second_done (linear_of c.args.program.now) c.args.rows.now c.exchange-answer.new.self
    c.args.leaves c.args.enters c.requires.second c.requires.leaves c.requires.enters
    c.are_rows.ensures c.are_rows-2.ensures c.in-Ok.ensures.size c.in-Ok.ensures.done

pub returns-in-Ok-clause-rises : goal.returns-in-Ok-clause-rises
returns-in-Ok-clause-rises c =
    second_rises (linear_of c.args.program.now) c.args.rows.now c.exchange-answer.new.self
    c.args.leaves c.args.enters c.requires.second c.requires.leaves c.requires.enters
    c.are_rows.ensures c.are_rows-2.ensures c.in-Ok.ensures.size c.in-Ok.ensures.done

pub returns-in-Ok-clause-below : goal.returns-in-Ok-clause-below
returns-in-Ok-clause-below c =
    rank_bounded (linear_of c.args.program.now) c.args.rows.now c.are_rows.ensures
    c.requires.second.on_path

pub returns-in-Err-clause-past : goal.returns-in-Err-clause-past
returns-in-Err-clause-past c =
    second_past (linear_of c.args.program.now) c.args.rows.now c.exchange-answer.new.self
    c.args.leaves c.args.enters c.requires.second c.requires.leaves c.requires.enters
    c.are_rows.ensures c.in-Err.ensures.size c.in-Err.ensures.flags
    c.in-Err.past.row c.in-Err.past.j c.in-Err.past.which c.in-Err.ensures.past
