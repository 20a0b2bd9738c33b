use Rattle.std.proofs.Common.{refl}
use Rattle.stability.specs.text_rules.State.{OutputsState}
use Rattle.network_commands.specs.studio_rules.declared.status.Status.TheVariants.{NotBest}
use Rattle.network_commands.specs.studio_rules.declared.status.Status.TheVariants.{WriteFault}
use Rattle.network_commands.specs.studio_rules.Printed.{OneAnswer}
use Rattle.network_commands.specs.studio_rules.Ending.{Tells}
use Rattle.network_commands.proofs.command_files.Cited.{Ends-from, printed_first}
use Rattle.network_commands.specs.studio_rules.Stable.{not_best_lines}
use Rattle.stability_commands.proofs.Printed.{not_best_whole, not_best_front}
use Rattle.stability_commands.proofs.stable.say_not_best.Goals as goal

pub returns-in-Ok : goal.returns-in-Ok
returns-in-Ok g c =
    let lines = not_best_lines c.args.problem.now c.args.cheaper.now in
    let says = Tells (OneAnswer NotBest lines) in
    let seen : OutputsState =
    record { out = g.K.Sink.state c.out.inside.out; err = g.E.Sink.state c.out.inside.err } in
    let new : OutputsState =
    record {
      out = g.K.Sink.state c.print_not_best.new.out;
      err =
          g.E.Sink.state c.out.inside.err;
    } in
    Ends-from says says c.args.out.now _ new NotBest c.out.view_is (λ s t h. h)
    (not_best_whole lines seen new refl c.in-Ok.ensures.prints)

pub returns-in-Err-WriteFault : goal.returns-in-Err-WriteFault
returns-in-Err-WriteFault g c =
    let lines = not_best_lines c.args.problem.now c.args.cheaper.now in
    let says = Tells (OneAnswer NotBest lines) in
    let seen : OutputsState =
    record { out = g.K.Sink.state c.out.inside.out; err = g.E.Sink.state c.out.inside.err } in
    let new : OutputsState =
    record {
      out = g.K.Sink.state c.print_not_best.new.out;
      err =
          g.E.Sink.state c.out.inside.err;
    } in
    Ends-from says says c.args.out.now _ new WriteFault c.out.view_is (λ s t h. h)
    (not_best_front lines seen new refl
    (rw c.in-Err-WriteFault.field-0-is at c.in-Err-WriteFault.ensures.prints))

pub returns-in-Err-Memory : goal.returns-in-Err-Memory
returns-in-Err-Memory g c =
    let lines = not_best_lines c.args.problem.now c.args.cheaper.now in
    let says = Tells (OneAnswer NotBest lines) in
    let seen : OutputsState =
    record { out = g.K.Sink.state c.out.inside.out; err = g.E.Sink.state c.out.inside.err } in
    let mid : OutputsState =
    record {
      out = g.K.Sink.state c.print_not_best.new.out;
      err =
          g.E.Sink.state c.out.inside.err;
    } in
    Ends-from says says c.args.out.now _ c.say_memory.new.out _ c.out.view_is (λ s t h. h)
    (printed_first NotBest lines seen mid c.say_memory.new.out _ refl c.print_not_best.ensures.later
    (rw c.in-Err-Memory.field-0-is at c.in-Err-Memory.ensures.prints) c.say_memory.ensures)
