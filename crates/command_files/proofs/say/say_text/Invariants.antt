use Rattle.std.proofs.Common.{◌≡◌, ◌≤◌, length}
use Rattle.command_files.proofs.Put.{IsPut}
use Rattle.command_files.proofs.say.say_text.Given as goal

-- what is before the rest was put
abbrev pub invariant-loop-rest : goal.invariant-loop-rest
invariant-loop-rest g l = record {
  put : IsPut l.fn.text l.rest l.fn.out.out.written l.out.out.written;
  later : l.fn.out.out.faults ≤ l.out.out.faults;
  quiet : l.out.err ≡ l.fn.out.err;
}

abbrev pub decreases-loop-rest : goal.decreases-loop-rest
decreases-loop-rest g l = length l.rest
