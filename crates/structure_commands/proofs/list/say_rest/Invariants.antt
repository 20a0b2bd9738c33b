use Rattle.std.proofs.Common.{◌≡◌, ◌≤◌}
use Rattle.structure_commands.proofs.Listings.{IsGathered}
use Rattle.structure_commands.proofs.list.say_rest.Given as goal

-- the lines of the structures given are printed, or wait
abbrev pub invariant-giving : goal.invariant-giving
invariant-giving g l = record {
  gathered : IsGathered l.problem l.fn.list l.list l.given l.fn.out.out l.out.out l.bytes.items
      l.last;
  later : l.fn.out.out.faults ≤ l.out.out.faults;
  quiet : l.out.err ≡ l.fn.out.err;
}
