use Rattle.std.proofs.Common.{◌≡◌, ◌≤◌}
use Rattle.part_commands.proofs.Lines.{AreOut}
use Rattle.part_commands.proofs.split.say_leaves.Given as goal

-- the lines of the leaves before this one are printed
abbrev pub invariant-telling : goal.invariant-telling
invariant-telling g l = record {
  told : AreOut l.leaves l.leaf-index l.fn.out.out l.out.out;
  later : l.fn.out.out.faults ≤ l.out.out.faults;
  quiet : l.out.err ≡ l.fn.out.err;
}
