use Rattle.std.proofs.Common.{◌≡◌, ◌≤◌, length, take}
use Rattle.neutral_extension.proofs.makers.Makers.back.Given as goal

abbrev pub invariant-back : goal.invariant-back
invariant-back l = record {
  makers : l.self.makers ≡ l.fn.self.makers;
  taken : l.self.taken ≡ take (length l.self.taken) l.fn.self.taken;
  most : l.to ≤ length l.self.taken;
}

abbrev pub decreases-back : goal.decreases-back
decreases-back l = length l.self.taken
