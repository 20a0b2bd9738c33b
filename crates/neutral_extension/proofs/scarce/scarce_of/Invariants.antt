use Rattle.std.proofs.Common.{false}
use Rattle.neutral_extension.specs.OpenLeaf.{IsCounted}
use Rattle.neutral_extension.proofs.scarce.scarce_of.Given as goal

abbrev pub invariant-loop-x : goal.invariant-loop-x
invariant-loop-x l = IsCounted l.makers l.x (λ x. false) l.scarce
