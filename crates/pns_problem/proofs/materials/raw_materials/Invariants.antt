use Rattle.std.proofs.Common.{◌≡◌, map}
use Rattle.std.specs.List.{range_with_len}
use Rattle.text_rules.specs.problem_rules.Draws.{state_after}
use Rattle.text_rules.specs.problem_rules.Generated.{raw_of}
use Rattle.pns_problem.proofs.materials.raw_materials.Given as goal

abbrev pub invariant-pricing : goal.invariant-pricing
invariant-pricing l = record {
  priced : l.materials.items ≡ map (raw_of l.fn.draws.state) (range_with_len 0 l.number);
  advanced : l.draws.state ≡ state_after l.number l.fn.draws.state;
}
