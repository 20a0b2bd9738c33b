use Rattle.std.proofs.Common.{◌≡◌, ◌==◌, ◌&&◌, ◌||◌, ℕ, length, take}
use Rattle.flow_rules.specs.problem_rules.Problem.{terms_have}
use Rattle.pgraph.specs.Arcs.{joins}
use Rattle.pgraph.proofs.arcs.Arcs.join_all.Given as goal

abbrev pub invariant-loop-term : goal.invariant-loop-term
invariant-loop-term l = record {
  joined : (v y : ℕ) → joins l.self v y
      ≡ (((l.fn.u == v) && terms_have (take l.term-index l.terms) y) || joins l.fn.self v y);
  units : length l.self.materials ≡ length l.fn.self.materials;
  materials : length l.self.units ≡ length l.fn.self.units;
}
