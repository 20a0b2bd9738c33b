use Rattle.std.proofs.Common.{◌≡◌, map, take}
use Rattle.plan_laws.specs.problem_rules.Problem.{Material}
use Rattle.periods.proofs.plan.Period.of.Given as goal

abbrev pub invariant-copying : goal.invariant-copying
invariant-copying l = record {
  prices : l.prices.items ≡ map (λ (m : Material). m.price) (take l.material-index l.materials);
  lowers : l.lowers.items ≡ map (λ (m : Material). m.lower) (take l.material-index l.materials);
  uppers : l.uppers.items ≡ map (λ (m : Material). m.upper) (take l.material-index l.materials);
}
