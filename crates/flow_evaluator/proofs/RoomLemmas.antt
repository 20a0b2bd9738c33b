-- An evaluator goes over to another problem of the same size.
use Rattle.std.specs.Prelude.{OnOk}
use Rattle.std.proofs.Common.{◌≡◌, ℕ, length, Result, Ok, Err, subst}
use Rattle.dual_simplex.specs.problem_rules.Problem.{Problem}
use Rattle.dual_simplex.specs.flow_rules.Net.{net_of}
use Rattle.certified_bounds.specs.scaled_flows.Divisors.{AreDivisors}
use Rattle.dual_simplex.specs.Bench.{Bench, HasRoom}
use Rattle.flow_evaluator.specs.Evaluating.{Evaluating, IsFor}

pub room_for : (p : Problem) (b : Bench) (units materials : ℕ) → HasRoom b units materials
    → units ≡ length p.units → materials ≡ length p.materials
    → HasRoom b (length p.units) (length p.materials)
room_for p b units materials room eu em =
    subst (λ n. HasRoom b (length p.units) n) em (subst (λ n. HasRoom b n materials) eu room)

pub rebound : {T E : Type 0} (p : Problem) (new : Evaluating) (r : Result T E)
    → OnOk r (AreDivisors (net_of p) new.scales)
    → HasRoom new.bench (length p.units) (length p.materials) → OnOk r (IsFor p new)
rebound p new (Ok x) scales room = record { scales = scales; room = room }
rebound p new (Err x) scales room = tt
