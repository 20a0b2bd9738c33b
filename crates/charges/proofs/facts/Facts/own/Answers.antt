use Rattle.std.proofs.Common.{◌≡◌, arith, ap, List, length, None}
use Rattle.structure_list.specs.problem_rules.Problem.{OperatingUnit, unit_at}
use Rattle.charges.proofs.OwnLemmas.{none_written, same_all, written_all, no_lower, no_upper}
use Rattle.charges.proofs.facts.Facts.own.Goals as goal

pub loop-u-init : goal.loop-u-init
loop-u-init c = record { least = none_written _; most = none_written _ }

pub returns : goal.returns
returns c =
    let p = c.args.problem.now in
    let l : length c.units-units.result.now ≡ length p.units =
    ap (λ (xs : List OperatingUnit). length xs) c.units-units.ensures in
    let u : c.loop-u.u ≡ length p.units = omega arith in
    λ k. record {
      least = λ i. written_all (λ i. (unit_at p i).lower) c.loop-u.least (length p.units) c.loop-u.u
          u (no_lower p) c.loop-u.invariant.least i k;
      most = λ i. written_all (λ i. (unit_at p i).upper) c.loop-u.most (length p.units) c.loop-u.u u
          (no_upper p) c.loop-u.invariant.most i k;
      used = λ j. same_all {X = _} None 256 j k;
      demand = None;
    }
