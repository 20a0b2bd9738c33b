use Rattle.std.proofs.Common.{◌∙◌, refl}
use Rattle.abb_search.proofs.ChargingLemmas.{keeps_same, keeps_on}
use Rattle.abb_search.proofs.charging.shut_by_charges.Goals as goal

pub leaves-init : goal.leaves-init
leaves-init g c = record {
  keeps = keeps_same g.E.Evaluator.past c.args.site.now c.args.growing.now c.requires.going;
  own = c.requires.own;
  makers = refl;
}

pub shut_least-requires-clause-own : goal.shut_least-requires-clause-own
shut_least-requires-clause-own g c = c.leaves.invariant.own

pub shut_least-requires-clause-going : goal.shut_least-requires-clause-going
shut_least-requires-clause-going g c = c.leaves.invariant.keeps.going

pub leaves-preserved : goal.leaves-preserved
leaves-preserved g c = record {
  keeps =
      keeps_on g.E.Evaluator.past c.args.site.now c.args.growing.now c.leaves.growing
      c.shut_least.new.growing c.leaves.invariant.keeps c.shut_least.ensures.keeps;
  own = c.shut_least.ensures.own;
  makers = c.shut_least.ensures.makers ∙ c.leaves.invariant.makers;
}

pub returns-then-not-shut_least-clause-keeps : goal.returns-then-not-shut_least-clause-keeps
returns-then-not-shut_least-clause-keeps g c =
    keeps_on g.E.Evaluator.past c.args.site.now c.args.growing.now c.leaves.growing
    c.shut_least.new.growing c.leaves.invariant.keeps c.shut_least.ensures.keeps
