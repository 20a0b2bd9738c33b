use Rattle.std.proofs.Common.{Option, sym, subst}
use Rattle.node_evaluation.specs.exact_numbers.Number.{numerator, denominator}
use Rattle.node_evaluation.specs.tree_rules.Claim.{CostOver, IsAtMost}
use Rattle.abb_search.specs.Rounds.{undercut_of}
use Rattle.abb_search.proofs.RoundLemmas.{undercuts_by, reaches}
use Rattle.abb_search.proofs.rounds.Goal.may_be_undercut.Goals as goal

pub returns-in-Some : goal.returns-in-Some
returns-in-Some c =
    let s = c.args.growing.now in
    let undercut = undercut_of c.args.self.now s in
    let at = c.args.leaf in
    let r = c.reached_at-reached.result in
    let is = c.in-Some.ensures in (
      λ t. undercuts_by s undercut at r c.reached_at-reached.ensures
          (subst (λ (o : Option CostOver). IsAtMost o (numerator r) (denominator r)) is
          (c.is_within.ensures.0 t)),
      λ may. c.is_within.ensures.1
          (subst (λ (o : Option CostOver). IsAtMost o (numerator r) (denominator r)) (sym is)
          (reaches s undercut at r c.reached_at-reached.ensures may)),
    )
