use Rattle.std.proofs.Common.{◌∙◌, ap, sym, []}
use Rattle.text_rules.specs.problem_rules.Draws.{state_after}
use Rattle.text_rules.specs.problem_rules.Generated.{unit, unit_in_turn}
use Rattle.pns_problem.proofs.DrawLemmas.{five_more}
use Rattle.pns_problem.proofs.RangeLemmas.{made_more}
use Rattle.pns_problem.proofs.units.units_of.Goals as goal

pub making-preserved : goal.making-preserved
making-preserved c = record {
  units =
      made_more (unit_in_turn c.args.count c.args.draws.now.state) [] _ _ c.making.number _
      c.making.invariant.units
      (c.in_ok-unit.ensures.unit
      ∙ ap (λ state. unit c.args.count state c.making.number) c.making.invariant.advanced)
      c.in_ok-push.ensures.items;
  advanced = c.in_ok-unit.ensures.advanced
      ∙ (ap (state_after 5) c.making.invariant.advanced
      ∙ sym (five_more c.making.number c.args.draws.now.state));
}
