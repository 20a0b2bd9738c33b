use Rattle.std.proofs.Common.{◌∷◌, [], ◌++◌, Ok, length, position, ap, sym, subst, refl, ◌∙◌, arith}
use Rattle.std.proofs.lemmas.Bool.Decides.{nat_tests}
use Rattle.std.proofs.lemmas.Result.{err_from_is_err_and}
use Rattle.std.specs.Str.{bytes_eq}
use Rattle.tree_text_rules.specs.number_sets.Sets.{AreBelow}
use Rattle.tree_text_rules.specs.problem_rules.Problem.{unit_names}
use Rattle.tree_text_rules.specs.Token as token
use Rattle.tree_text_rules.specs.declared.TreeKind.TheVariants.{Order, UnknownName}
use Rattle.tree_reading.specs.View.{tokens_in}
use Rattle.tree_reading.proofs.Failing.{fails_at}
use Rattle.tree_reading.proofs.Joining.{each_on, joined_first}
use Rattle.tree_reading.proofs.RisingUnits.{one_on, below_more}
use Rattle.tree_reading.proofs.unit_list.units_of.Goals as goal

pub reading-init : goal.reading-init
reading-init c =
    record {
      read = [];
      whole = joined_first _;
      front =
          record {
            rising = refl;
            same = λ on. c.empty-units.ensures;
            limit =
                λ u. grind (arith, nat_tests);
          };
      below = tt;
    }

pub returns-in_err-unit-clause-fault : goal.returns-in_err-unit-clause-fault
returns-in_err-unit-clause-fault c =
    let e = err_from_is_err_and c.from_residual.result c.from_residual.ensures.1 in
    rw (e.1, e.2)
    (ap (token.judged token.is_rising Order)
    (fails_at (λ t. position (λ name. bytes_eq name t) (unit_names c.args.problem.now.units))
    UnknownName refl _ c.reading.invariant.read c.first_token.result.0.now
    (tokens_in c.first_token.result.1)
    (tokens_in c.reading.rest) _ (sym c.in_err-unit.ensures.value)
    (ap tokens_in c.in-Some.is ∙ c.first_token.ensures.cut) c.reading.invariant.whole))

pub reading-preserved : goal.reading-preserved
reading-preserved c =
    let before = c.reading.invariant in
    let unit = c.in_ok-unit.unit in
    record {
      read = before.read ++ unit ∷ [];
      whole =
          each_on (token.unit_of c.args.problem.now) (Ok before.read)
          (Ok (before.read ++ unit ∷ [])) c.first_token.result.0.now
          (tokens_in c.first_token.result.1) (tokens_in c.reading.rest) _
          (rw (← c.in_ok-unit.ensures.value) refl)
          (ap tokens_in c.in-Some.is ∙ c.first_token.ensures.cut) before.whole;
      front =
          one_on c.reading.rises c.goes_on-rises.result c.reading.least c.max-least.result unit
          c.reading.units c.with-units.result before.read before.front c.goes_on-rises.ensures
          c.max-least.ensures c.with-units.ensures;
      below =
          below_more (length c.args.problem.now.units) unit before.read before.below
          c.in_ok-unit.ensures.below;
    }

pub returns-then-rises-clause-known : goal.returns-then-rises-clause-known
returns-then-rises-clause-known c = record {
  rising = c.rises.ensures.rising;
  below =
      subst (AreBelow (length c.args.problem.now.units))
      (sym (c.reading.invariant.front.same c.if-rises.true)) c.reading.invariant.below;
}
