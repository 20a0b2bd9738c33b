use Rattle.std.proofs.Common.{◌≡◌, true, ℕ, List, length, sym, ap, ◌∙◌, subst, arith}
use Rattle.std.proofs.lemmas.Bool.{ltb-true, lt-ltb, both_ways}
use Rattle.tree_text_laws.specs.number_sets.Sets.{has}
use Rattle.tree_text_laws.proofs.number_sets.Cited.{below_from, has_below}
use Rattle.tree_text_laws.specs.problem_rules.Problem.{OperatingUnit}
use Rattle.tree_parts.proofs.Tokens.{one_set}
use Rattle.tree_parts.proofs.set.units_named.Goals as goal

pub returns-then-within-clause-some : goal.returns-then-within-clause-some
returns-then-within-clause-some c =
    let n = length c.args.problem.now.units in
    let units = c.in-Ok.units in
    let same = ap (λ (us : List OperatingUnit). length us) c.units.ensures in (
      record {
        rising = c.rises.ensures.rising;
        below =
            below_from n units (λ u h. let less =
            ltb-true u _ (sym (c.below.ensures u) ∙ (c.within.ensures.0 c.if-within.true) u h) in
            omega (arith, less, same));
      },
      c.in-Ok.ensures.token,
    )

pub returns-else-within-clause-none : goal.returns-else-within-clause-none
returns-else-within-clause-none c = λ units is e.
    let n = length c.args.problem.now.units in
    let few = c.is_valid.ensures.well_formed.few_units in
    let same = ap (λ (us : List OperatingUnit). length us) c.units.ensures in
    let found : c.in-Ok.units ≡ units =
    one_set n c.args.word.now c.in-Ok.units units few c.rises.ensures is c.in-Ok.ensures.token
    e in
    both_ways c.within.result c.if-within.false
    (c.within.ensures.1 (λ u h. c.below.ensures u
    ∙ lt-ltb u _ (let less =
    has_below n units u is.below (subst (λ (us : List ℕ). has us u ≡ true) found h) in
    omega (arith, less, same))))
