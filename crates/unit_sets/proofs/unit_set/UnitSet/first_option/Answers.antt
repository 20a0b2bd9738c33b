use Rattle.std.proofs.Common.{List, ℕ, [], sym, ap, ◌∙◌, subst}
use Rattle.std.proofs.lemmas.Bool.{both_ways}
use Rattle.number_sets.specs.Sets.{with_number}
use Rattle.number_sets.specs.Options.{IsFirstOption}
use Rattle.number_sets.proofs.Cited.{base_first, least_first}
use Rattle.unit_sets.proofs.unit_set.UnitSet.first_option.Goals as goal

pub returns-then-not-is_empty-clause-first : goal.returns-then-not-is_empty-clause-first
returns-then-not-is_empty-clause-first c =
    base_first 128 c.args.base c.args.free c.rises.ensures c.rises-2.ensures c.requires
    (λ e. both_ways c.is_empty.result c.if-not-is_empty.true (c.is_empty.ensures.1 e))

pub returns-in-Some-clause-first : goal.returns-in-Some-clause-first
returns-in-Some-clause-first c =
    let empty = c.is_empty.ensures.0 c.if-not-is_empty.false in
    let one = c.with.ensures ∙ ap (λ (xs : List ℕ). with_number c.in-Some.u xs) c.empty.ensures in
    let first =
    least_first c.args.free c.in-Some.u c.rises-2.ensures.rising (sym c.in-Some.ensures) in
    subst (λ (b : List ℕ). IsFirstOption b c.args.free c.with.result) (sym empty)
    (subst (λ (r : List ℕ). IsFirstOption [] c.args.free r) (sym one) first)
