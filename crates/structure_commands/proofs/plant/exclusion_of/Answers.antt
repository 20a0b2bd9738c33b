use Rattle.std.proofs.Common.{◌≡◌, ◌<◌, ◌∙◌, ap, sym, subst, arith, length, get_or, List}
use Rattle.std.proofs.lemmas.List.{get_or_default}
use Rattle.text_lines.specs.number_sets.Sets.{has}
use Rattle.text_lines.specs.problem_rules.Problem.{Exclusion, no_exclusion, exclusion_at}
use Rattle.structure_commands.proofs.plant.exclusion_of.Goals as goal

-- the units of an exclusion of a valid problem are units of the problem
pub returns-clause-members : goal.returns-clause-members
returns-clause-members c u e =
    let p = c.args.problem.now in
    let k = c.args.k in
    let there =
    subst (λ (es : List Exclusion). k < length es) (sym c.exclusions.ensures) c.requires in
    let same : c.index-exclusions-k.result ≡ exclusion_at p k =
    c.index-exclusions-k.is
    ∙ get_or_default c.exclusions.result.now k c.index-exclusions-k.result no_exclusion there
    ∙ ap (λ (es : List Exclusion). get_or es k no_exclusion) c.exclusions.ensures in
    let known =
    (c.valid_is_proper.ensures p c.is_valid.ensures.valid).excluded_known k u
    (ap (λ (x : Exclusion). has x.units u) (sym same) ∙ e) in
    omega (arith, known.1, c.is_valid.ensures.well_formed.few_units)
