use Rattle.std.proofs.Common.{◌≡◌, ◌∙◌, ap, subst, true, get_or, ℕ, List}
use Rattle.text_lines.specs.number_sets.Sets.{has}
use Rattle.text_lines.specs.problem_rules.Problem.{Exclusion}
use Rattle.cert_check.proofs.pgraph.Cited.{has-get}
use Rattle.structure_commands.proofs.exclusion.is_alone.Goals as goal

pub has-requires : goal.has-requires
has-requires c =
    let us = c.deref-u-items.result.now in
    let i = c.counting.u-index in
    let same : us ≡ c.args.exclusion.now.units =
    c.deref-u-items.ensures.value ∙ ap (λ (e : Exclusion). e.units) c.exclusion.view_is in
    c.requires (get_or us i 0)
    (subst (λ (xs : List ℕ). has xs (get_or us i 0) ≡ true) same
    (has-get us i 0 c.counting-test.true))
