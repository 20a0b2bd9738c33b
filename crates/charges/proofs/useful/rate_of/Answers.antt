use Rattle.std.proofs.Common.{◌<◌, ◌≤◌, ◌∙◌, sym, ap, subst, ℤ, length, SFits, rules}
use Rattle.std.specs.Prelude.{unsigned_abs}
use Rattle.std.specs.Int.{w64}
use Rattle.std.proofs.lemmas.Int.{to_z-of_z}
use Rattle.structure_list.specs.problem_rules.Problem.{Problem, rate_of}
use Rattle.structure_list.proofs.problem_rules.Cited.{well_formed_from_valid}
use Rattle.charges.proofs.UseLemmas.{rate_small}
use Rattle.charges.proofs.useful.rate_of.Goals as goal

pub rate_at-requires : goal.rate_at-requires
rate_at-requires c = subst (λ (q : Problem). c.args.u < length q.units) (sym c.problem.ensures.same)
    c.requires

pub returns-clause-value : goal.returns-clause-value
returns-clause-value c =
    let r : SFits w64 c.rate_at.result = search rules in
    simp to_z-of_z
    (c.rate_at.ensures ∙ ap (λ (q : Problem). rate_of q c.args.j c.args.u) c.problem.ensures.same)

pub returns-clause-small : goal.returns-clause-small
returns-clause-small c =
    let r : SFits w64 c.rate_at.result = search rules in
    simp to_z-of_z
    (subst (λ (z : ℤ). unsigned_abs z ≤ 2000000000000000)
    (sym
    (c.rate_at.ensures ∙ ap (λ (q : Problem). rate_of q c.args.j c.args.u)
    c.problem.ensures.same))
    (rate_small c.args.site.now (well_formed_from_valid c.args.site.now c.problem.ensures.valid)
    c.args.j c.args.u c.requires))
