use Rattle.std.proofs.Common.{◌≡◌, ap, ◌∙◌, subst, ℕ, ◌||◌, List, true, false, cond, get_or, pos}
use Rattle.pgraph.specs.number_sets.Sets.{has}
use Rattle.pgraph.proofs.number_sets.Cited.{has-union}
use Rattle.pgraph.specs.problem_rules.Problem.{OperatingUnit, Term, unit_at, terms_have, rate_in}
use Rattle.pgraph.specs.pns_rules.Shape.{Shape}
use Rattle.pgraph.proofs.flow_rules.Cited.{unit_formed}
use Rattle.flow_program.proofs.RateLemmas.{are_rates, unit_read, signed}
use Rattle.flow_program.proofs.rates.put_rates.Goals as goal

pub returns : goal.returns
returns c =
    let p = c.args.problem.now in
    let u = c.args.u in
    let is : c.index-units-u.result ≡ unit_at p u =
    unit_read p c.units.result.now u c.index-units-u.result c.units.ensures c.requires.unit
    c.index-units-u.is in
    let outs : c.deref.result.now ≡ (unit_at p u).outputs =
    c.deref.ensures.value ∙ ap (λ (x : OperatingUnit). x.outputs) (c.unit.view_is ∙ is) in
    let ins : c.deref-2.result.now ≡ (unit_at p u).inputs =
    c.deref-2.ensures.value ∙ ap (λ (x : OperatingUnit). x.inputs) (c.unit.view_is ∙ is) in
    are_rates p u (unit_formed p c.is_valid.ensures.well_formed u c.requires.unit) c.union.result
    c.args.rates.now c.put.new.rates c.put-2.new.rates c.put-2.ensures.size
    (subst (λ (ts : List Term). (x : ℕ)
    → get_or c.put.new.rates x (pos 0)
    ≡ cond (terms_have ts x) (signed false (rate_in ts x)) (get_or c.args.rates.now x (pos 0)))
    outs c.put.ensures.written)
    (subst (λ (ts : List Term). (x : ℕ)
    → get_or c.put-2.new.rates x (pos 0)
    ≡ cond (terms_have ts x) (signed true (rate_in ts x)) (get_or c.put.new.rates x (pos 0)))
    ins c.put-2.ensures.written)
    (λ x. ap (λ (xs : List ℕ). has xs x) c.union.ensures
    ∙ has-union c.inputs.result c.outputs.result x
    ∙ ap (λ b. b || has c.outputs.result x)
    (ap (λ f. f x) c.inputs.ensures ∙ ap (λ (g : Shape). g.uses u x) c.requires.graph)
    ∙ ap (λ b. terms_have (unit_at p u).inputs x || b)
    (ap (λ f. f x) c.outputs.ensures ∙ ap (λ (g : Shape). g.makes u x) c.requires.graph))
