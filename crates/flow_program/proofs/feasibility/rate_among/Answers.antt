use Rattle.std.proofs.Common.{◌∙◌, sym, SFits, rules, ap}
use Rattle.std.specs.Int.{w64}
use Rattle.std.proofs.lemmas.Int.{to_z-of_z}
use Rattle.pgraph.specs.problem_rules.Problem.{Term}
use Rattle.flow_program.proofs.RateLemmas.{rate_found, rate_skipped}
use Rattle.flow_program.proofs.feasibility.rate_among.Goals as goal

pub returns-then-term-j : goal.returns-then-term-j
returns-then-term-j c =
    let i : SFits w64 c.term.inside.rate = search rules in
    simp to_z-of_z (ap (λ (s : Term). s.rate) c.term.view_is
    ∙ rate_found c.args.terms.now c.looking.term-index c.args.j c.term-item.result
    c.looking-test.true c.term-item.is c.looking.invariant
    (sym (ap (λ (s : Term). s.material) c.term.view_is) ∙ c.if-term-j.true))

pub looking-preserved : goal.looking-preserved
looking-preserved c =
    rate_skipped c.args.terms.now c.looking.term-index c.args.j c.term-item.result
    c.looking-test.true c.term-item.is c.looking.invariant
    (λ e. c.if-term-j.false (ap (λ (s : Term). s.material) c.term.view_is ∙ e))
