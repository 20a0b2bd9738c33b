use Rattle.std.proofs.Common.{◌≡◌, SFits, rules, ap, ◌∙◌, ℤ}
use Rattle.std.specs.Int.{w64}
use Rattle.std.proofs.lemmas.Int.{to_z-of_z}
use Rattle.pgraph.specs.problem_rules.Problem.{Term}
use Rattle.flow_program.proofs.RateLemmas.{signed, write_one}
use Rattle.flow_program.proofs.rates.put.Goals as goal

pub writing-preserved : goal.writing-preserved
writing-preserved c =
    let t = c.term-item.result in
    let m : c.term.inside.material ≡ t.material = ap (λ (s : Term). s.material) c.term.view_is in
    let r : SFits w64 c.signed.result = search rules in
    let i : SFits w64 c.term.inside.rate = search rules in
    let e = simp to_z-of_z at c.signed.ensures in
    simp to_z-of_z
    (rw m
    (write_one c.args.terms.now c.args.used c.args.rates.now c.writing.rates
    c.writing.term-index c.args.materials t c.requires.few c.requires.formed c.writing-test.true
    c.term-item.is
    c.signed.result
    (e ∙ ap (λ (z : ℤ). signed c.args.used z) (ap (λ (s : Term). s.rate) c.term.view_is))
    c.writing.invariant))
