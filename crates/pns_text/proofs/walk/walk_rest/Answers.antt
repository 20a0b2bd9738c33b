use Rattle.std.proofs.Common.{◌∷◌, ℕ, List, ap, sym, ◌∙◌}
use Rattle.std.proofs.lemmas.Result.{err_from_is_err_and}
use Rattle.pns_text.specs.View.{walk_view}
use Rattle.pns_text.specs.Walk.{read_on}
use Rattle.pns_text.proofs.walk.walk_rest.Goals as goal

pub returns-in_err-step-clause-fault : goal.returns-in_err-step-clause-fault
returns-in_err-step-clause-fault c =
    let e = err_from_is_err_and c.from_residual.result c.from_residual.ensures.1 in
    let here = sym c.loop-number.invariant.to_come
    ∙ ap
    (λ (lines : List (List ℕ)). read_on (walk_view c.loop-number.walk)
    c.loop-number.lines.number lines) c.in-Some.ensures.line in
    let whole =
    here
    ∙ ap
    (λ (n : ℕ). read_on (walk_view c.loop-number.walk) n
    (c.in-Some.text.now ∷ c.next.new.self.lines)) (sym c.in-Some.ensures.number) in
    rw (e.1, e.2, whole) (c.in_err-step.ensures.fault c.next.new.self.lines)
