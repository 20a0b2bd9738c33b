use Rattle.std.proofs.Common.{◌∷◌, ℕ, List, ap, sym, ◌∙◌}
use Rattle.std.proofs.lemmas.Result.{err_from_is_err_and}
use Rattle.edit_scripts.specs.Walk.{read_on}
use Rattle.edit_scripts.proofs.read.walk_rest.Goals as goal

pub returns-in_err-take-clause-fault : goal.returns-in_err-take-clause-fault
returns-in_err-take-clause-fault c =
    let e = err_from_is_err_and c.from_residual.result c.from_residual.ensures.1 in
    let here = sym c.reading.invariant
    ∙ ap (λ (lines : List (List ℕ)). read_on c.reading.walk c.reading.lines.number lines)
    c.in-Some.ensures.line in
    let whole =
    here ∙ ap (λ (n : ℕ). read_on c.reading.walk n (c.in-Some.text.now ∷ c.next.new.self.lines))
    (sym c.in-Some.ensures.number) in
    rw (e.1, e.2, whole) (c.in_err-take.ensures.fault c.next.new.self.lines)
