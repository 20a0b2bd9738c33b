use Rattle.std.proofs.Common.{◌≡◌, ◌+◌, ℕ, Err, length, refl, ap, sym, ◌∙◌, arith}
use Rattle.text_lines.specs.Lines.{Coming}
use Rattle.periods.proofs.Taken.{ends_well, ends_badly}
use Rattle.periods.proofs.text.read_rest.Goals as goal

pub returns-in-Ok-clause-read : goal.returns-in-Ok-clause-read
returns-in-Ok-clause-read c =
    sym c.reading.invariant.to_come
    ∙ ends_well c.args.problem.now (c.args.lines.number + length c.args.lines.lines)
    c.reading.reading c.reading.lines (c.in_default.ensures.end refl)
    c.in-Ok.plan c.in_default-fault.is c.in-Ok.ensures.good c.in-Ok.ensures.plan

pub returns-clause-fault : goal.returns-clause-fault
returns-clause-fault c =
    let none : length c.reading.lines.lines ≡ 0 = ap length (c.in_default.ensures.end refl) in
    let number : c.number.result ≡ c.reading.lines.number =
    c.number.ensures ∙ ap (λ (k : Coming). k.number) (c.in_default.ensures.stays refl) in
    sym c.reading.invariant.to_come
    ∙ ends_badly c.args.problem.now (c.args.lines.number + length c.args.lines.lines)
    c.reading.reading c.reading.lines (c.in_default.ensures.end refl)
    c.in-Err.kind c.in_default-fault.is c.in-Err.ensures.fault
    ∙ ap (λ (n : ℕ). Err (n, c.in-Err.kind)) (omega (arith, none, number))
