use Rattle.std.proofs.Common.{◌∷◌, ◌+◌, ◌-◌, ℕ, List, length, take, drop, ap, sym, ◌∙◌}
use Rattle.std.proofs.lemmas.List.{take_rest}
use Rattle.text_lines.specs.Lines.{line_by, lines_by}
use Rattle.text_lines.proofs.Cutting.{lines_cut}
use Rattle.text_lines.proofs.lines.cut_line.Goals as goal

pub returns-then-at-rest-clause-cut : goal.returns-then-at-rest-clause-cut
returns-then-at-rest-clause-cut c =
    let drops = c.args.drops in
    let rest : List ℕ = c.args.rest.now in
    let at : ℕ = c.place_of-at.result in
    lines_cut drops rest at c.place_of-at.ensures.place c.if-at-rest.true
    ∙ ap (λ (left : List ℕ). line_by drops (take at rest) ∷ lines_by drops left)
    (sym (take_rest rest (at + 1)))
    ∙ ap
    (λ (line : List ℕ). line
    ∷ lines_by drops (take (length rest - (at + 1)) (drop (at + 1) rest)))
    (sym c.dropped.ensures)
