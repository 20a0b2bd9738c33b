use Rattle.std.proofs.Common.{◌≡◌, ◌++◌, ◌∷◌, [], ◌∙◌, ap, ℕ, List, Option, codes, string_bytes}
use Rattle.report_amounts.specs.report_rules.Measures.{with_measure, time_words}
use Rattle.report_amounts.specs.report_rules.Report.{money_heading}
use Rattle.report_tables.proofs.Pieces.{after, row_of}
use Rattle.report_tables.proofs.money.money_heading.Goals as goal

pub returns : goal.returns
returns c =
    let ms = c.args.measures.now in
    let r0 = c.new-row.result in
    let r1 = c.push.new.self in
    let r2 = c.push_heading.new.row in
    let words : string_bytes c.push_time.new.text ≡ codes "in " ++ time_words ms.time =
    c.in_ok-push_time.ensures
    ∙ (λ i. c.in_ok-time.ensures.ok i ++ time_words (c.time.ensures i)) in
    row_of r0 r2 [] (money_heading ms) c.new-row.ensures
    (after r0 r1 r2 ((codes "in " ++ time_words ms.time) ∷ [])
    (with_measure ms.money (codes "money") ∷ [])
    (c.in_ok-push.ensures.appended ∙ ap (λ (t : List ℕ). r0 ++ t ∷ []) words)
    (c.in_ok-push_heading.ensures
    ∙ ap (λ (m : Option (List ℕ)). r1 ++ with_measure m (codes "money") ∷ []) c.money.ensures))
