use Rattle.std.proofs.Common.{◌++◌, ◌∷◌, [], ◌∙◌, ap, ℕ, List, Option, codes}
use Rattle.report_amounts.specs.report_rules.Measures.{with_measure, price_measure}
use Rattle.report_tables.proofs.Pieces.{after_five, row_of}
use Rattle.report_tables.proofs.materials.material_heading.Goals as goal

abbrev flows : Option (List ℕ) → List (List ℕ)
flows mass = with_measure mass (codes "made") ∷ with_measure mass (codes "used")
    ∷ with_measure mass (codes "net") ∷ []

pub returns : goal.returns
returns c =
    let ms = c.args.measures.now in
    let price = price_measure ms.money ms.mass in
    let r0 = c.in_ok-row.row in
    let r2 = c.push_words.new.row in
    let r3 = c.push_heading.new.row in
    let r4 = c.push_heading-2.new.row in
    row_of r0 c.push_heading-3.new.row (codes "material" ∷ codes "kind" ∷ [])
    (flows ms.mass ++ (codes "limit" ∷ with_measure price (codes "price")
    ∷ with_measure ms.money (codes "cost") ∷ with_measure price (codes "marginal") ∷ []))
    c.in_ok-row.ensures
    (after_five r0 c.push_headings.new.row r2 r3 r4 c.push_heading-3.new.row
    (flows ms.mass) (codes "limit" ∷ []) (with_measure price (codes "price") ∷ [])
    (with_measure ms.money (codes "cost") ∷ []) (with_measure price (codes "marginal") ∷ [])
    (c.in_ok-push_headings.ensures
    ∙ ap (λ (m : Option (List ℕ)). r0 ++ flows m) c.mass.ensures)
    c.in_ok-push_words.ensures
    (c.in_ok-push_heading.ensures
    ∙ ap (λ (m : Option (List ℕ)). r2 ++ with_measure m (codes "price") ∷ [])
    c.in_ok-price.ensures)
    (c.in_ok-push_heading-2.ensures
    ∙ ap (λ (m : Option (List ℕ)). r3 ++ with_measure m (codes "cost") ∷ []) c.money.ensures)
    (c.in_ok-push_heading-3.ensures
    ∙ ap (λ (m : Option (List ℕ)). r4 ++ with_measure m (codes "marginal") ∷ [])
    c.in_ok-price.ensures))
