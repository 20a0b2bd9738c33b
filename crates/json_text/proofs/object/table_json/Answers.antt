use Rattle.std.proofs.Common.{◌≡◌, ◌++◌, ◌∷◌, [], ◌∙◌, ap, ℕ, List, codes}
use Rattle.tree_reading.specs.pns_problem.Printing.{printed}
use Rattle.report_rules.specs.Json.{quoted, with_comma, comma_lines}
use Rattle.report_rules.specs.Facts.{text_member}
use Rattle.json_text.proofs.Pieces.{two_blocks, three_blocks}
use Rattle.json_text.proofs.object.table_json.Goals as goal

pub returns : goal.returns
returns c =
    let t0 = c.new-text.result.items in
    let t1 = c.push_line.new.text.items in
    let t2 = c.push_line-2.new.text.items in
    let t3 = c.push_line-3.new.text.items in
    let t4 = c.push_comma_lines.new.text.items in
    let t5 = c.push_line-4.new.text.items in
    let t6 = c.push_line-5.new.text.items in
    let claim : List ℕ = with_comma (text_member (codes "claim") (codes "ranges")) in
    let key : List ℕ = quoted (codes "ranges") ++ 58 ∷ 32 ∷ 91 ∷ [] in
    let values : List (List ℕ) = c.in_ok-values.values.items in
    let front : t3 ≡ t0 ++ printed ((123 ∷ []) ∷ claim ∷ key ∷ []) =
    three_blocks t0 t1 t2 t3 ((123 ∷ []) ∷ []) (claim ∷ []) (key ∷ []) c.in_ok-push_line.ensures
    c.in_ok-push_line-2.ensures c.in_ok-push_line-3.ensures in
    let back : t6 ≡ t4 ++ printed ((93 ∷ []) ∷ (125 ∷ []) ∷ []) =
    two_blocks t4 t5 t6 ((93 ∷ []) ∷ []) ((125 ∷ []) ∷ []) c.in_ok-push_line-4.ensures
    c.in_ok-push_line-5.ensures in
    three_blocks t0 t3 t4 t6 ((123 ∷ []) ∷ claim ∷ key ∷ []) (comma_lines values)
    ((93 ∷ []) ∷ (125 ∷ []) ∷ []) front
    (c.in_ok-push_comma_lines.ensures
    ∙ ap (λ (vs : List (List ℕ)). t3 ++ printed (comma_lines vs)) c.deref.ensures.value) back
    ∙ (λ i. c.new-text.ensures.items i
    ++ printed ((123 ∷ []) ∷ claim ∷ key
    ∷ (comma_lines (c.in_ok-values.ensures i) ++ (93 ∷ []) ∷ (125 ∷ []) ∷ [])))
