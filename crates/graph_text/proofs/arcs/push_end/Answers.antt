use Rattle.std.proofs.Common.{◌≡◌, ◌∙◌, ◌++◌, ◌∷◌, [], sym, ap, codes, append_assoc, arith, ℕ, List}
use Rattle.std.proofs.Common.{string_bytes}
use Rattle.report_amounts.proofs.pns_problem.Cited.{after}
use Rattle.report_amounts.specs.report_rules.Graph.{arc_tip, arc_look}
use Rattle.graph_text.specs.Kept.{picture_of}
use Rattle.graph_text.proofs.Lines.{after_three}
use Rattle.graph_text.proofs.arcs.push_end.Goals as goal

pub returns : goal.returns
returns c =
    let d = picture_of c.args.picture.now in
    let u = c.args.u in
    let t = c.args.term.now in
    let old = string_bytes c.args.text.now in
    let t1 = string_bytes c.push_str.new.self in
    let t2 = string_bytes c.push_tip.new.text in
    let t3 = string_bytes c.push.new.self in
    let t4 = string_bytes c.push_look.new.text in
    let t5 = string_bytes c.push_str-2.new.self in
    let tip = arc_tip d u t in
    let look = arc_look d d.network u t in
    after old t1 t5 (codes " [tooltip=\"") (tip ++ 34 ∷ (look ++ 93 ∷ 59 ∷ []))
    c.in_ok-push_str.ensures.bytes
    (after t1 t2 t5 tip (34 ∷ (look ++ 93 ∷ 59 ∷ [])) c.in_ok-push_tip.ensures
    (after_three t2 t3 t4 t5 (34 ∷ []) look (93 ∷ 59 ∷ [])
    (c.in_ok-push.ensures.bytes
    ∙ ap (λ (l : List ℕ). t2 ++ l) (c.in_ok-push.ensures.ascii (omega arith)))
    c.in_ok-push_look.ensures c.in_ok-push_str-2.ensures.bytes))
    ∙ ap (λ (l : List ℕ). old ++ (codes " [tooltip=\"" ++ l))
    (sym (append_assoc tip (34 ∷ look) (93 ∷ 59 ∷ [])))
