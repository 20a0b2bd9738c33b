use Rattle.std.proofs.Common.{◌≡◌, ◌∷◌, ◌∙◌, [], List, ℤ, map, SFits, rules, sym, ap, refl}
use Rattle.std.specs.Int.{w128}
use Rattle.std.specs.Fmt.{signed_decimal}
use Rattle.std.proofs.lemmas.Int.{to_z-of_z}
use Rattle.tree_text_rules.specs.flow_rules.Cover.{Cover}
use Rattle.tree_text_rules.specs.tree_rules.Head as heads
use Rattle.branch_tree.specs.HeadView.{line_of}
use Rattle.branch_tree.specs.declared.line.HeadLine.{HeadLine}
use Rattle.tree_text_rules.specs.Spelling.{front_with_sets}
use Rattle.tree_text.proofs.Printed.{both_put, first_failed}
use Rattle.tree_text.proofs.front.put_front_line.Goals as goal

pub returns-in_err-put-in-Cap : goal.returns-in_err-put-in-Cap
returns-in_err-put-in-Cap g c =
    let p = c.args.problem.now in
    let d : SFits w128 c.d.result = search rules in
    let size : SFits w128 c.in-Cap.size = search rules in
    first_failed _ (simp to_z-of_z at c.in_err-put-in-Cap.ensures) c.from_residual.ensures.1
    (ap (λ (l : HeadLine). front_with_sets p (line_of l)) c.in-Cap.is
    ∙ ap
    (λ (s : ℤ × List ℤ). front_with_sets p
    (heads.cap c.in-Cap.unit c.in-Cap.size s.0 s.1 c.in-Cap.covers))
    (λ i. (sym c.d.ensures i, sym c.ys.ensures i)))

pub returns-in_ok-put-in-Cap : goal.returns-in_ok-put-in-Cap
returns-in_ok-put-in-Cap g c =
    let p = c.args.problem.now in
    let d : SFits w128 c.d.result = search rules in
    let size : SFits w128 c.in-Cap.size = search rules in
    both_put (simp to_z-of_z at c.in_ok-put-in-Cap.ensures) c.put_covers.ensures
    (ap (λ (l : HeadLine). front_with_sets p (line_of l)) c.in-Cap.is
    ∙ ap
    (λ (s : ℤ × List ℤ × List Cover). front_with_sets p
    (heads.cap c.in-Cap.unit c.in-Cap.size s.0 s.1 s.2))
    (λ i. (sym c.d.ensures i, sym c.ys.ensures i, sym c.covers.ensures i)))

pub returns-in_err-put-in-Out : goal.returns-in_err-put-in-Out
returns-in_err-put-in-Out g c =
    let p = c.args.problem.now in
    let d : SFits w128 c.d-in-Out.result = search rules in
    first_failed _ (simp to_z-of_z at c.in_err-put-in-Out.ensures)
    c.from_residual-in_err-put-in-Out.ensures.1
    (ap (λ (l : HeadLine). front_with_sets p (line_of l)) c.in-Out.is
    ∙ ap
    (λ (s : ℤ × List ℤ). front_with_sets p (heads.out c.in-Out.unit s.0 s.1 c.in-Out.covers))
    (λ i. (sym c.d-in-Out.ensures i, sym c.ys-in-Out.ensures i)))

pub returns-in_ok-put-in-Out : goal.returns-in_ok-put-in-Out
returns-in_ok-put-in-Out g c =
    let p = c.args.problem.now in
    let d : SFits w128 c.d-in-Out.result = search rules in
    both_put (simp to_z-of_z at c.in_ok-put-in-Out.ensures) c.put_covers-in-Out.ensures
    (ap (λ (l : HeadLine). front_with_sets p (line_of l)) c.in-Out.is
    ∙ ap
    (λ (s : ℤ × List ℤ × List Cover). front_with_sets p (heads.out c.in-Out.unit s.0 s.1 s.2))
    (λ i. (sym c.d-in-Out.ensures i, sym c.ys-in-Out.ensures i, sym c.covers-in-Out.ensures i)))

pub returns-in_err-put-in-Use : goal.returns-in_err-put-in-Use
returns-in_err-put-in-Use g c =
    let p = c.args.problem.now in
    let d : SFits w128 c.d-in-Use.result = search rules in
    let amount : SFits w128 c.in-Use.amount = search rules in
    let worth : SFits w128 c.in-Use.worth = search rules in
    first_failed _ (simp to_z-of_z at c.in_err-put-in-Use.ensures)
    c.from_residual-in_err-put-in-Use.ensures.1
    (ap (λ (l : HeadLine). front_with_sets p (line_of l)) c.in-Use.is
    ∙ ap
    (λ (s : ℤ × List ℤ). front_with_sets p
    (heads.uses
    (record { of = c.in-Use.material; amount = c.in-Use.amount; worth = c.in-Use.worth }) s.0 s.1
    c.in-Use.covers))
    (λ i. (sym c.d-in-Use.ensures i, sym c.ys-in-Use.ensures i)))

pub returns-in_ok-put-in-Use : goal.returns-in_ok-put-in-Use
returns-in_ok-put-in-Use g c =
    let p = c.args.problem.now in
    let d : SFits w128 c.d-in-Use.result = search rules in
    let amount : SFits w128 c.in-Use.amount = search rules in
    let worth : SFits w128 c.in-Use.worth = search rules in
    both_put (simp to_z-of_z at c.in_ok-put-in-Use.ensures) c.put_covers-in-Use.ensures
    (ap (λ (l : HeadLine). front_with_sets p (line_of l)) c.in-Use.is
    ∙ ap
    (λ (s : ℤ × List ℤ × List Cover). front_with_sets p
    (heads.uses
    (record { of = c.in-Use.material; amount = c.in-Use.amount; worth = c.in-Use.worth }) s.0 s.1
    s.2))
    (λ i. (sym c.d-in-Use.ensures i, sym c.ys-in-Use.ensures i, sym c.covers-in-Use.ensures i)))
