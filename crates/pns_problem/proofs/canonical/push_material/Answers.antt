use Rattle.std.proofs.Common.{◌++◌, [], ap, ◌∙◌, string_bytes}
use Rattle.text_rules.specs.Canonical.{kind_word, named}
use Rattle.text_rules.specs.problem_rules.Problem.{Material}
use Rattle.pns_problem.specs.Printing.{material_amounts}
use Rattle.pns_problem.proofs.PrintingLemmas.{line_of_items}
use Rattle.pns_problem.proofs.canonical.push_material.Goals as goal

pub returns : goal.returns
returns c =
    let m = c.args.material.now in
    let v = c.material.view_is in
    let old = string_bytes c.args.text.now in
    let t1 = string_bytes c.push_name.new.text in
    line_of_items old t1 (string_bytes c.push_kind.new.text)
    (string_bytes c.push_material_amounts.new.text) m.name (kind_word m.kind)
    (material_amounts m)
    (c.in_ok-push_name.ensures
    ∙ ap (λ n. old ++ named n []) (c.deref.ensures ∙ ap (λ (m : Material). m.name) v))
    (c.in_ok-push_kind.ensures ∙ ap (λ (m : Material). t1 ++ kind_word m.kind) v)
    c.in_ok-push_material_amounts.ensures
