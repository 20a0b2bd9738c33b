use Rattle.std.proofs.Common.{◌++◌, ap, ◌∙◌, string_bytes}
use Rattle.text_rules.specs.Canonical.{token_text, side_tokens}
use Rattle.text_rules.specs.problem_rules.Problem.{OperatingUnit, material_names}
use Rattle.pns_problem.proofs.PrintingLemmas.{line_of_rates}
use Rattle.pns_problem.proofs.canonical.push_rates.Goals as goal

pub returns : goal.returns
returns c =
    let names = material_names c.args.materials.now in
    let v = c.unit.view_is in
    let t1 = string_bytes c.push_name.new.text in
    let t3 = string_bytes c.push_str.new.self in
    line_of_rates names c.args.unit.now c.deref.result.now (string_bytes c.args.text.now) t1
    (string_bytes c.push_side.new.text) t3 (string_bytes c.push_side-2.new.text)
    (c.deref.ensures ∙ ap (λ (u : OperatingUnit). u.name) v)
    c.requires.some_inputs c.requires.some_outputs
    c.in_ok-push_name.ensures
    (c.in_ok-push_side.ensures
    ∙ ap (λ terms. t1 ++ token_text (side_tokens names terms))
    (c.deref-2.ensures.value ∙ ap (λ (u : OperatingUnit). u.inputs) v))
    c.in_ok-push_str.ensures.bytes
    (c.in_ok-push_side-2.ensures
    ∙ ap (λ terms. t3 ++ token_text (side_tokens names terms))
    (c.deref-3.ensures.value ∙ ap (λ (u : OperatingUnit). u.outputs) v))
