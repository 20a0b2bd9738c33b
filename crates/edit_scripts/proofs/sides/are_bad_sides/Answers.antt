use Rattle.std.proofs.Common.{List, ap, sym, ◌∙◌}
use Rattle.text_lines.specs.Once.{once}
use Rattle.text_lines.specs.Terms.{terms_view}
use Rattle.text_lines.specs.declared.term.Term.{Term}
use Rattle.text_lines.specs.edit_rules.Term.{materials_of}
use Rattle.edit_scripts.proofs.BothSides.{double_input, double_output}
use Rattle.edit_scripts.proofs.sides.are_bad_sides.Goals as goal

pub returns-then-is_none : goal.returns-then-is_none
returns-then-is_none c =
    double_input c.in_ok-materials_once.field-0 (terms_view c.args.sides.now.inputs.items)
    (terms_view c.args.sides.now.outputs.items)
    (c.in_ok-materials_once.ensures
    ∙ ap (λ (terms : List Term). once (materials_of (terms_view terms))) c.deref.ensures.value)
    c.if-is_none.ensures

pub returns-in-None : goal.returns-in-None
returns-in-None c =
    double_output (terms_view c.args.sides.now.inputs.items)
    (terms_view c.args.sides.now.outputs.items)
    (sym c.in-None.is ∙ c.in_ok-names.ensures
    ∙ ap (λ (terms : List Term). once (materials_of (terms_view terms)))
    c.deref-2.ensures.value)
