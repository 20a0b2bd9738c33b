use Rattle.std.proofs.Common.{◌≡◌, length, sym, ◌∙◌, arith}
use Rattle.text_lines.specs.View.{texts}
use Rattle.text_lines.proofs.Cited.{texts-long}
use Rattle.text_lines.specs.text_rules.Value.{unit_names_from}
use Rattle.pns_text.proofs.Counts.{units_few}
use Rattle.pns_text.proofs.value.parts_of.Goals as goal

pub exclusions-requires : goal.exclusions-requires
exclusions-requires c =
    let long : length c.deref.result.now ≡ length (unit_names_from c.args.lines.now) =
    sym (texts-long c.deref.result.now) ∙ (λ i. length (texts (c.deref.ensures.value i)))
    ∙ (λ i. length (c.in_ok-unit_names.ensures i)) in
    let le = units_few c.args.lines.now in
    let few = c.requires.few in
    omega (arith, long, le, few)
