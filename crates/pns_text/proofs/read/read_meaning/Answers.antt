use Rattle.std.proofs.Common.{◌∙◌}
use Rattle.pns_text.proofs.Reading.{meaning_none, with_one}
use Rattle.pns_text.proofs.read.read_meaning.Goals as goal

pub with_product-requires : goal.with_product-requires
with_product-requires c = λ product.
    c.requires.valid c.in_ok-parts-in-None.parts
    (meaning_none c.args.lines.now c.args.number c.settings_of-settings.result c.args.names.now
    c.in_ok-parts-in-None.parts c.settings_of-settings.ensures c.requires.names
    c.in-None.ensures c.in_ok-parts-in-None.ensures
    ∙ with_one c.in_ok-parts-in-None.parts c.args.number product)
