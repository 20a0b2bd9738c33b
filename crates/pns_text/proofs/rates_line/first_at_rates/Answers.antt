use Rattle.std.proofs.Common.{◌≡◌, ◌++◌, false, sym, ◌∙◌}
use Rattle.text_lines.specs.Terms.{terms_view}
use Rattle.pns_text.proofs.RateKinds.{no_kind_stands}
use Rattle.pns_text.proofs.rates_line.first_at_rates.Goals as goal

pub returns-then-not-has_faulty : goal.returns-then-not-has_faulty
returns-then-not-has_faulty c =
    let off : c.has_faulty.result ≡ false = search in
    sym (no_kind_stands
    (terms_view c.args.sides.now.inputs.items ++ terms_view c.args.sides.now.outputs.items)
    c.args.kinds.now (sym c.has_faulty.ensures ∙ off))
