use Rattle.std.proofs.Common.{◌≡◌, ◌++◌, ◌∙◌, ap, ℕ, length, string_bytes}
use Rattle.std.specs.Prelude.{nat_lt}
use Rattle.text_lines.specs.number_sets.Sets.{has, listed}
use Rattle.cert_check.specs.pns_rules.Shape.{Shape}
use Rattle.report_amounts.specs.report_rules.Report.{names_or_none}
use Rattle.report_amounts.specs.report_rules.Clash.{names_of}
use Rattle.report_tables.proofs.Pieces.{after}
use Rattle.report_tables.proofs.NamedUnits.{named_are}
use Rattle.report_tables.proofs.clash_text.push_names.Goals as goal

pub returns : goal.returns
returns c =
    let p = c.args.site.now in
    let t1 = string_bytes c.push_str.new.self in
    let count : c.unit_count.result ≡ length p.units =
    c.unit_count.ensures ∙ ap (λ (g : Shape). g.units) c.graph.ensures.same in
    let named : c.meet.result ≡ listed (length p.units) (has c.args.units)
    = c.meet.ensures
    ∙ named_are (length p.units) c.args.units c.below-all.result c.rises.ensures
    (λ u. c.below-all.ensures u ∙ ap (λ (n : ℕ). nat_lt u n) count) in
    after (string_bytes c.args.text.now) t1 (string_bytes c.push_names_or_none.new.text)
    c.args.words.now (names_of p (has c.args.units))
    c.in_ok-push_str.ensures.bytes
    (c.in_ok-push_names_or_none.ensures
    ∙ (λ i. t1 ++ names_or_none (c.problem.ensures.same i) (named i)))
