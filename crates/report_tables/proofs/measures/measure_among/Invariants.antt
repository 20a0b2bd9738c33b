use Rattle.std.proofs.Common.{◌≡◌, length}
use Rattle.text_lines.specs.text_rules.declared.Section.TheVariants.{Preamble}
use Rattle.report_amounts.specs.report_rules.Measures.{measure_among}
use Rattle.report_tables.proofs.measures.measure_among.Given as goal

abbrev pub invariant-looking : goal.invariant-looking
invariant-looking l = measure_among l.key l.section l.lines.lines
    ≡ measure_among l.key Preamble l.initial.lines.lines

abbrev pub decreases-looking : goal.decreases-looking
decreases-looking l = length l.lines.lines
