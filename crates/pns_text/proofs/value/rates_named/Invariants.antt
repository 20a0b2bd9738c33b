use Rattle.std.proofs.Common.{◌≡◌, drop, find, option_map}
use Rattle.std.specs.Str.{bytes_eq}
use Rattle.text_lines.specs.text_rules.Line.{Placed, head_of, lines_at}
use Rattle.text_lines.specs.text_rules.declared.Section.TheVariants.{Rates}
use Rattle.text_lines.specs.text_rules.Term.{pairs_at}
use Rattle.pns_text.proofs.value.rates_named.Given as goal

abbrev pub invariant-loop-line : goal.invariant-loop-line
invariant-loop-line l = option_map (λ (line : Placed). pairs_at line.text) (find
    (λ (line : Placed). bytes_eq (head_of line.text) l.name)
    (lines_at Rates (drop l.line-index l.lines)))
    ≡ option_map (λ (line : Placed). pairs_at line.text)
    (find (λ (line : Placed). bytes_eq (head_of line.text) l.name) (lines_at Rates l.lines))
