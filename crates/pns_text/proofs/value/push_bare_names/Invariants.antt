use Rattle.std.proofs.Common.{◌≡◌, ◌++◌, map, take}
use Rattle.text_lines.specs.text_rules.Line.{Placed, head_of}
use Rattle.text_lines.specs.View.{texts}
use Rattle.text_lines.specs.text_rules.Value.{bare_lines}
use Rattle.pns_text.proofs.value.push_bare_names.Given as goal

abbrev pub invariant-loop-line : goal.invariant-loop-line
invariant-loop-line l = texts l.all.items ≡ texts l.initial.all.items ++ map (λ (line : Placed).
    head_of line.text) (bare_lines l.units (take l.line-index l.lines))
