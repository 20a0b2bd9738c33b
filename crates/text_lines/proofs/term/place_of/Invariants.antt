use Rattle.std.proofs.Common.{◌≡◌, ◌+◌, drop}
use Rattle.std.specs.List.{position_or_len}
use Rattle.std.specs.Str.{bytes_eq}
use Rattle.text_lines.specs.View.{texts}
use Rattle.text_lines.proofs.term.place_of.Given as goal

abbrev pub invariant-loop-i : goal.invariant-loop-i
invariant-loop-i l = l.i + position_or_len (λ token. bytes_eq token l.mark) (texts
    (drop l.i l.tokens)) ≡ position_or_len (λ token. bytes_eq token l.mark) (texts l.tokens)
