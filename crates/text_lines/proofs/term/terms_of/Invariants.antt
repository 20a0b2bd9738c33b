use Rattle.std.proofs.Common.{◌≡◌, ◌++◌, length, option_map}
use Rattle.std.specs.List.{slice_split}
use Rattle.edit_rules.specs.text_rules.Field.{terms_of}
use Rattle.text_lines.specs.View.{texts}
use Rattle.text_lines.specs.Terms.{terms_view, terms_read, is_plus}
use Rattle.text_lines.proofs.term.terms_of.Given as goal

-- the terms so far, and those that remain
abbrev pub invariant-loop-term : goal.invariant-loop-term
invariant-loop-term l =
    option_map (λ more. terms_view l.terms.items ++ more)
    (terms_read (slice_split is_plus (texts l.rest))) ≡ terms_read (terms_of (texts l.tokens))

abbrev pub decreases-loop-term : goal.decreases-loop-term
decreases-loop-term l = length l.rest
