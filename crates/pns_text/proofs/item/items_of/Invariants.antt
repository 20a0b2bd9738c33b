use Rattle.std.proofs.Common.{◌≡◌, ◌==◌, ◌++◌, length, map}
use Rattle.std.specs.List.{slice_split}
use Rattle.std.specs.Str.{byte}
use Rattle.text_lines.specs.text_rules.Blanks.{trim}
use Rattle.text_lines.specs.text_rules.Field.{items_of}
use Rattle.pns_text.proofs.item.items_of.Given as goal

-- the items so far, and those that remain
abbrev pub invariant-loop-items : goal.invariant-loop-items
invariant-loop-items l = l.items.items ++ map trim (slice_split (λ c. c == byte ",")
    l.rest) ≡ items_of l.text

abbrev pub decreases-loop-items : goal.decreases-loop-items
decreases-loop-items l = length l.rest
