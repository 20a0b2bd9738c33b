-- Lines of a tree text, as lines of bytes.
use Rattle.std.specs.Prelude.{◌≡◌, ℕ, List, map}
use Rattle.report_rules.specs.text_rules.Canonical.{joined}
use Rattle.report_rules.specs.tree_text_rules.Line.{Token}
use Rattle.studio_rules.specs.declared.status.Status.{Status}

-- the bytes of lines of tokens
abbrev pub spelled : List (List Token) → List (List ℕ)
spelled = map (joined 32)

-- these lines with this status
abbrev pub OneAnswer : Status → List (List Token) → Status → List (List ℕ) → Type 0
OneAnswer status lines status' lines' = (status' ≡ status) × (lines' ≡ spelled lines)
