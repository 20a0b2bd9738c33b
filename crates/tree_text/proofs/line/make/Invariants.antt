use Rattle.std.proofs.Common.{◌≡◌, ◌∷◌, drop, string_bytes}
use Rattle.tree_text_rules.specs.problem_rules.Each.{Each}
use Rattle.tree_text_rules.specs.text_rules.Canonical.{joined}
use Rattle.tree_text.specs.Printing.{appended}
use Rattle.tree_text.specs.Fields.{KnowsField, tokens_of}
use Rattle.tree_text.proofs.line.make.Given as goal

-- the fields so far and those that are left give the whole line
abbrev pub invariant-printing : goal.invariant-printing
invariant-printing l = record {
  known : Each (KnowsField l.problem) (drop l.field-index l.fields);
  line : appended (string_bytes l.line) (tokens_of l.problem (drop l.field-index l.fields))
      ≡ joined 32 (l.word ∷ tokens_of l.problem l.fields);
}
