use Rattle.std.proofs.Common.{◌≡◌, ◌+◌, drop}
use Rattle.std.specs.List.{position_or_len}
use Rattle.std.specs.Str.{bytes_eq}
use Rattle.tree_text_rules.specs.problem_rules.Problem.{exclusion_names}
use Rattle.tree_reading.proofs.name.exclusion_of.Given as goal

-- none so far
abbrev pub invariant-looking : goal.invariant-looking
invariant-looking l = record {
  place : l.number ≡ l.exclusion-index;
  none : l.number + position_or_len (λ word. bytes_eq word l.token)
      (exclusion_names (drop l.exclusion-index l.exclusions))
      ≡ position_or_len (λ word. bytes_eq word l.token) (exclusion_names l.exclusions);
}
