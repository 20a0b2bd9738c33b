-- Words that name no sound node.
use Rattle.std.proofs.Common.{◌≡◌, ◌≤◌, ℕ, List, length, sym, subst}
use Rattle.network_commands.specs.number_sets.Sets.{has}
use Rattle.network_commands.specs.problem_rules.Problem.{Problem}
use Rattle.network_commands.specs.pns_rules.Shape.{shape_of}
use Rattle.network_commands.specs.pns_rules.Ends.{IsSound}
use Rattle.network_commands.specs.tree_rules.Known.{AreUnits}
use Rattle.network_commands.specs.pns_rules.Tokens.{token_of}
use Rattle.network_commands.proofs.tree_parts.Cited.{one_set, wider}
use Rattle.network_commands.specs.studio_rules.Start.{IsStart}

module _ (p : Problem) (word other : List ℕ) (few : length p.units ≤ 128) where
  pub not_sound : (taken left : List ℕ) → AreUnits p taken → AreUnits p left → word ≡ token_of taken
      → other ≡ token_of left
      → (IsSound (shape_of p) (record { inside = has taken; outside = has left }) → ⊥)
      → (inside outside : List ℕ) → IsStart p word other inside outside → ⊥
  not_sound taken left set set' named named' unsound inside outside is =
      let one : taken ≡ inside =
      one_set (length p.units) word taken inside few (wider (length p.units) taken few set)
      is.inside_known named is.inside_named in
      let two : left ≡ outside =
      one_set (length p.units) other left outside few (wider (length p.units) left few set')
      is.outside_known named' is.outside_named in
      unsound
      (subst
      (λ (us : List ℕ). IsSound (shape_of p) (record { inside = has us; outside = has left }))
      (sym one)
      (subst
      (λ (us : List ℕ). IsSound (shape_of p) (record { inside = has inside; outside = has us }))
      (sym two) is.sound))
