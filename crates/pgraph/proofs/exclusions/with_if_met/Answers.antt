use Rattle.std.proofs.Common.{◌≡◌, ◌∙◌, sym, true, subst, ◌↔◌, ℕ, List}
use Rattle.std.proofs.lemmas.Bool.{both_ways}
use Rattle.flow_rules.specs.number_sets.Sets.{has}
use Rattle.pgraph.specs.Rivals.{IsFoundOrMet}
use Rattle.pgraph.proofs.ExclusionLemmas.{met_none, met_some}
use Rattle.pgraph.proofs.exclusions.with_if_met.Goals as goal

pub returns-then-is_empty : goal.returns-then-is_empty
returns-then-is_empty c =
    met_none c.args.found c.args.excluded c.args.set
    (sym c.meet.ensures ∙ c.is_empty.ensures.0 c.if-is_empty.true)

pub returns-else-is_empty : goal.returns-else-is_empty
returns-else-is_empty c =
    subst (λ (xs : List ℕ). (u : ℕ) → (has xs u ≡ true)
    ↔ IsFoundOrMet (has c.args.found) (has c.args.excluded) (has c.args.set) u)
    (sym c.union.ensures)
    (met_some c.args.found c.args.excluded c.args.set
    (λ e. both_ways c.is_empty.result c.if-is_empty.false
    (c.is_empty.ensures.1 (c.meet.ensures ∙ e))))
