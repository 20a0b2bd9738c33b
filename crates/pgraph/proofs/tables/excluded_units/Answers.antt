use Rattle.std.proofs.Common.{◌∙◌, ap, sym, get_or, length, length-append, ◌+◌, ℕ, List, [], ◌∷◌}
use Rattle.std.proofs.lemmas.List.{get_or_default}
use Rattle.flow_rules.specs.number_sets.Sets.{has}
use Rattle.flow_rules.specs.problem_rules.Problem.{Exclusion, no_exclusion}
use Rattle.pgraph.proofs.TableLemmas.{set_more}
use Rattle.pgraph.proofs.tables.excluded_units.Goals as goal

pub set_of-requires : goal.set_of-requires
set_of-requires c = λ u e.
    c.requires c.loop-exclusion.exclusion-index u
    (ap (λ (xs : List ℕ). has xs u)
    (sym (c.deref.ensures.value
    ∙ ap (λ (x : Exclusion). x.units)
    (c.exclusion.view_is
    ∙ (c.exclusion-item.is
    ∙ get_or_default c.args.exclusions.now c.loop-exclusion.exclusion-index
    c.exclusion-item.result no_exclusion c.loop-exclusion-test.true)))) ∙ e)

pub loop-exclusion-preserved : goal.loop-exclusion-preserved
loop-exclusion-preserved c =
    let items = c.in_ok-push.ensures.items in
    let units_are = c.set_of.ensures
    ∙ ap has (c.deref.ensures.value
    ∙ ap (λ (x : Exclusion). x.units) (c.exclusion.view_is ∙ c.exclusion-item.is)) in
    record {
      count = ap length items
          ∙ (length-append c.loop-exclusion.sets.items (c.set_of.result ∷ [])
          ∙ ap (λ n. n + 1) c.loop-exclusion.invariant.count);
      units = λ k u lt. ap (λ (sets : List (List ℕ)). has (get_or sets k []) u) items
          ∙ set_more c.args.exclusions.now c.loop-exclusion.exclusion-index c.exclusion-item.result
          c.loop-exclusion.sets.items c.set_of.result c.loop-exclusion-test.true
          c.loop-exclusion.invariant.count units_are c.loop-exclusion.invariant.units k u lt;
    }
