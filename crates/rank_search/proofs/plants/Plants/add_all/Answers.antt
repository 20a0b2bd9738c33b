use Rattle.std.proofs.Common.{◌≡◌, ◌∷◌, [], List, Option, length, refl, sym, ap, subst}
use Rattle.std.proofs.Common.{◌∙◌, append_assoc, append-nil, length-append, arith, rules}
use Rattle.std.specs.Vec.Iter.{into_iter_items}
use Rattle.rank_check.specs.tree_rules.Claim.{Network}
use Rattle.rank_search.specs.Plants.{AreAdded}
use Rattle.rank_search.proofs.PlantLemmas.{added_last, added_nothing}
use Rattle.rank_search.proofs.plants.Plants.add_all.Goals as goal

nothing_left : {X : Type 0} (l : List X) → length l ≡ 0 → l ≡ []
nothing_left [] h = refl
nothing_left (x ∷ xs) h = absurd (omega arith)

pub networks-init : goal.networks-init
networks-init c =
    (refl, added_nothing c.args.self.now c.are_distinct.ensures, search rules, omega arith)

pub overflow_add-leaf : goal.overflow_add-leaf
overflow_add-leaf c =
    let at = c.networks in
    let steps = c.in-Some.ensures.steps.0 in
    let all = at.invariant.0 ∙ c.into_iter-network-iterator.ensures.into_iter_gives.0 in
    let n = ap (λ (ws : List (Option Network)). length ws) all in
    let k = length-append at.yielded (into_iter_items at.network-iterator) in
    let s = ap (λ (ws : List (Option Network)). length ws) steps in
    let e = at.invariant.3 in
    let few = c.requires in
    omega (arith, n, k, s, e, few)

pub networks-preserved : goal.networks-preserved
networks-preserved c =
    let at = c.networks in
    let x = c.in-Some.network in
    let steps : into_iter_items at.network-iterator ≡ x ∷ into_iter_items c.next.new.self =
    c.in-Some.ensures.steps.0 in (
      append_assoc at.yielded (x ∷ []) _ ∙ rw (← steps) at.invariant.0,
      added_last c.args.self.now at.self c.add_some.new.self at.yielded x at.invariant.1
          c.in_ok-add_some.ensures,
      (let was = at.invariant.2 in
          let gone = c.in-Some.ensures.steps.1 in
          let short = ap (λ (ws : List (Option Network)). length ws) steps in
          omega (arith, was, gone, short)),
      (let e = at.invariant.3 in let n = length-append at.yielded (x ∷ []) in omega (arith, e, n)),
    )

pub returns : goal.returns
returns c =
    let at = c.networks in
    let none = c.in-None.ensures.steps in
    let empty : into_iter_items at.network-iterator ≡ [] =
    nothing_left _ (sym at.invariant.2 ∙ none.0) in
    let all = sym (append-nil at.yielded) ∙ rw empty at at.invariant.0
    ∙ c.into_iter-network-iterator.ensures.into_iter_gives.0 in
    subst (λ (ws : List (Option Network)). AreAdded c.args.self.now at.self ws) all
    at.invariant.1
