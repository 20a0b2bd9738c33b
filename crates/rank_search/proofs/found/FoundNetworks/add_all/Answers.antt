use Rattle.std.specs.Prelude.{Result, Ok, Err, OnErr}
use Rattle.std.proofs.Common.{◌≡◌, ◌++◌, ◌∷◌, [], List, Option, length, take, refl, sym, ap, subst}
use Rattle.std.proofs.Common.{◌∙◌, append_assoc, append-nil, length-append, arith}
use Rattle.std.proofs.Math.Seq.{take-append_seam}
use Rattle.std.specs.Vec.Iter.{into_iter_items}
use Rattle.rank_check.specs.tree_rules.Claim.{Network}
use Rattle.rank_search.specs.Listed.{Listed, AreAdded, IsFrontAdded, IsSomeAdded}
use Rattle.rank_search.proofs.PlaceLemmas.{added_last}
use Rattle.rank_search.proofs.found.FoundNetworks.add_all.Goals as goal

nothing_left : {X : Type 0} (l : List X) → length l ≡ 0 → l ≡ []
nothing_left [] h = refl
nothing_left (x ∷ xs) h = absurd (omega arith)

pub overflow_add-leaf : goal.overflow_add-leaf
overflow_add-leaf c =
    let at = c.networks in
    let steps = c.in-Some.ensures.steps.0 in
    let all = at.invariant.0 ∙ c.into_iter-network-iterator.ensures.into_iter_gives.0 in
    let n = ap (λ (ws : List (Option Network)). length ws) all in
    let k = length-append at.yielded (into_iter_items at.network-iterator) in
    let s = ap (λ (ws : List (Option Network)). length ws) steps in
    let e = at.invariant.3 in
    let few = c.requires in
    omega (arith, n, k, s, e, few)

pub networks-preserved : goal.networks-preserved
networks-preserved c =
    let at = c.networks in
    let x = c.in-Some.network in
    let steps : into_iter_items at.network-iterator ≡ x ∷ into_iter_items c.next.new.self =
    c.in-Some.ensures.steps.0 in (
      append_assoc at.yielded (x ∷ []) _ ∙ rw (← steps) at.invariant.0,
      added_last c.args.self.now at.self c.add_some.new.self c.args.first at.yielded x
          at.invariant.1
          (subst (λ k. IsSomeAdded at.self c.add_some.new.self k x) at.invariant.3
          c.in_ok-add_some.ensures.added),
      (let was = at.invariant.2 in
          let gone = c.in-Some.ensures.steps.1 in
          let short = ap (λ (ws : List (Option Network)). length ws) steps in
          omega (arith, was, gone, short)),
      (let e = at.invariant.3 in let n = length-append at.yielded (x ∷ []) in omega (arith, e, n)),
    )

pub returns-clause-added : goal.returns-clause-added
returns-clause-added c =
    let at = c.networks in
    let none = c.in-None.ensures.steps in
    let empty : into_iter_items at.network-iterator ≡ [] =
    nothing_left _ (sym at.invariant.2 ∙ none.0) in
    let all = sym (append-nil at.yielded) ∙ rw empty at at.invariant.0
    ∙ c.into_iter-network-iterator.ensures.into_iter_gives.0 in
    subst (λ (ws : List (Option Network)). AreAdded c.args.self.now at.self c.args.first ws) all
    at.invariant.1

-- what holds holds after an error
after_err : {T E : Type 0} (r : Result T E) (P : Type 0) → P → OnErr r P
after_err (Ok v) P p = tt
after_err (Err e) P p = p

-- if a network can't be added, those before it are
pub returns-in_err-add_some-clause-front : goal.returns-in_err-add_some-clause-front
returns-in_err-add_some-clause-front c =
    let at = c.networks in
    let ws = c.args.networks.items in
    let all : at.yielded ++ into_iter_items at.network-iterator ≡ ws
    = at.invariant.0 ∙ c.into_iter-network-iterator.ensures.into_iter_gives.0 in
    let few : take (length at.yielded) ws ≡ at.yielded
    = subst (λ (vs : List (Option Network)). take (length at.yielded) vs ≡ at.yielded) all
    (take-append_seam at.yielded (into_iter_items at.network-iterator)) in
    let same : AreAdded c.args.self.now c.add_some.new.self c.args.first at.yielded
    = subst (λ (l : Listed). AreAdded c.args.self.now l c.args.first at.yielded)
    (sym c.in_err-add_some.ensures.same) at.invariant.1 in
    after_err c.from_residual.result
    (IsFrontAdded c.args.self.now c.add_some.new.self c.args.first ws) (
      length at.yielded,
      subst
          (λ (vs : List (Option Network)). AreAdded c.args.self.now c.add_some.new.self c.args.first
          vs) (sym few) same,
    )
