use Rattle.std.proofs.Common.{ℕ, List, [], ◌∷◌, Option, sym, ap₂, ◌∙◌, subst, length-append, arith}
use Rattle.structure_list.specs.number_sets.Options.{all_options}
use Rattle.node_evaluation.proofs.OptionWalk.{IsAhead, ahead_first, ahead_next, all_done}
use Rattle.node_evaluation.proofs.OptionWalk.{is_between, some_left}
use Rattle.node_evaluation.proofs.options.options_of_material.Goals as goal

pub options-init : goal.options-init
options-init c =
    subst
    (λ (done : List (List ℕ)). IsAhead c.options-base.result.0 c.options-base.result.1 done
    c.first_option-next.result) (sym c.new-all.ensures.items)
    (ahead_first c.options-base.result.0 c.options-base.result.1 c.rises.ensures c.rises-2.ensures
    c.options-base.ensures.apart c.first_option-next.result c.first_option-next.ensures.first
    c.first_option-next.ensures.none)

pub next_option-next-requires-clause-between : goal.next_option-next-requires-clause-between
next_option-next-requires-clause-between c =
    is_between c.options-base.result.0 c.options-base.result.1 c.rises.ensures c.rises-2.ensures
    c.options-base.ensures.apart c.options.all.items c.in-Some.option
    (subst
    (λ (o : Option (List ℕ)). IsAhead c.options-base.result.0 c.options-base.result.1
    c.options.all.items o) c.in-Some.is c.options.invariant)

pub options-smaller : goal.options-smaller
options-smaller c =
    let left =
    some_left c.options-base.result.0 c.options-base.result.1 c.rises.ensures c.rises-2.ensures
    c.options-base.ensures.apart c.options.all.items c.in-Some.option
    (subst
    (λ (o : Option (List ℕ)). IsAhead c.options-base.result.0 c.options-base.result.1
    c.options.all.items o) c.in-Some.is c.options.invariant) in
    let more = length-append c.options.all.items (c.in-Some.option ∷ []) in
    let now = c.in_ok-push.ensures.items in
    rw now (omega (arith, left, more))

pub options-preserved : goal.options-preserved
options-preserved c =
    subst
    (λ (done : List (List ℕ)). IsAhead c.options-base.result.0 c.options-base.result.1 done
    c.next_option-next.result) (sym c.in_ok-push.ensures.items)
    (ahead_next c.options-base.result.0 c.options-base.result.1 c.rises.ensures c.rises-2.ensures
    c.options-base.ensures.apart c.options.all.items c.in-Some.option c.next_option-next.result
    (subst
    (λ (o : Option (List ℕ)). IsAhead c.options-base.result.0 c.options-base.result.1
    c.options.all.items o) c.in-Some.is c.options.invariant)
    c.next_option-next.ensures.next c.next_option-next.ensures.last)

pub returns : goal.returns
returns c =
    all_done c.options-base.result.0 c.options-base.result.1 c.rises.ensures c.rises-2.ensures
    c.options-base.ensures.apart c.options.all.items
    (subst
    (λ (o : Option (List ℕ)). IsAhead c.options-base.result.0 c.options-base.result.1
    c.options.all.items o) c.in_default.is c.options.invariant)
    ∙ ap₂ (λ (b f : List ℕ). all_options b f) c.options-base.ensures.base
    c.options-base.ensures.free
