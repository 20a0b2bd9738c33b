use Rattle.std.proofs.Common.{sym, ◌∙◌, subst}
use Rattle.slab.specs.Slab.{Slab, get, Updates}
use Rattle.node_evaluation.specs.declared.looks.Ready.{Ready}
use Rattle.abb_search.specs.Worth.{with_worth}
use Rattle.abb_search.proofs.HandLemmas.{worth_put, nothing_put}
use Rattle.abb_search.proofs.hand.put_worth.Goals as goal

pub returns-in-Some : goal.returns-in-Some
returns-in-Some c =
    worth_put c.args.hand.now c.try_remove.new.self c.insert_reserved.new.self c.args.key
    c.insert_reserved.result c.args.worth c.in-Some.ready
    (sym c.try_remove.ensures.value ∙ c.in-Some.is) c.try_remove.ensures.updates
    (c.insert_reserved.ensures.key ∙ c.in-Some.ensures.key_is_next)
    c.insert_reserved.ensures.updates

pub returns-in_default : goal.returns-in_default
returns-in_default c =
    subst
    (λ (s : Slab Ready). Updates c.args.hand.now s c.args.key
    (with_worth c.args.worth (get c.args.hand.now c.args.key)))
    (sym c.in_default.ensures.absent)
    (nothing_put c.args.hand.now c.args.key c.args.worth
    (sym c.try_remove.ensures.value ∙ c.in_default.is))
