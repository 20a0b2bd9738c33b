use Rattle.std.proofs.Common.{not, sym, ap, ◌∙◌, arith}
use Rattle.std.proofs.lemmas.Bool.{and_from}
use Rattle.node_evaluation.specs.link_lists.Lists.{has}
use Rattle.abb_search.specs.Worth.{is_settled}
use Rattle.abb_search.specs.Growing.{ready_at}
use Rattle.abb_search.proofs.ReadyLemmas.{second_has}
use Rattle.abb_search.proofs.settling.next_waiting.Goals as goal

pub is_settled-requires : goal.is_settled-requires
is_settled-requires c =
    let l =
    c.is_pool.ensures.leaves c.in-Some.next
    (second_has c.args.growing.now.pool.leaves c.in-Some.next
    (sym c.next_least.ensures ∙ c.in-Some.is)) in
    let e = c.is_pool.ensures.payloads in
    omega (arith, l, e)

pub returns-else-is_settled : goal.returns-else-is_settled
returns-else-is_settled c =
    let s = c.args.growing.now in
    let n = c.in-Some.next in
    and_from (has s.pool.leaves n) (not (is_settled (ready_at s n)))
    (second_has s.pool.leaves n (sym c.next_least.ensures ∙ c.in-Some.is))
    (ap not (sym c.is_settled.ensures ∙ c.if-is_settled.false))
