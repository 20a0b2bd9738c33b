use Rattle.std.proofs.Common.{◌+◌, ◌-◌, ap, ◌∙◌, ◌++◌, arith}
use Rattle.search_tree.specs.Runs.{to_come}
use Rattle.search_tree.proofs.RunLemmas.{to_come-push, range-first}
use Rattle.search_tree.proofs.walk.put_rest.Goals as goal

pub returns : goal.returns
returns c =
    ap to_come c.in_ok-push.ensures.items
    ∙ (to_come-push c.args.stack.now.items
    (record { next = c.args.run.next + 1; more = c.args.run.more - 1 })
    ∙ ap (λ xs. xs ++ to_come c.args.stack.now.items)
    (range-first (c.args.run.next + 1) c.args.run.more
    (let h = c.if-run-eq0.false in omega (arith, h))))
