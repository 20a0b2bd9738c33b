use Rattle.std.proofs.Common.{◌≡◌, ◌-◌, sym, ap, ◌∙◌, ◌++◌, subst, arith}
use Rattle.std.specs.List.{range_with_len}
use Rattle.branch_tree.specs.View.{end_of}
use Rattle.search_tree.specs.Cells.{Cell, numbers_below}
use Rattle.search_tree.specs.Runs.{to_come}
use Rattle.search_tree.proofs.RunLemmas.{to_come-push, range-first}
use Rattle.search_tree.proofs.TreeLemmas.{numbers_are}
use Rattle.search_tree.proofs.walk.put_children.Goals as goal

pub returns : goal.returns
returns c =
    let n = c.children-children.result in
    let first = c.cell.inside.first in
    let below : range_with_len first n ≡ numbers_below first (end_of c.cell.inside.end) =
    ap (λ k. range_with_len first k) c.children-children.ensures
    ∙ sym (numbers_are first (end_of c.cell.inside.end)) in
    let pushed : to_come c.push.new.self.items ≡ range_with_len first n
    ++ to_come c.args.stack.now.items
    = ap to_come c.in_ok-push.ensures.items
    ∙ (to_come-push c.args.stack.now.items (record { next = first; more = n - 1 })
    ∙ ap (λ xs. xs ++ to_come c.args.stack.now.items)
    (range-first first n (let h = c.if-children-eq0.false in omega (arith, h)))) in
    subst (λ (w : Cell). to_come c.push.new.self.items ≡ numbers_below w.first w.end
    ++ to_come c.args.stack.now.items) c.cell.view_is
    (pushed ∙ ap (λ xs. xs ++ to_come c.args.stack.now.items) below)
