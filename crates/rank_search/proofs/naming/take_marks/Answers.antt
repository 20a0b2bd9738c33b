use Rattle.std.specs.Prelude.{get_or}
use Rattle.std.proofs.Common.{◌≡◌, ◌<◌, ◌++◌, ℕ, List, length, map, Option, Some, sym, ap, ◌∙◌}
use Rattle.std.proofs.Common.{arith}
use Rattle.std.specs.List.{slice_get}
use Rattle.rank_check.specs.declared.mark.Mark as code
use Rattle.rank_check.specs.View.{mark_of}
use Rattle.rank_search.specs.Naming.{names_at, marks_of}
use Rattle.rank_search.proofs.NameLemmas.{name_there, got}
use Rattle.rank_search.proofs.MarkLemmas.{take_next, marks_pushed, marks_stay}
use Rattle.rank_search.proofs.naming.take_marks.Goals as goal
use Rattle.rank_search.proofs.naming.take_marks.Goals.{in-Some+in_ok-push, in_default}

pub naming-preserved : goal.naming-preserved
naming-preserved c =
    let lt : c.naming.at < length c.args.order.now = let t =
    c.naming-test.true in omega (arith, t) in
    let named : slice_get (names_at c.args.names.now c.args.order.now) c.naming.at
    ≡ Some c.name_at-name.result
    = name_there c.args.names.now c.args.order.now c.naming.at lt
    ∙ ap (λ (n : Option ℕ). Some n) (sym c.name_at-name.ensures) in
    let t = get_or c.naming.nodes c.naming.at c.index-nodes-at.result in
    let there : slice_get c.naming.nodes c.naming.at ≡ Some t =
    got c.naming.nodes c.naming.at c.index-nodes-at.result
    (let l = c.naming.auto.nodes in let m = c.requires.as_many in omega (arith, lt, l, m)) in
    let both =
    take_next c.args.way
    (names_at c.args.names.now c.args.order.now) c.args.nodes.now c.naming.nodes
    (map mark_of c.naming.marks.items) c.naming.at c.name_at-name.result t c.take_mark.new.node
    (marks_of c.take_mark.result)
    named c.naming.invariant.opened_so_far there c.take_mark.ensures.node c.take_mark.ensures.mark
    c.naming.invariant.marks_so_far in
    record {
      opened_so_far = both.0;
      marks_so_far = elim c.match-take_mark.branch [
        | in-Some+in_ok-push w ↦
            ap (λ ms. map mark_of ms.items) w.marks-is
            ∙ (ap (λ (ms : List code.Mark). map mark_of ms) w.in_ok-push.ensures.items
            ∙ (marks_pushed c.naming.marks.items w.in-Some.mark
            ∙ (ap (λ o. map mark_of c.naming.marks.items ++ marks_of o) (sym w.in-Some.is)
            ∙ both.1)))
        | in_default w ↦
            ap (λ ms. map mark_of ms.items) w.marks-is
            ∙ (marks_stay c.naming.marks.items
            ∙ (ap (λ o. map mark_of c.naming.marks.items ++ marks_of o) (sym w.in_default.is)
            ∙ both.1))
      ];
    }
