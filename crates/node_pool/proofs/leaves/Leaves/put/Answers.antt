use Rattle.std.proofs.Common.{◌≡◌, true, sym, subst}
use Rattle.link_lists.specs.Lists.{row, has}
use Rattle.node_pool.specs.Order.{OpenLeaves}
use Rattle.node_pool.proofs.Marks.{one_pushed, one_inserted}
use Rattle.node_pool.proofs.leaves.Leaves.put.Goals.{in-None, in-Some}
use Rattle.node_pool.proofs.leaves.Leaves.put.Goals as goal

pub invariant_of-self : goal.invariant_of-self
invariant_of-self c =
    let s = c.self.inside in
    elim c.match-before.branch [
      | in-None w
          ↦ rw w.self-inside-is
          (rw c.mark.ensures
          (rw w.self-inside-is
          (rw w.push_back.ensures
          (one_pushed s.lists s.room s.marks.items c.args.leaf c.self.invariant))))
      | in-Some w ↦
          let there : has (row s.lists.lists 0) w.in-Some.before ≡ true =
          subst (λ (o : OpenLeaves). has o.leaves w.in-Some.before ≡ true) (sym c.self.view_is)
          (c.requires.before w.in-Some.before w.in-Some.is) in
          rw w.self-inside-is
          (rw c.mark.ensures
          (rw w.self-inside-is
          (rw w.insert_before.ensures
          (one_inserted s.lists s.room s.marks.items c.args.leaf w.in-Some.before
          c.self.invariant there))))
    ]
