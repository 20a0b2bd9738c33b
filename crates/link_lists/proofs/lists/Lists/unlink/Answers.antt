use Rattle.std.proofs.Common.{arith, sym, ap, ◌∙◌, subst}
use Rattle.link_lists.specs.Lists.{Rows, IsListed, unlinked, relinked}
use Rattle.link_lists.specs.Links.{rows_of, next_of, state_of}
use Rattle.link_lists.proofs.States.{apart_lists, few_cell, few_prev, few_next, room, unlink_state}
use Rattle.link_lists.proofs.Vacancies.{relink_undoes_unlink}
use Rattle.link_lists.proofs.lists.Lists.unlink.Goals as goal

pub bypass-requires-clause-node : goal.bypass-requires-clause-node
bypass-requires-clause-node c =
    let s = c.self.inside in
    let held = c.self.invariant in
    let ok = s.links.ok in
    let room_links = held.room_links in
    let small = held.few in
    let listed : IsListed (rows_of s.lists s.cells (next_of s.links.items)) c.args.cell =
    subst (λ (r : Rows). IsListed r.lists c.args.cell) (sym c.self.view_is) c.requires in
    let few =
    few_cell s.lists s.cells s.links.items s.stack.items s.depth held c.args.cell listed in
    let near_prev =
    few_prev s.lists s.cells s.links.items s.stack.items s.depth held c.args.cell listed in
    let near_next =
    few_next s.lists s.cells s.links.items s.stack.items s.depth held c.args.cell listed in
    let deep = room s.lists s.cells s.links.items s.stack.items s.depth held c.args.cell listed in
    let room_stack = held.room_stack in
    let ok_stack = s.stack.ok in
    omega arith

pub bypass-requires-clause-near_prev : goal.bypass-requires-clause-near_prev
bypass-requires-clause-near_prev c =
    let s = c.self.inside in
    let held = c.self.invariant in
    let ok = s.links.ok in
    let room_links = held.room_links in
    let small = held.few in
    let listed : IsListed (rows_of s.lists s.cells (next_of s.links.items)) c.args.cell =
    subst (λ (r : Rows). IsListed r.lists c.args.cell) (sym c.self.view_is) c.requires in
    let few =
    few_cell s.lists s.cells s.links.items s.stack.items s.depth held c.args.cell listed in
    let near_prev =
    few_prev s.lists s.cells s.links.items s.stack.items s.depth held c.args.cell listed in
    let near_next =
    few_next s.lists s.cells s.links.items s.stack.items s.depth held c.args.cell listed in
    let deep = room s.lists s.cells s.links.items s.stack.items s.depth held c.args.cell listed in
    let room_stack = held.room_stack in
    let ok_stack = s.stack.ok in
    omega arith

pub bypass-requires-clause-near_next : goal.bypass-requires-clause-near_next
bypass-requires-clause-near_next c =
    let s = c.self.inside in
    let held = c.self.invariant in
    let ok = s.links.ok in
    let room_links = held.room_links in
    let small = held.few in
    let listed : IsListed (rows_of s.lists s.cells (next_of s.links.items)) c.args.cell =
    subst (λ (r : Rows). IsListed r.lists c.args.cell) (sym c.self.view_is) c.requires in
    let few =
    few_cell s.lists s.cells s.links.items s.stack.items s.depth held c.args.cell listed in
    let near_prev =
    few_prev s.lists s.cells s.links.items s.stack.items s.depth held c.args.cell listed in
    let near_next =
    few_next s.lists s.cells s.links.items s.stack.items s.depth held c.args.cell listed in
    let deep = room s.lists s.cells s.links.items s.stack.items s.depth held c.args.cell listed in
    let room_stack = held.room_stack in
    let ok_stack = s.stack.ok in
    omega arith

pub index_mut-requires : goal.index_mut-requires
index_mut-requires c =
    let s = c.self.inside in
    let held = c.self.invariant in
    let ok = s.links.ok in
    let room_links = held.room_links in
    let small = held.few in
    let listed : IsListed (rows_of s.lists s.cells (next_of s.links.items)) c.args.cell =
    subst (λ (r : Rows). IsListed r.lists c.args.cell) (sym c.self.view_is) c.requires in
    let few =
    few_cell s.lists s.cells s.links.items s.stack.items s.depth held c.args.cell listed in
    let near_prev =
    few_prev s.lists s.cells s.links.items s.stack.items s.depth held c.args.cell listed in
    let near_next =
    few_next s.lists s.cells s.links.items s.stack.items s.depth held c.args.cell listed in
    let deep = room s.lists s.cells s.links.items s.stack.items s.depth held c.args.cell listed in
    let room_stack = held.room_stack in
    let ok_stack = s.stack.ok in
    omega arith

pub overflow_add-self : goal.overflow_add-self
overflow_add-self c =
    let s = c.self.inside in
    let held = c.self.invariant in
    let ok = s.links.ok in
    let room_links = held.room_links in
    let small = held.few in
    let listed : IsListed (rows_of s.lists s.cells (next_of s.links.items)) c.args.cell =
    subst (λ (r : Rows). IsListed r.lists c.args.cell) (sym c.self.view_is) c.requires in
    let few =
    few_cell s.lists s.cells s.links.items s.stack.items s.depth held c.args.cell listed in
    let near_prev =
    few_prev s.lists s.cells s.links.items s.stack.items s.depth held c.args.cell listed in
    let near_next =
    few_next s.lists s.cells s.links.items s.stack.items s.depth held c.args.cell listed in
    let deep = room s.lists s.cells s.links.items s.stack.items s.depth held c.args.cell listed in
    let room_stack = held.room_stack in
    let ok_stack = s.stack.ok in
    omega arith

pub invariant_of-self : goal.invariant_of-self
invariant_of-self c =
    let s = c.self.inside in
    let held = c.self.invariant in
    let ok = s.links.ok in
    let room_links = held.room_links in
    let small = held.few in
    let listed : IsListed (rows_of s.lists s.cells (next_of s.links.items)) c.args.cell =
    subst (λ (r : Rows). IsListed r.lists c.args.cell) (sym c.self.view_is) c.requires in
    let few =
    few_cell s.lists s.cells s.links.items s.stack.items s.depth held c.args.cell listed in
    let near_prev =
    few_prev s.lists s.cells s.links.items s.stack.items s.depth held c.args.cell listed in
    let near_next =
    few_next s.lists s.cells s.links.items s.stack.items s.depth held c.args.cell listed in
    let deep = room s.lists s.cells s.links.items s.stack.items s.depth held c.args.cell listed in
    let room_stack = held.room_stack in
    let ok_stack = s.stack.ok in
    (unlink_state s.lists s.cells s.links.items s.stack.items s.depth held c.args.cell listed
    c.bypass.new.links.items c.bypass.ensures.next c.bypass.ensures.prev
    c.bypass.ensures.length).held

pub returns-clause-unlinked : goal.returns-clause-unlinked
returns-clause-unlinked c =
    let s = c.self.inside in
    let held = c.self.invariant in
    let ok = s.links.ok in
    let room_links = held.room_links in
    let small = held.few in
    let listed : IsListed (rows_of s.lists s.cells (next_of s.links.items)) c.args.cell =
    subst (λ (r : Rows). IsListed r.lists c.args.cell) (sym c.self.view_is) c.requires in
    let few =
    few_cell s.lists s.cells s.links.items s.stack.items s.depth held c.args.cell listed in
    let near_prev =
    few_prev s.lists s.cells s.links.items s.stack.items s.depth held c.args.cell listed in
    let near_next =
    few_next s.lists s.cells s.links.items s.stack.items s.depth held c.args.cell listed in
    let deep = room s.lists s.cells s.links.items s.stack.items s.depth held c.args.cell listed in
    let room_stack = held.room_stack in
    let ok_stack = s.stack.ok in
    (unlink_state s.lists s.cells s.links.items s.stack.items s.depth held c.args.cell listed
    c.bypass.new.links.items c.bypass.ensures.next c.bypass.ensures.prev
    c.bypass.ensures.length).state ∙ ap (λ r. unlinked r c.args.cell) c.self.view_is

pub returns-clause-undone : goal.returns-clause-undone
returns-clause-undone c =
    let s = c.self.inside in
    let held = c.self.invariant in
    let ok = s.links.ok in
    let room_links = held.room_links in
    let small = held.few in
    let listed : IsListed (rows_of s.lists s.cells (next_of s.links.items)) c.args.cell =
    subst (λ (r : Rows). IsListed r.lists c.args.cell) (sym c.self.view_is) c.requires in
    let few =
    few_cell s.lists s.cells s.links.items s.stack.items s.depth held c.args.cell listed in
    let near_prev =
    few_prev s.lists s.cells s.links.items s.stack.items s.depth held c.args.cell listed in
    let near_next =
    few_next s.lists s.cells s.links.items s.stack.items s.depth held c.args.cell listed in
    let deep = room s.lists s.cells s.links.items s.stack.items s.depth held c.args.cell listed in
    let room_stack = held.room_stack in
    let ok_stack = s.stack.ok in
    ap relinked
    (unlink_state s.lists s.cells s.links.items s.stack.items s.depth held c.args.cell listed
    c.bypass.new.links.items c.bypass.ensures.next c.bypass.ensures.prev
    c.bypass.ensures.length).state
    ∙ (relink_undoes_unlink (state_of s.lists s.cells s.links.items s.stack.items s.depth)
    c.args.cell (apart_lists s.lists s.cells s.links.items s.stack.items s.depth held) listed
    ∙ c.self.view_is)
