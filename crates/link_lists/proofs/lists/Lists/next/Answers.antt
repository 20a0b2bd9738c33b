use Rattle.std.proofs.Common.{◌≡◌, ◌-◌, true, cond, nat_lt, None, Some, arith, sym, ap, ◌∙◌, subst}
use Rattle.link_lists.specs.Lists.{Rows, row, has, IsListed, following}
use Rattle.link_lists.specs.Links.{rows_of, next_of}
use Rattle.link_lists.proofs.States.{following_state, few_cell, few_prev, few_next}
use Rattle.link_lists.proofs.lists.Lists.next.Goals as goal

pub next_node-requires : goal.next_node-requires
next_node-requires c =
    let s = c.self.inside in
    let held = c.self.invariant in
    let ok = s.links.ok in
    let room_links = held.room_links in
    let small = held.few in
    let listed : IsListed (rows_of s.lists s.cells (next_of s.links.items)) c.args.cell =
    subst (λ (r : Rows). IsListed r.lists c.args.cell) (sym c.self.view_is) c.requires in
    let few =
    few_cell s.lists s.cells s.links.items s.stack.items s.depth held c.args.cell listed in
    let near_prev =
    few_prev s.lists s.cells s.links.items s.stack.items s.depth held c.args.cell listed in
    let near_next =
    few_next s.lists s.cells s.links.items s.stack.items s.depth held c.args.cell listed in
    omega arith

pub cell_of-requires : goal.cell_of-requires
cell_of-requires c =
    let s = c.self.inside in
    let held = c.self.invariant in
    let ok = s.links.ok in
    let room_links = held.room_links in
    let small = held.few in
    let listed : IsListed (rows_of s.lists s.cells (next_of s.links.items)) c.args.cell =
    subst (λ (r : Rows). IsListed r.lists c.args.cell) (sym c.self.view_is) c.requires in
    let few =
    few_cell s.lists s.cells s.links.items s.stack.items s.depth held c.args.cell listed in
    let near_prev =
    few_prev s.lists s.cells s.links.items s.stack.items s.depth held c.args.cell listed in
    let near_next =
    few_next s.lists s.cells s.links.items s.stack.items s.depth held c.args.cell listed in
    let read = c.next_node.ensures in
    omega arith

pub returns : goal.returns
returns c =
    let s = c.self.inside in
    let held = c.self.invariant in
    let ok = s.links.ok in
    let room_links = held.room_links in
    let small = held.few in
    let listed : IsListed (rows_of s.lists s.cells (next_of s.links.items)) c.args.cell =
    subst (λ (r : Rows). IsListed r.lists c.args.cell) (sym c.self.view_is) c.requires in
    let few =
    few_cell s.lists s.cells s.links.items s.stack.items s.depth held c.args.cell listed in
    let near_prev =
    few_prev s.lists s.cells s.links.items s.stack.items s.depth held c.args.cell listed in
    let near_next =
    few_next s.lists s.cells s.links.items s.stack.items s.depth held c.args.cell listed in
    λ l h.
    let there : has (row (rows_of s.lists s.cells (next_of s.links.items)) l) c.args.cell ≡ true =
    subst (λ (r : Rows). has (row r.lists l) c.args.cell ≡ true) (sym c.self.view_is) h in
    c.cell_of.ensures
    ∙ (ap (λ x. cond (nat_lt x s.lists) None (Some (x - s.lists))) c.next_node.ensures
    ∙ (sym
    (following_state s.lists s.cells s.links.items s.stack.items s.depth held c.args.cell l
    there) ∙ ap (λ (r : Rows). following c.args.cell (row r.lists l)) c.self.view_is))
