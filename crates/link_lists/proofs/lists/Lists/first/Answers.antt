use Rattle.std.proofs.Common.{◌<◌, ◌-◌, cond, nat_lt, None, Some, length, arith, sym, ap, ◌∙◌}
use Rattle.std.proofs.Common.{subst}
use Rattle.link_lists.specs.Lists.{Rows, row, first}
use Rattle.link_lists.proofs.States.{length_rows, first_state}
use Rattle.link_lists.proofs.lists.Lists.first.Goals as goal

pub next_node-requires : goal.next_node-requires
next_node-requires c =
    let s = c.self.inside in
    let held = c.self.invariant in
    let ok = s.links.ok in
    let room_links = held.room_links in
    let small = held.few in
    let low : c.args.list < s.lists =
    subst (λ m. c.args.list < m)
    (ap (λ (r : Rows). length r.lists) (sym c.self.view_is)
    ∙ length_rows s.lists s.cells s.links.items s.stack.items s.depth held) c.requires in
    let first_of =
    first_state s.lists s.cells s.links.items s.stack.items s.depth held c.args.list low in
    let near = first_of.0 in
    omega arith

pub cell_of-requires : goal.cell_of-requires
cell_of-requires c =
    let s = c.self.inside in
    let held = c.self.invariant in
    let ok = s.links.ok in
    let room_links = held.room_links in
    let small = held.few in
    let low : c.args.list < s.lists =
    subst (λ m. c.args.list < m)
    (ap (λ (r : Rows). length r.lists) (sym c.self.view_is)
    ∙ length_rows s.lists s.cells s.links.items s.stack.items s.depth held) c.requires in
    let first_of =
    first_state s.lists s.cells s.links.items s.stack.items s.depth held c.args.list low in
    let near = first_of.0 in
    let read = c.next_node.ensures in
    omega arith

pub returns : goal.returns
returns c =
    let s = c.self.inside in
    let held = c.self.invariant in
    let ok = s.links.ok in
    let room_links = held.room_links in
    let small = held.few in
    let low : c.args.list < s.lists =
    subst (λ m. c.args.list < m)
    (ap (λ (r : Rows). length r.lists) (sym c.self.view_is)
    ∙ length_rows s.lists s.cells s.links.items s.stack.items s.depth held) c.requires in
    let first_of =
    first_state s.lists s.cells s.links.items s.stack.items s.depth held c.args.list low in
    let near = first_of.0 in
    c.cell_of.ensures
    ∙ (ap (λ x. cond (nat_lt x s.lists) None (Some (x - s.lists))) c.next_node.ensures
    ∙ (sym first_of.1 ∙ ap (λ (r : Rows). first (row r.lists c.args.list)) c.self.view_is))
