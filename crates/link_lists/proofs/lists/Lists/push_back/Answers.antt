use Rattle.std.proofs.Common.{◌≡◌, ◌<◌, [], length, arith, sym, ap, ◌∙◌, subst}
use Rattle.link_lists.specs.Lists.{Rows, IsFree, with_pushed}
use Rattle.link_lists.specs.Links.{rows_of, next_of, prev_of, state_of}
use Rattle.link_lists.proofs.States.{rep, length_rows, push_state}
use Rattle.link_lists.proofs.Represents.{last_below}
use Rattle.link_lists.proofs.lists.Lists.push_back.Goals as goal

pub splice-requires-clause-after : goal.splice-requires-clause-after
splice-requires-clause-after c =
    let s = c.self.inside in
    let held = c.self.invariant in
    let ok = s.links.ok in
    let room_links = held.room_links in
    let small = held.few in
    let free : IsFree (rows_of s.lists s.cells (next_of s.links.items)) c.args.cell =
    subst (λ (r : Rows). IsFree r.lists c.args.cell) (sym c.self.view_is) c.requires.free in
    let known : c.args.cell < s.cells =
    subst (λ m. c.args.cell < m) (ap (λ (r : Rows). r.cells) (sym c.self.view_is))
    c.requires.cell in
    let empty : (state_of s.lists s.cells s.links.items s.stack.items s.depth).stack ≡ [] =
    ap (λ (r : Rows). r.stack) c.self.view_is ∙ c.requires.none_unlinked in
    let low : c.args.list < s.lists =
    subst (λ m. c.args.list < m)
    (ap (λ (r : Rows). length r.lists) (sym c.self.view_is)
    ∙ length_rows s.lists s.cells s.links.items s.stack.items s.depth held) c.requires.list in
    let near =
    last_below s.lists s.cells (next_of s.links.items) (prev_of s.links.items)
    (rows_of s.lists s.cells (next_of s.links.items))
    (rep s.lists s.cells s.links.items s.stack.items s.depth held) c.args.list c.args.cell low
    known free in
    omega arith

pub splice-requires-clause-near : goal.splice-requires-clause-near
splice-requires-clause-near c =
    let s = c.self.inside in
    let held = c.self.invariant in
    let ok = s.links.ok in
    let room_links = held.room_links in
    let small = held.few in
    let free : IsFree (rows_of s.lists s.cells (next_of s.links.items)) c.args.cell =
    subst (λ (r : Rows). IsFree r.lists c.args.cell) (sym c.self.view_is) c.requires.free in
    let known : c.args.cell < s.cells =
    subst (λ m. c.args.cell < m) (ap (λ (r : Rows). r.cells) (sym c.self.view_is))
    c.requires.cell in
    let empty : (state_of s.lists s.cells s.links.items s.stack.items s.depth).stack ≡ [] =
    ap (λ (r : Rows). r.stack) c.self.view_is ∙ c.requires.none_unlinked in
    let low : c.args.list < s.lists =
    subst (λ m. c.args.list < m)
    (ap (λ (r : Rows). length r.lists) (sym c.self.view_is)
    ∙ length_rows s.lists s.cells s.links.items s.stack.items s.depth held) c.requires.list in
    let near =
    last_below s.lists s.cells (next_of s.links.items) (prev_of s.links.items)
    (rows_of s.lists s.cells (next_of s.links.items))
    (rep s.lists s.cells s.links.items s.stack.items s.depth held) c.args.list c.args.cell low
    known free in
    omega arith

pub invariant_of-self : goal.invariant_of-self
invariant_of-self c =
    let s = c.self.inside in
    let held = c.self.invariant in
    let ok = s.links.ok in
    let room_links = held.room_links in
    let small = held.few in
    let free : IsFree (rows_of s.lists s.cells (next_of s.links.items)) c.args.cell =
    subst (λ (r : Rows). IsFree r.lists c.args.cell) (sym c.self.view_is) c.requires.free in
    let known : c.args.cell < s.cells =
    subst (λ m. c.args.cell < m) (ap (λ (r : Rows). r.cells) (sym c.self.view_is))
    c.requires.cell in
    let empty : (state_of s.lists s.cells s.links.items s.stack.items s.depth).stack ≡ [] =
    ap (λ (r : Rows). r.stack) c.self.view_is ∙ c.requires.none_unlinked in
    let low : c.args.list < s.lists =
    subst (λ m. c.args.list < m)
    (ap (λ (r : Rows). length r.lists) (sym c.self.view_is)
    ∙ length_rows s.lists s.cells s.links.items s.stack.items s.depth held) c.requires.list in
    let near =
    last_below s.lists s.cells (next_of s.links.items) (prev_of s.links.items)
    (rows_of s.lists s.cells (next_of s.links.items))
    (rep s.lists s.cells s.links.items s.stack.items s.depth held) c.args.list c.args.cell low
    known free in
    (push_state s.lists s.cells s.links.items s.stack.items s.depth held empty c.args.list
    c.args.cell low known free c.splice.new.links.items c.splice.ensures.next
    c.splice.ensures.prev c.splice.ensures.length).held

pub returns : goal.returns
returns c =
    let s = c.self.inside in
    let held = c.self.invariant in
    let ok = s.links.ok in
    let room_links = held.room_links in
    let small = held.few in
    let free : IsFree (rows_of s.lists s.cells (next_of s.links.items)) c.args.cell =
    subst (λ (r : Rows). IsFree r.lists c.args.cell) (sym c.self.view_is) c.requires.free in
    let known : c.args.cell < s.cells =
    subst (λ m. c.args.cell < m) (ap (λ (r : Rows). r.cells) (sym c.self.view_is))
    c.requires.cell in
    let empty : (state_of s.lists s.cells s.links.items s.stack.items s.depth).stack ≡ [] =
    ap (λ (r : Rows). r.stack) c.self.view_is ∙ c.requires.none_unlinked in
    let low : c.args.list < s.lists =
    subst (λ m. c.args.list < m)
    (ap (λ (r : Rows). length r.lists) (sym c.self.view_is)
    ∙ length_rows s.lists s.cells s.links.items s.stack.items s.depth held) c.requires.list in
    let near =
    last_below s.lists s.cells (next_of s.links.items) (prev_of s.links.items)
    (rows_of s.lists s.cells (next_of s.links.items))
    (rep s.lists s.cells s.links.items s.stack.items s.depth held) c.args.list c.args.cell low
    known free in
    (push_state s.lists s.cells s.links.items s.stack.items s.depth held empty c.args.list
    c.args.cell low known free c.splice.new.links.items c.splice.ensures.next
    c.splice.ensures.prev c.splice.ensures.length).state
    ∙ ap (λ r. with_pushed r c.args.list c.args.cell) c.self.view_is
