use Rattle.std.proofs.Common.{◌≡◌, ◌<◌, [], arith, sym, ap, ◌∙◌, subst}
use Rattle.link_lists.specs.Lists.{Rows, IsListed, IsFree, with_inserted}
use Rattle.link_lists.specs.Links.{rows_of, next_of, state_of}
use Rattle.link_lists.proofs.States.{few_cell, few_prev, few_next, insert_state}
use Rattle.link_lists.proofs.lists.Lists.insert_before.Goals as goal

pub splice-requires-clause-after : goal.splice-requires-clause-after
splice-requires-clause-after c =
    let s = c.self.inside in
    let held = c.self.invariant in
    let ok = s.links.ok in
    let room_links = held.room_links in
    let small = held.few in
    let free : IsFree (rows_of s.lists s.cells (next_of s.links.items)) c.args.cell =
    subst (λ (r : Rows). IsFree r.lists c.args.cell) (sym c.self.view_is) c.requires.free in
    let known : c.args.cell < s.cells =
    subst (λ m. c.args.cell < m) (ap (λ (r : Rows). r.cells) (sym c.self.view_is))
    c.requires.cell in
    let empty : (state_of s.lists s.cells s.links.items s.stack.items s.depth).stack ≡ [] =
    ap (λ (r : Rows). r.stack) c.self.view_is ∙ c.requires.none_unlinked in
    let listed : IsListed (rows_of s.lists s.cells (next_of s.links.items)) c.args.at =
    subst (λ (r : Rows). IsListed r.lists c.args.at) (sym c.self.view_is) c.requires.listed in
    let few = few_cell s.lists s.cells s.links.items s.stack.items s.depth held c.args.at listed in
    let near_prev =
    few_prev s.lists s.cells s.links.items s.stack.items s.depth held c.args.at listed in
    let near_next =
    few_next s.lists s.cells s.links.items s.stack.items s.depth held c.args.at listed in
    omega arith

pub splice-requires-clause-near : goal.splice-requires-clause-near
splice-requires-clause-near c =
    let s = c.self.inside in
    let held = c.self.invariant in
    let ok = s.links.ok in
    let room_links = held.room_links in
    let small = held.few in
    let free : IsFree (rows_of s.lists s.cells (next_of s.links.items)) c.args.cell =
    subst (λ (r : Rows). IsFree r.lists c.args.cell) (sym c.self.view_is) c.requires.free in
    let known : c.args.cell < s.cells =
    subst (λ m. c.args.cell < m) (ap (λ (r : Rows). r.cells) (sym c.self.view_is))
    c.requires.cell in
    let empty : (state_of s.lists s.cells s.links.items s.stack.items s.depth).stack ≡ [] =
    ap (λ (r : Rows). r.stack) c.self.view_is ∙ c.requires.none_unlinked in
    let listed : IsListed (rows_of s.lists s.cells (next_of s.links.items)) c.args.at =
    subst (λ (r : Rows). IsListed r.lists c.args.at) (sym c.self.view_is) c.requires.listed in
    let few = few_cell s.lists s.cells s.links.items s.stack.items s.depth held c.args.at listed in
    let near_prev =
    few_prev s.lists s.cells s.links.items s.stack.items s.depth held c.args.at listed in
    let near_next =
    few_next s.lists s.cells s.links.items s.stack.items s.depth held c.args.at listed in
    omega arith

pub invariant_of-self : goal.invariant_of-self
invariant_of-self c =
    let s = c.self.inside in
    let held = c.self.invariant in
    let ok = s.links.ok in
    let room_links = held.room_links in
    let small = held.few in
    let free : IsFree (rows_of s.lists s.cells (next_of s.links.items)) c.args.cell =
    subst (λ (r : Rows). IsFree r.lists c.args.cell) (sym c.self.view_is) c.requires.free in
    let known : c.args.cell < s.cells =
    subst (λ m. c.args.cell < m) (ap (λ (r : Rows). r.cells) (sym c.self.view_is))
    c.requires.cell in
    let empty : (state_of s.lists s.cells s.links.items s.stack.items s.depth).stack ≡ [] =
    ap (λ (r : Rows). r.stack) c.self.view_is ∙ c.requires.none_unlinked in
    let listed : IsListed (rows_of s.lists s.cells (next_of s.links.items)) c.args.at =
    subst (λ (r : Rows). IsListed r.lists c.args.at) (sym c.self.view_is) c.requires.listed in
    let few = few_cell s.lists s.cells s.links.items s.stack.items s.depth held c.args.at listed in
    let near_prev =
    few_prev s.lists s.cells s.links.items s.stack.items s.depth held c.args.at listed in
    let near_next =
    few_next s.lists s.cells s.links.items s.stack.items s.depth held c.args.at listed in
    (insert_state s.lists s.cells s.links.items s.stack.items s.depth held empty c.args.cell
    c.args.at listed known free c.splice.new.links.items c.splice.ensures.next
    c.splice.ensures.prev c.splice.ensures.length).held

pub returns : goal.returns
returns c =
    let s = c.self.inside in
    let held = c.self.invariant in
    let ok = s.links.ok in
    let room_links = held.room_links in
    let small = held.few in
    let free : IsFree (rows_of s.lists s.cells (next_of s.links.items)) c.args.cell =
    subst (λ (r : Rows). IsFree r.lists c.args.cell) (sym c.self.view_is) c.requires.free in
    let known : c.args.cell < s.cells =
    subst (λ m. c.args.cell < m) (ap (λ (r : Rows). r.cells) (sym c.self.view_is))
    c.requires.cell in
    let empty : (state_of s.lists s.cells s.links.items s.stack.items s.depth).stack ≡ [] =
    ap (λ (r : Rows). r.stack) c.self.view_is ∙ c.requires.none_unlinked in
    let listed : IsListed (rows_of s.lists s.cells (next_of s.links.items)) c.args.at =
    subst (λ (r : Rows). IsListed r.lists c.args.at) (sym c.self.view_is) c.requires.listed in
    let few = few_cell s.lists s.cells s.links.items s.stack.items s.depth held c.args.at listed in
    let near_prev =
    few_prev s.lists s.cells s.links.items s.stack.items s.depth held c.args.at listed in
    let near_next =
    few_next s.lists s.cells s.links.items s.stack.items s.depth held c.args.at listed in
    (insert_state s.lists s.cells s.links.items s.stack.items s.depth held empty c.args.cell
    c.args.at listed known free c.splice.new.links.items c.splice.ensures.next
    c.splice.ensures.prev c.splice.ensures.length).state
    ∙ ap (λ r. with_inserted r c.args.cell c.args.at) c.self.view_is
