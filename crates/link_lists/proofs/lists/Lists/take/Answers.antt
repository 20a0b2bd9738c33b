use Rattle.std.proofs.Common.{◌≡◌, [], arith, sym, ap, ◌∙◌, subst}
use Rattle.link_lists.specs.Lists.{Rows, IsListed, with_taken}
use Rattle.link_lists.specs.Links.{rows_of, next_of, state_of}
use Rattle.link_lists.proofs.States.{few_cell, few_prev, few_next, take_state}
use Rattle.link_lists.proofs.lists.Lists.take.Goals as goal

pub bypass-requires-clause-node : goal.bypass-requires-clause-node
bypass-requires-clause-node c =
    let s = c.self.inside in
    let held = c.self.invariant in
    let ok = s.links.ok in
    let room_links = held.room_links in
    let small = held.few in
    let empty : (state_of s.lists s.cells s.links.items s.stack.items s.depth).stack ≡ [] =
    ap (λ (r : Rows). r.stack) c.self.view_is ∙ c.requires.none_unlinked in
    let listed : IsListed (rows_of s.lists s.cells (next_of s.links.items)) c.args.cell =
    subst (λ (r : Rows). IsListed r.lists c.args.cell) (sym c.self.view_is) c.requires.listed in
    let few =
    few_cell s.lists s.cells s.links.items s.stack.items s.depth held c.args.cell listed in
    let near_prev =
    few_prev s.lists s.cells s.links.items s.stack.items s.depth held c.args.cell listed in
    let near_next =
    few_next s.lists s.cells s.links.items s.stack.items s.depth held c.args.cell listed in
    omega arith

pub bypass-requires-clause-near_prev : goal.bypass-requires-clause-near_prev
bypass-requires-clause-near_prev c =
    let s = c.self.inside in
    let held = c.self.invariant in
    let ok = s.links.ok in
    let room_links = held.room_links in
    let small = held.few in
    let empty : (state_of s.lists s.cells s.links.items s.stack.items s.depth).stack ≡ [] =
    ap (λ (r : Rows). r.stack) c.self.view_is ∙ c.requires.none_unlinked in
    let listed : IsListed (rows_of s.lists s.cells (next_of s.links.items)) c.args.cell =
    subst (λ (r : Rows). IsListed r.lists c.args.cell) (sym c.self.view_is) c.requires.listed in
    let few =
    few_cell s.lists s.cells s.links.items s.stack.items s.depth held c.args.cell listed in
    let near_prev =
    few_prev s.lists s.cells s.links.items s.stack.items s.depth held c.args.cell listed in
    let near_next =
    few_next s.lists s.cells s.links.items s.stack.items s.depth held c.args.cell listed in
    omega arith

pub bypass-requires-clause-near_next : goal.bypass-requires-clause-near_next
bypass-requires-clause-near_next c =
    let s = c.self.inside in
    let held = c.self.invariant in
    let ok = s.links.ok in
    let room_links = held.room_links in
    let small = held.few in
    let empty : (state_of s.lists s.cells s.links.items s.stack.items s.depth).stack ≡ [] =
    ap (λ (r : Rows). r.stack) c.self.view_is ∙ c.requires.none_unlinked in
    let listed : IsListed (rows_of s.lists s.cells (next_of s.links.items)) c.args.cell =
    subst (λ (r : Rows). IsListed r.lists c.args.cell) (sym c.self.view_is) c.requires.listed in
    let few =
    few_cell s.lists s.cells s.links.items s.stack.items s.depth held c.args.cell listed in
    let near_prev =
    few_prev s.lists s.cells s.links.items s.stack.items s.depth held c.args.cell listed in
    let near_next =
    few_next s.lists s.cells s.links.items s.stack.items s.depth held c.args.cell listed in
    omega arith

pub invariant_of-self : goal.invariant_of-self
invariant_of-self c =
    let s = c.self.inside in
    let held = c.self.invariant in
    let ok = s.links.ok in
    let room_links = held.room_links in
    let small = held.few in
    let empty : (state_of s.lists s.cells s.links.items s.stack.items s.depth).stack ≡ [] =
    ap (λ (r : Rows). r.stack) c.self.view_is ∙ c.requires.none_unlinked in
    let listed : IsListed (rows_of s.lists s.cells (next_of s.links.items)) c.args.cell =
    subst (λ (r : Rows). IsListed r.lists c.args.cell) (sym c.self.view_is) c.requires.listed in
    let few =
    few_cell s.lists s.cells s.links.items s.stack.items s.depth held c.args.cell listed in
    let near_prev =
    few_prev s.lists s.cells s.links.items s.stack.items s.depth held c.args.cell listed in
    let near_next =
    few_next s.lists s.cells s.links.items s.stack.items s.depth held c.args.cell listed in
    (take_state s.lists s.cells s.links.items s.stack.items s.depth held empty c.args.cell listed
    c.bypass.new.links.items c.bypass.ensures.next c.bypass.ensures.prev
    c.bypass.ensures.length).held

pub returns : goal.returns
returns c =
    let s = c.self.inside in
    let held = c.self.invariant in
    let ok = s.links.ok in
    let room_links = held.room_links in
    let small = held.few in
    let empty : (state_of s.lists s.cells s.links.items s.stack.items s.depth).stack ≡ [] =
    ap (λ (r : Rows). r.stack) c.self.view_is ∙ c.requires.none_unlinked in
    let listed : IsListed (rows_of s.lists s.cells (next_of s.links.items)) c.args.cell =
    subst (λ (r : Rows). IsListed r.lists c.args.cell) (sym c.self.view_is) c.requires.listed in
    let few =
    few_cell s.lists s.cells s.links.items s.stack.items s.depth held c.args.cell listed in
    let near_prev =
    few_prev s.lists s.cells s.links.items s.stack.items s.depth held c.args.cell listed in
    let near_next =
    few_next s.lists s.cells s.links.items s.stack.items s.depth held c.args.cell listed in
    (take_state s.lists s.cells s.links.items s.stack.items s.depth held empty c.args.cell listed
    c.bypass.new.links.items c.bypass.ensures.next c.bypass.ensures.prev
    c.bypass.ensures.length).state ∙ ap (λ r. with_taken r c.args.cell) c.self.view_is
