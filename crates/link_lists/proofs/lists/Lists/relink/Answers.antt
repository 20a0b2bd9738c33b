use Rattle.std.proofs.Common.{arith, sym, ap, ◌∙◌, subst}
use Rattle.link_lists.specs.Lists.{Rows, IsTop, relinked}
use Rattle.link_lists.specs.Links.{saved_of, vacancies, stacked, next_of, prev_of}
use Rattle.link_lists.proofs.States.{relink_state}
use Rattle.link_lists.proofs.lists.Lists.relink.Goals as goal

pub restore-requires-clause-node : goal.restore-requires-clause-node
restore-requires-clause-node c =
    let s = c.self.inside in
    let held = c.self.invariant in
    let ok = s.links.ok in
    let room_links = held.room_links in
    let small = held.few in
    let top : IsTop c.args.cell
    (vacancies
    (saved_of s.lists s.cells (next_of s.links.items) (prev_of s.links.items)
    (stacked s.stack.items s.depth))) =
    subst (λ (r : Rows). IsTop c.args.cell r.stack) (sym c.self.view_is) c.requires in
    let how =
    relink_state s.lists s.cells s.links.items s.stack.items s.depth held c.args.cell top in
    let few = how.few_cell in
    let near_prev = how.few_prev in
    let near_next = how.few_next in
    omega arith

pub restore-requires-clause-near_prev : goal.restore-requires-clause-near_prev
restore-requires-clause-near_prev c =
    let s = c.self.inside in
    let held = c.self.invariant in
    let ok = s.links.ok in
    let room_links = held.room_links in
    let small = held.few in
    let top : IsTop c.args.cell
    (vacancies
    (saved_of s.lists s.cells (next_of s.links.items) (prev_of s.links.items)
    (stacked s.stack.items s.depth))) =
    subst (λ (r : Rows). IsTop c.args.cell r.stack) (sym c.self.view_is) c.requires in
    let how =
    relink_state s.lists s.cells s.links.items s.stack.items s.depth held c.args.cell top in
    let few = how.few_cell in
    let near_prev = how.few_prev in
    let near_next = how.few_next in
    omega arith

pub restore-requires-clause-near_next : goal.restore-requires-clause-near_next
restore-requires-clause-near_next c =
    let s = c.self.inside in
    let held = c.self.invariant in
    let ok = s.links.ok in
    let room_links = held.room_links in
    let small = held.few in
    let top : IsTop c.args.cell
    (vacancies
    (saved_of s.lists s.cells (next_of s.links.items) (prev_of s.links.items)
    (stacked s.stack.items s.depth))) =
    subst (λ (r : Rows). IsTop c.args.cell r.stack) (sym c.self.view_is) c.requires in
    let how =
    relink_state s.lists s.cells s.links.items s.stack.items s.depth held c.args.cell top in
    let few = how.few_cell in
    let near_prev = how.few_prev in
    let near_next = how.few_next in
    omega arith

pub invariant_of-self : goal.invariant_of-self
invariant_of-self c =
    let s = c.self.inside in
    let held = c.self.invariant in
    let ok = s.links.ok in
    let room_links = held.room_links in
    let small = held.few in
    let top : IsTop c.args.cell
    (vacancies
    (saved_of s.lists s.cells (next_of s.links.items) (prev_of s.links.items)
    (stacked s.stack.items s.depth))) =
    subst (λ (r : Rows). IsTop c.args.cell r.stack) (sym c.self.view_is) c.requires in
    let how =
    relink_state s.lists s.cells s.links.items s.stack.items s.depth held c.args.cell top in
    let few = how.few_cell in
    let near_prev = how.few_prev in
    let near_next = how.few_next in
    (how.change c.restore.new.links.items c.restore.ensures.next c.restore.ensures.prev
    c.restore.ensures.length).held

pub returns : goal.returns
returns c =
    let s = c.self.inside in
    let held = c.self.invariant in
    let ok = s.links.ok in
    let room_links = held.room_links in
    let small = held.few in
    let top : IsTop c.args.cell
    (vacancies
    (saved_of s.lists s.cells (next_of s.links.items) (prev_of s.links.items)
    (stacked s.stack.items s.depth))) =
    subst (λ (r : Rows). IsTop c.args.cell r.stack) (sym c.self.view_is) c.requires in
    let how =
    relink_state s.lists s.cells s.links.items s.stack.items s.depth held c.args.cell top in
    let few = how.few_cell in
    let near_prev = how.few_prev in
    let near_next = how.few_next in
    (how.change c.restore.new.links.items c.restore.ensures.next c.restore.ensures.prev
    c.restore.ensures.length).state ∙ ap relinked c.self.view_is
