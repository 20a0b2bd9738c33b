use Rattle.std.proofs.Common.{◌<◌, ◌≤◌, ◌+◌, ◌^◌, ℕ, List, length, arith, sym, ap, ◌∙◌, subst}
use Rattle.link_lists.specs.Lists.{Rows, with_cells}
use Rattle.link_lists.specs.Links.{state_of}
use Rattle.link_lists.proofs.States.{longer_state}
use Rattle.std.proofs.Common.{◌++◌}
use Rattle.link_lists.specs.Links.{IsHeld}
use Rattle.link_lists.proofs.lists.Lists.grow.Goals as goal

pub invariant_of-self-2 : goal.invariant_of-self-2
invariant_of-self-2 c =
    let s = c.self.inside in
    let held = c.self.invariant in
    let ok = s.links.ok in
    let room_links = held.room_links in
    let small = held.few in
    let behind = c.in_ok-lengthen_stack.ensures.behind in
    let more = c.args.cells in
    let long = c.in_ok-lengthen.ensures.enough in
    let long_stack : s.cells + more ≤ length (s.stack.items ++ behind.0) =
    subst (λ (xs : List ℕ). s.cells + more ≤ length xs) behind.1
    c.in_ok-lengthen_stack.ensures.enough in
    let fits : s.cells + more < 2 ^ 32 =
    subst (λ (r : Rows). r.cells + more < 2 ^ 32) (sym c.self.view_is) c.requires in
    let all =
    longer_state s.lists s.cells more s.links.items c.lengthen.new.links.items s.stack.items
    behind.0 s.depth held c.in_ok-lengthen.ensures.next c.in_ok-lengthen.ensures.prev fits
    (omega arith) long_stack in
    subst (λ (xs : List ℕ). IsHeld s.lists (s.cells + more) c.lengthen.new.links.items xs s.depth)
    (sym behind.1) all.held

pub returns-clause-more : goal.returns-clause-more
returns-clause-more c =
    let s = c.self.inside in
    let held = c.self.invariant in
    let ok = s.links.ok in
    let room_links = held.room_links in
    let small = held.few in
    let behind = c.in_ok-lengthen_stack.ensures.behind in
    let more = c.args.cells in
    let long = c.in_ok-lengthen.ensures.enough in
    let long_stack : s.cells + more ≤ length (s.stack.items ++ behind.0) =
    subst (λ (xs : List ℕ). s.cells + more ≤ length xs) behind.1
    c.in_ok-lengthen_stack.ensures.enough in
    let fits : s.cells + more < 2 ^ 32 =
    subst (λ (r : Rows). r.cells + more < 2 ^ 32) (sym c.self.view_is) c.requires in
    let all =
    longer_state s.lists s.cells more s.links.items c.lengthen.new.links.items s.stack.items
    behind.0 s.depth held c.in_ok-lengthen.ensures.next c.in_ok-lengthen.ensures.prev fits
    (omega arith) long_stack in
    ap (λ (xs : List ℕ). state_of s.lists (s.cells + more) c.lengthen.new.links.items xs s.depth)
    behind.1 ∙ (all.state ∙ ap (λ r. with_cells r more) c.self.view_is)
